use Rattle.std.proofs.Common.{◌≡◌, ◌++◌, List, Option, ℕ, length, ap, ◌∙◌, subst, append-nil, IsTrue}
use Rattle.ale_graph.specs.declared.node.Node.{Node}
use Rattle.ale_graph.specs.Structures.{Structure, count, is_formed}
use Rattle.ale_print.specs.declared.line.Stop.{Stop}
use Rattle.ale_print.specs.Pairing.{in_order}
use Rattle.ale_print.specs.Walking.{root_stops, also_stops}
use Rattle.ale_print.specs.Steps.{from_top}
use Rattle.ale_print.proofs.Underway.{begun_with}
use Rattle.ale_print.proofs.walk.lines.Goals as goal

pub loop-stop-init : goal.loop-stop-init
loop-stop-init c =
    let s = c.args.g.now in
    let nodes : length c.as_slice.result.now ≡ count s = ap (λ (z : List Node). length z) (c.as_slice.ensures ∙ ap (λ (z : Structure). z.nodes) c.g.view_is) in
    let roots : c.as_slice-2.result.now ≡ s.roots = c.as_slice-2.ensures ∙ ap (λ (z : Structure). z.roots) c.g.view_is in
    let formed = subst (λ (z : Structure). IsTrue (is_formed z)) c.g.view_is c.g.invariant in
    let alone : from_top c.push_pairs.new.stack.items ≡ also_stops (in_order s.differ) =
    c.in_ok-push_pairs.ensures ∙ ap (λ (z : List Stop). also_stops c.args.pairs.now ++ from_top z) c.new-stack.ensures.items
    ∙ append-nil (also_stops c.args.pairs.now) ∙ ap also_stops c.requires in
    let stack : from_top c.push_roots.new.stack.items ≡ root_stops 0 s.roots ++ also_stops (in_order s.differ) =
    c.in_ok-push_roots.ensures ∙ ap (λ (z : List (Option ℕ)). root_stops 0 z ++ from_top c.push_pairs.new.stack.items) roots
    ∙ ap (λ (z : List Stop). root_stops 0 s.roots ++ z) alone in
    begun_with s (length c.as_slice.result.now) c.in_ok-met.met.items c.new-lines.result.items (from_top c.push_roots.new.stack.items) nodes formed
    (c.in_ok-met.ensures.items_if_clones_equal (λ y e. e)) c.new-lines.ensures.items stack
