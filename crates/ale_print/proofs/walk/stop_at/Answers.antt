use Rattle.std.proofs.Common.{◌≡◌, ◌<◌, ◌∷◌, List, Bool, true, false, get_or, length, sym, ap, ◌∙◌, subst, IsTrue}
use Rattle.ale_graph.specs.declared.node.Node.{Node}
use Rattle.ale_graph.specs.Structures.{Structure, node_at, is_formed}
use Rattle.ale_print.specs.declared.line.Line.{Line}
use Rattle.ale_print.specs.Steps.{from_top, IsUnderway}
use Rattle.ale_print.proofs.Appended.{on_ok}
use Rattle.ale_print.proofs.Stepping.{node_here}
use Rattle.ale_print.proofs.Underway.{unbound_stop, again_stop, first_underway, pushed, in_range}
use Rattle.ale_print.proofs.walk.stop_at.Goals as goal

pub returns-in_default-clause-underway : goal.returns-in_default-clause-underway
returns-in_default-clause-underway c =
    let s = c.args.g.now in
    let rest = from_top c.args.stack.now.items in
    let u = subst (λ m. IsUnderway s c.args.met.now.items c.args.lines.now.items (record { place = c.args.stop.place; node = m } ∷ rest)) c.in_default.is c.requires in
    on_ok c.push_line.result
    (λ e. subst (λ (z : List Line). IsUnderway s c.args.met.now.items z rest) (sym e) (unbound_stop s c.args.met.now.items c.args.lines.now.items c.args.stop.place rest u))
    c.push_line.ensures

pub returns-then-flag_of-clause-underway : goal.returns-then-flag_of-clause-underway
returns-then-flag_of-clause-underway c =
    let s = c.args.g.now in
    let met = c.args.met.now.items in
    let rest = from_top c.args.stack.now.items in
    let flagged : get_or met c.in-Some.node false ≡ true =
    ap (λ (z : List Bool). get_or z c.in-Some.node false) (sym c.as_slice.ensures.value) ∙ sym c.flag_of.ensures ∙ c.if-flag_of.true in
    let u = subst (λ m. IsUnderway s met c.args.lines.now.items (record { place = c.args.stop.place; node = m } ∷ rest)) c.in-Some.is c.requires in
    on_ok c.push_again.result
    (λ e. subst (λ (z : List Line). IsUnderway s met z rest) (sym e) (again_stop s met c.args.lines.now.items c.args.stop.place c.in-Some.node rest flagged u))
    c.push_again.ensures

pub returns-clause-underway : goal.returns-clause-underway
returns-clause-underway c =
    let s = c.args.g.now in
    let met = c.args.met.now.items in
    let lines = c.args.lines.now.items in
    let n = c.in-Some.node in
    let p = c.args.stop.place in
    let rest = from_top c.args.stack.now.items in
    let open_yet : get_or met n false ≡ false =
    ap (λ (z : List Bool). get_or z n false) (sym c.as_slice.ensures.value) ∙ sym c.flag_of.ensures ∙ c.if-flag_of.false in
    let u = subst (λ m. IsUnderway s met lines (record { place = p; node = m } ∷ rest)) c.in-Some.is c.requires in
    let formed = subst (λ (z : Structure). IsTrue (is_formed z)) c.g.view_is c.g.invariant in
    let nodes : c.as_slice-2.result.now ≡ s.nodes = c.as_slice-2.ensures ∙ ap (λ (z : Structure). z.nodes) c.g.view_is in
    let low = subst (λ (z : List Node). n < length z) (sym nodes) (in_range s met lines p n rest u) in
    let here = node_here s c.as_slice-2.result.now n c.index-as_slice-node.result nodes low c.index-as_slice-node.is in
    let values : c.as_slice-values.result.now ≡ (node_at s n).values =
    c.as_slice-values.ensures ∙ ap (λ (x : Node). x.values) (sym c.index-as_slice-node.is ∙ sym here) in
    on_ok c.push_below.result
    (λ e.
    (first_underway s met c.set_flag.new.flags.items lines c.push_line-2.new.lines.items p n rest (from_top c.push_below.new.stack.items) formed open_yet
    c.set_flag.ensures c.in_ok-push_line.ensures (e ∙ pushed s p n rest c.level_below.result c.as_slice-values.result.now c.level_below.ensures values) u).0)
    c.push_below.ensures

pub returns-clause-fewer : goal.returns-clause-fewer
returns-clause-fewer c =
    let s = c.args.g.now in
    let met = c.args.met.now.items in
    let lines = c.args.lines.now.items in
    let n = c.in-Some.node in
    let p = c.args.stop.place in
    let rest = from_top c.args.stack.now.items in
    let open_yet : get_or met n false ≡ false =
    ap (λ (z : List Bool). get_or z n false) (sym c.as_slice.ensures.value) ∙ sym c.flag_of.ensures ∙ c.if-flag_of.false in
    let u = subst (λ m. IsUnderway s met lines (record { place = p; node = m } ∷ rest)) c.in-Some.is c.requires in
    let formed = subst (λ (z : Structure). IsTrue (is_formed z)) c.g.view_is c.g.invariant in
    let nodes : c.as_slice-2.result.now ≡ s.nodes = c.as_slice-2.ensures ∙ ap (λ (z : Structure). z.nodes) c.g.view_is in
    let low = subst (λ (z : List Node). n < length z) (sym nodes) (in_range s met lines p n rest u) in
    let here = node_here s c.as_slice-2.result.now n c.index-as_slice-node.result nodes low c.index-as_slice-node.is in
    let values : c.as_slice-values.result.now ≡ (node_at s n).values =
    c.as_slice-values.ensures ∙ ap (λ (x : Node). x.values) (sym c.index-as_slice-node.is ∙ sym here) in
    on_ok c.push_below.result
    (λ e.
    (first_underway s met c.set_flag.new.flags.items lines c.push_line-2.new.lines.items p n rest (from_top c.push_below.new.stack.items) formed open_yet
    c.set_flag.ensures c.in_ok-push_line.ensures (e ∙ pushed s p n rest c.level_below.result c.as_slice-values.result.now c.level_below.ensures values) u).1)
    c.push_below.ensures
