use Rattle.std.proofs.Common.{◌≡◌, IsTrue, subst, sym, rules, ◌∙◌}
use Rattle.ale_graph.specs.Structures.{Structure, is_formed}
use Rattle.ale_morphism.proofs.ReachSteps.{visible_formed, visible_slices}
use Rattle.ale_morphism.specs.VisibleLaws.{IsPart}
use Rattle.ale_morphism.proofs.VisibleLaws.{visible_law}
use Rattle.ale_morphism.proofs.seen.visible.Goals as goal

pub invariant_of-result : goal.invariant_of-result
invariant_of-result c =
    let formed : IsTrue (is_formed c.args.g.now) = search rules in
    let pairs : c.as_slice-5.result.now ≡ c.args.g.now.differ = search rules in
    let bound : c.as_slice-7.result.now ≡ c.args.g.now.roots = search rules in
    subst (λ (z : Structure). IsTrue (is_formed z)) (sym (visible_slices c.args.g.now formed c.in_ok-flags.flags.items c.as_slice.result.now c.as_slice-2.result.now c.in_ok-numbers.numbers.items c.as_slice-3.result.now c.as_slice-4.result.now c.as_slice-6.result.now c.of.result c.as_slice-5.result.now c.of-2.result c.as_slice-7.result.now c.of-3.result c.in_ok-flags.ensures c.as_slice.ensures.value c.as_slice-2.ensures.value c.in_ok-numbers.ensures c.as_slice-3.ensures.value c.as_slice-4.ensures.value c.as_slice-6.ensures.value (c.of.ensures ∙ c.in_ok-nodes.ensures) pairs (c.of-2.ensures ∙ c.in_ok-differ.ensures) bound (c.of-3.ensures ∙ c.in_ok-roots.ensures))) (visible_formed c.args.g.now formed)

pub returns : goal.returns
returns c =
    let formed : IsTrue (is_formed c.args.g.now) = search rules in
    let pairs : c.as_slice-5.result.now ≡ c.args.g.now.differ = search rules in
    let bound : c.as_slice-7.result.now ≡ c.args.g.now.roots = search rules in
    let same = visible_slices c.args.g.now formed c.in_ok-flags.flags.items c.as_slice.result.now c.as_slice-2.result.now c.in_ok-numbers.numbers.items c.as_slice-3.result.now c.as_slice-4.result.now c.as_slice-6.result.now c.of.result c.as_slice-5.result.now c.of-2.result c.as_slice-7.result.now c.of-3.result c.in_ok-flags.ensures c.as_slice.ensures.value c.as_slice-2.ensures.value c.in_ok-numbers.ensures c.as_slice-3.ensures.value c.as_slice-4.ensures.value c.as_slice-6.ensures.value (c.of.ensures ∙ c.in_ok-nodes.ensures) pairs (c.of-2.ensures ∙ c.in_ok-differ.ensures) bound (c.of-3.ensures ∙ c.in_ok-roots.ensures) in
    record { value = same; part = subst (IsPart c.args.g.now) (sym same) (visible_law c.args.g.now formed) }
