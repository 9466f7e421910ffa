use Rattle.std.proofs.Common.{IsTrue, subst, sym, ◌∙◌}
use Rattle.ale_hierarchy.specs.Order.{hierarchy}
use Rattle.ale_graph.specs.Structures.{Structure, is_formed}
use Rattle.ale_graph.specs.Working.{lists_of}
use Rattle.ale_graph.proofs.ResultSteps.{graph_made}
use Rattle.ale_graph.proofs.result.graph.Goals as goal

pub invariant_of-result : goal.invariant_of-result
invariant_of-result c =
    let e = graph_made (hierarchy c.args.sig.now) (lists_of c.args.draft.now) c.requires.draft c.as_slice.result.now c.as_slice-4.result.now c.in_ok-places.places.items c.as_slice-2.result.now c.as_slice-3.result.now c.as_slice-5.result.now c.of.result c.of-2.result c.of-3.result c.as_slice.ensures.value c.as_slice-4.ensures.value c.in_ok-places.ensures c.as_slice-2.ensures.value c.as_slice-3.ensures.value c.as_slice-5.ensures.value (c.of.ensures ∙ c.in_ok-nodes.ensures) (c.of-2.ensures ∙ c.in_ok-pairs.ensures) (c.of-3.ensures ∙ c.new.ensures.items) in
    subst (λ (z : Structure). IsTrue (is_formed z)) (sym e) c.requires.formed

pub returns : goal.returns
returns c =
    graph_made (hierarchy c.args.sig.now) (lists_of c.args.draft.now) c.requires.draft c.as_slice.result.now c.as_slice-4.result.now c.in_ok-places.places.items c.as_slice-2.result.now c.as_slice-3.result.now c.as_slice-5.result.now c.of.result c.of-2.result c.of-3.result c.as_slice.ensures.value c.as_slice-4.ensures.value c.in_ok-places.ensures c.as_slice-2.ensures.value c.as_slice-3.ensures.value c.as_slice-5.ensures.value (c.of.ensures ∙ c.in_ok-nodes.ensures) (c.of-2.ensures ∙ c.in_ok-pairs.ensures) (c.of-3.ensures ∙ c.new.ensures.items)
