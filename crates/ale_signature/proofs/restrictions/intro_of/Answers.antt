use Rattle.std.proofs.Common.{◌∙◌, sym, map, ap, length, Some}
use Rattle.ale_declared.specs.declared.decl.Mention.{Mention}
use Rattle.ale_hierarchy.proofs.StageLemmas.{mentions_of-within}
use Rattle.ale_signature.proofs.RestrictionLemmas.{ats-below, intro_found}
use Rattle.ale_hierarchy.specs.Faults.{when, lacks_intro, two_intros}
use Rattle.ale_hierarchy.proofs.HierarchyFaults.{refuses_as}
use Rattle.ale_signature.proofs.StageFaults.{lacks_intro_at}
use Rattle.ale_signature.proofs.restrictions.intro_of.Goals as goal

pub types_at-requires : goal.types_at-requires
types_at-requires c =
    rw (c.as_slice.ensures.value, c.in_ok-mentions.ensures.value) (mentions_of-within c.args.order.now c.args.f c.mentions_of.ensures.ordered)

pub most_general-requires : goal.most_general-requires
most_general-requires c =
    rw (c.as_slice-2.ensures.value, c.in_ok-types.ensures, c.as_slice.ensures.value, c.in_ok-mentions.ensures.value) (ats-below (length c.args.order.now.types) _ (mentions_of-within c.args.order.now c.args.f c.mentions_of.ensures.ordered))

pub returns-in-Some-clause-value : goal.returns-in-Some-clause-value
returns-in-Some-clause-value c =
    let types = c.in_ok-types.ensures ∙ ap (map (λ (m : Mention). m.at)) (c.as_slice.ensures.value ∙ c.in_ok-mentions.ensures.value) in
    let top = rw (c.as_slice-2.ensures.value, types) at (sym c.most_general.ensures ∙ c.in-Some.is) in
    (intro_found c.args.order.now c.args.f c.in-Some.t c.mentions_of.ensures.ordered top).0

pub returns-in-Some-clause-introduces : goal.returns-in-Some-clause-introduces
returns-in-Some-clause-introduces c =
    let types = c.in_ok-types.ensures ∙ ap (map (λ (m : Mention). m.at)) (c.as_slice.ensures.value ∙ c.in_ok-mentions.ensures.value) in
    let top = rw (c.as_slice-2.ensures.value, types) at (sym c.most_general.ensures ∙ c.in-Some.is) in
    (intro_found c.args.order.now c.args.f c.in-Some.t c.mentions_of.ensures.ordered top).1

pub returns-clause-refused : goal.returns-clause-refused
returns-clause-refused c =
    let d = c.args.order.now in
    let f = c.args.f in
    let types = c.in_ok-types.ensures ∙ ap (map (λ (m : Mention). m.at)) (c.as_slice.ensures.value ∙ c.in_ok-mentions.ensures.value) in
    let none = rw (c.as_slice-2.ensures.value, types) at (sym c.most_general.ensures ∙ c.in-None.is) in
    refuses_as d (Some c.in_ok-fault-in-None.fault) (when (lacks_intro d f) (two_intros d f)) c.refusal.result
    (sym (lacks_intro_at d f none ∙ ap Some (sym c.in_ok-fault-in-None.ensures)))
    (rw c.outline.ensures.value at c.refusal.ensures)
