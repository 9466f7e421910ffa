use Rattle.std.proofs.Common.{ℕ, ◌<◌, ◌∙◌, sym, Option, List, length, arith}
use Rattle.std.proofs.lemmas.Result.{err_from_is_err_and}
use Rattle.ale_hierarchy.specs.declared.stop.Stop.TheVariants.{Refused}
use Rattle.ale_hierarchy.specs.Order.{approp}
use Rattle.ale_hierarchy.specs.Stages.{HasRestriction}
use Rattle.ale_hierarchy.proofs.LoopLemmas.{IsErrOf-moved}
use Rattle.ale_hierarchy.proofs.StageLemmas.{mentions_of-within}
use Rattle.ale_hierarchy.proofs.JoinTableLemmas.{below_next}
use Rattle.ale_hierarchy.proofs.TabulatedLemmas.{tabulated_more}
use Rattle.ale_signature.proofs.RestrictionLemmas.{approp_is, HasRestriction-from, restrictions_lack}
use Rattle.ale_signature.proofs.StageFaults.{HasRestrictions-found}
use Rattle.ale_signature.proofs.restrictions.restriction_row.Goals as goal

pub restriction-requires-clause-mentions : goal.restriction-requires-clause-mentions
restriction-requires-clause-mentions c =
    rw (c.as_slice.ensures.value, c.in_ok-mentions.ensures.value) (mentions_of-within c.args.order.now c.args.f c.mentions_of.ensures.ordered)

pub returns-in_err-restriction-clause-refused : goal.returns-in_err-restriction-clause-refused
returns-in_err-restriction-clause-refused c =
    let d = c.args.order.now in
    let is = c.as_slice.ensures.value ∙ c.in_ok-mentions.ensures.value in
    let below : c.loop-t.t < length d.types = omega arith in
    let p = err_from_is_err_and c.from_residual-in_err-restriction.result c.from_residual-in_err-restriction.ensures.1 in
    rw (p.1, p.2) (λ h no_fault.
    restrictions_lack d c.args.f c.loop-t.t c.mentions_of.ensures.ordered.numbered below
    (rw is at (c.in_err-restriction.ensures.refused (IsErrOf-moved (List (Option ℕ)) (Option ℕ) c.in_err-restriction.field-0.0 Refused h)))
    (HasRestrictions-found d c.mentions_of.ensures.ordered no_fault))

pub loop-t-preserved : goal.loop-t-preserved
loop-t-preserved c =
    let d = c.args.order.now in
    let t = c.loop-t.t in
    let ordered = c.mentions_of.ensures.ordered in
    let is = c.as_slice.ensures.value ∙ c.in_ok-mentions.ensures.value in
    let value = rw is at c.in_ok-restriction.ensures.value in
    let there = rw is at c.in_ok-restriction.ensures.there in
    record {
      row = tabulated_more (approp d c.args.f) t c.loop-t.row.items c.push.new.self.items c.in_ok-restriction.field-0 c.loop-t.invariant.row c.in_ok-push.ensures.items (value ∙ sym (approp_is d c.args.f t));
      there = below_next (λ (u : ℕ). HasRestriction d c.args.f u) t c.loop-t.invariant.there (HasRestriction-from d c.args.f t c.in_ok-restriction.field-0 ordered.numbered value there);
    }
