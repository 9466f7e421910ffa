use Rattle.std.proofs.Common.{ℕ, ◌<◌, length, arith}
use Rattle.ale_hierarchy.specs.Stages.{restriction_row, HasRestriction}
use Rattle.ale_hierarchy.proofs.JoinTableLemmas.{below_next}
use Rattle.ale_hierarchy.proofs.TabulatedLemmas.{tabulated_more}
use Rattle.ale_signature.proofs.restrictions.all_restrictions.Goals as goal

pub loop-f-preserved : goal.loop-f-preserved
loop-f-preserved c =
    let d = c.args.order.now in
    let f = c.loop-f.f in
    record {
      rows = tabulated_more (restriction_row d) f c.loop-f.rows.items c.push.new.self.items c.in_ok-restriction_row.field-0 c.loop-f.invariant.rows c.in_ok-push.ensures.items c.in_ok-restriction_row.ensures.row;
      there = λ g t less. below_next (λ (g : ℕ). (t : ℕ) → t < length d.types → HasRestriction d g t) f (λ g less t. c.loop-f.invariant.there g t less) c.in_ok-restriction_row.ensures.there g less t;
    }

pub returns-clause-there : goal.returns-clause-there
returns-clause-there c = λ f t p q. c.loop-f.invariant.there f t (omega arith) q
