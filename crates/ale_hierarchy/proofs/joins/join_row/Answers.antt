use Rattle.std.proofs.Common.{ℕ}
use Rattle.ale_hierarchy.specs.Order.{join}
use Rattle.ale_hierarchy.specs.Stages.{HasLeast}
use Rattle.ale_hierarchy.proofs.JoinTableLemmas.{rank-below, below_next}
use Rattle.ale_hierarchy.proofs.TabulatedLemmas.{tabulated_more}
use Rattle.ale_hierarchy.proofs.joins.join_row.Goals as goal

pub join_of-requires-clause-filled : goal.join_of-requires-clause-filled
join_of-requires-clause-filled c =
    λ t h.
    let at = rank-below c.args.order.now c.args.a t c.type_count-b-end.ensures.ordered (rw (c.as_slice.ensures.value, c.in_ok-below.ensures) at h) in
    c.requires.filled t at.0 at.1

pub loop-b-preserved : goal.loop-b-preserved
loop-b-preserved c = record {
  row = tabulated_more (join c.args.order.now c.args.a) c.loop-b.b c.loop-b.row.items c.push.new.self.items c.in_ok-join_of.field-0 c.loop-b.invariant.row c.in_ok-push.ensures.items c.in_ok-join_of.ensures.value;
  least = below_next (λ (k : ℕ). HasLeast c.args.order.now c.args.a k) c.loop-b.b c.loop-b.invariant.least c.in_ok-join_of.ensures.least;
}
