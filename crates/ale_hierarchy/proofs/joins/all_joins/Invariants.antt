use Rattle.std.proofs.Common.{◌≡◌, ℕ, ◌<◌, length}
use Rattle.ale_hierarchy.specs.Order.{rank}
use Rattle.ale_hierarchy.specs.Stages.{IsFilled}
use Rattle.ale_hierarchy.proofs.joins.all_joins.Given as goal

abbrev pub invariant-loop-rank : goal.invariant-loop-rank
invariant-loop-rank l = record {
  len : length l.rows.items ≡ length l.order.types;
  filled : (t : ℕ) → t < length l.order.types → rank l.order t < l.rank → IsFilled l.order l.rows.items t;
}
