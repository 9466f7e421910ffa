use Rattle.std.proofs.Common.{◌≡◌, ℕ, ◌<◌, length}
use Rattle.ale_hierarchy.specs.Order.{rank}
use Rattle.ale_hierarchy.specs.Stages.{IsFilled}
use Rattle.ale_hierarchy.proofs.joins.fill_rank.Given as goal

abbrev pub invariant-loop-a : goal.invariant-loop-a
invariant-loop-a l = record {
  len : length l.rows.items ≡ length l.order.types;
  before : (t : ℕ) → t < length l.order.types → rank l.order t < l.due → IsFilled l.order l.rows.items t;
  here : (t : ℕ) → t < l.a → rank l.order t ≡ l.due → IsFilled l.order l.rows.items t;
}
