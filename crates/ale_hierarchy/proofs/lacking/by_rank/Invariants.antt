use Rattle.std.proofs.Common.{◌≡◌, length}
use Rattle.ale_hierarchy.specs.Order.{rank}
use Rattle.ale_hierarchy.proofs.LackingLemmas.{listed}
use Rattle.ale_hierarchy.proofs.lacking.by_rank.Given as goal

abbrev pub invariant-loop-step : goal.invariant-loop-step
invariant-loop-step l = l.types.items ≡ listed (rank l.order) (length l.order.types) l.step
