use Rattle.std.proofs.Common.{◌≡◌}
use Rattle.ale_hierarchy.specs.Order.{rank}
use Rattle.ale_hierarchy.specs.Stages.{tabulated}
use Rattle.ale_hierarchy.proofs.order.Order.ranks.Given as goal

abbrev pub invariant-loop-t : goal.invariant-loop-t
invariant-loop-t l = l.ranks.items ≡ tabulated (rank l.self) l.t
