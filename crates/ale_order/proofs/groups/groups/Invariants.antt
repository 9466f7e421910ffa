use Rattle.std.proofs.Common.{drop}
use Rattle.ale_order.proofs.Dependences.{IsToCome}
use Rattle.ale_order.proofs.groups.groups.Given as goal

abbrev pub invariant-loop-r : goal.invariant-loop-r
invariant-loop-r l = IsToCome l.graph l.size l.groups.items (drop l.r-index l.left)
