use Rattle.std.proofs.Common.{◌≡◌, ◌++◌, drop}
use Rattle.ale_hierarchy.specs.Stages.{directly_below}
use Rattle.ale_hierarchy.proofs.order.Order.directly_below.Given as goal

abbrev pub invariant-loop-from : goal.invariant-loop-from
invariant-loop-from l = l.below.items ++ directly_below (drop l.from-index l.from-items) l.t ≡ directly_below l.from-items l.t
