use Rattle.std.proofs.Common.{◌≡◌, ◌≤◌, ◌++◌, drop, length, map}
use Rattle.ale_print.specs.Walking.{stop_below}
use Rattle.ale_print.specs.Steps.{from_top}
use Rattle.ale_print.proofs.walk.push_below.Given as goal

abbrev pub invariant-loop-left : goal.invariant-loop-left
invariant-loop-left l =
    (l.left ≤ length l.values)
    × (from_top l.stack.items ≡ map (stop_below l.level) (drop l.left l.values) ++ from_top l.fn.stack.items)

abbrev pub decreases-loop-left : goal.decreases-loop-left
decreases-loop-left l = l.left
