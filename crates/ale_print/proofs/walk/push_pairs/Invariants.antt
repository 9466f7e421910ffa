use Rattle.std.proofs.Common.{◌≡◌, ◌≤◌, ◌++◌, drop, length}
use Rattle.ale_print.specs.Walking.{also_stops}
use Rattle.ale_print.specs.Steps.{from_top}
use Rattle.ale_print.proofs.walk.push_pairs.Given as goal

abbrev pub invariant-loop-left : goal.invariant-loop-left
invariant-loop-left l =
    (l.left ≤ length l.pairs) × (from_top l.stack.items ≡ also_stops (drop l.left l.pairs) ++ from_top l.fn.stack.items)

abbrev pub decreases-loop-left : goal.decreases-loop-left
decreases-loop-left l = l.left
