use Rattle.std.proofs.Common.{◌≡◌, ◌≤◌, ◌++◌, drop, length}
use Rattle.ale_print.specs.Walking.{root_stops}
use Rattle.ale_print.specs.Steps.{from_top}
use Rattle.ale_print.proofs.walk.push_roots.Given as goal

abbrev pub invariant-loop-left : goal.invariant-loop-left
invariant-loop-left l =
    (l.left ≤ length l.roots)
    × (from_top l.stack.items ≡ root_stops l.left (drop l.left l.roots) ++ from_top l.fn.stack.items)

abbrev pub decreases-loop-left : goal.decreases-loop-left
decreases-loop-left l = l.left
