use Rattle.ale_print.specs.Steps.{from_top, to_come, IsUnderway}
use Rattle.ale_print.proofs.walk.lines.Given as goal

abbrev pub invariant-loop-stop : goal.invariant-loop-stop
invariant-loop-stop l = IsUnderway l.g l.met.items l.lines.items (from_top l.stack.items)

abbrev pub decreases-loop-stop : goal.decreases-loop-stop
decreases-loop-stop l = to_come l.g l.met.items (from_top l.stack.items)
