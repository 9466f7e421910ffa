use Rattle.ale_morph.specs.Stack.{as_step}
use Rattle.ale_morph.specs.Underway.{Tells, steps_left}
use Rattle.ale_morph.proofs.search.fit.Given as goal

abbrev pub invariant-loop-status : goal.invariant-loop-status
invariant-loop-status l = Tells l.side l.word (as_step l.status l.search)

abbrev pub decreases-loop-status : goal.decreases-loop-status
decreases-loop-status l = steps_left (as_step l.status l.search)
