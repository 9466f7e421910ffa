use Rattle.ale_visit.specs.Views.{grammar}
use Rattle.ale_search.specs.Waiting.{waiting_of}
use Rattle.ale_search.proofs.Onward.{Underway}
use Rattle.ale_search.proofs.advancing.advance.Given as goal

abbrev pub invariant-loop-left : goal.invariant-loop-left
invariant-loop-left l =
    Underway (grammar l.program) l.fn.left (waiting_of l.fn.waiting.items) l.left (waiting_of l.waiting.items)

abbrev pub decreases-loop-left : goal.decreases-loop-left
decreases-loop-left l = l.left
