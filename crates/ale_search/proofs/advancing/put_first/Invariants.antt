use Rattle.std.proofs.Common.{◌≡◌, ◌++◌, vec_len}
use Rattle.ale_visit.specs.Views.{states_of}
use Rattle.ale_search.specs.Waiting.{waiting_of}
use Rattle.ale_search.proofs.advancing.put_first.Given as goal

abbrev pub invariant-loop-state : goal.invariant-loop-state
invariant-loop-state l =
    states_of l.states.items ++ waiting_of l.waiting.items ≡ states_of l.fn.states.items ++ waiting_of l.fn.waiting.items

abbrev pub decreases-loop-state : goal.decreases-loop-state
decreases-loop-state l = vec_len l.states
