use Rattle.std.proofs.Common.{◌≡◌, take, map}
use Rattle.ale_logic.specs.States.{numbered}
use Rattle.ale_visit.specs.Views.{state_of, states_of}
use Rattle.ale_visit.proofs.Numbered.{by_goal}
use Rattle.ale_visit.proofs.choosing.goal_alternatives.Given as goal

abbrev pub invariant-loop-number : goal.invariant-loop-number
invariant-loop-number l =
    states_of l.kids.items ≡ numbered 0 (map (by_goal (state_of l.state) l.env l.cut) (take l.number l.others))
