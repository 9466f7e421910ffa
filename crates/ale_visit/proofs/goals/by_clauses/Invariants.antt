use Rattle.std.proofs.Common.{◌≡◌, take, map}
use Rattle.ale_logic.specs.States.{numbered}
use Rattle.ale_logic.specs.GoalKids.{numbers}
use Rattle.ale_visit.specs.Views.{state_of, states_of}
use Rattle.ale_visit.proofs.Numbered.{with_clause}
use Rattle.ale_visit.proofs.goals.by_clauses.Given as goal

abbrev pub invariant-loop-number : goal.invariant-loop-number
invariant-loop-number l =
    states_of l.kids.items ≡ numbered 0 (map (with_clause (state_of l.state) l.waiting (numbers l.first l.count)) (take l.number l.others))
