use Rattle.std.proofs.Common.{◌≡◌, ◌≤◌, ◌++◌, map, drop, length}
use Rattle.ale_logic.specs.GoalKids.{goals}
use Rattle.ale_program.specs.Goals.{goal_data, goals_of}
use Rattle.ale_visit.specs.Views.{agenda_of}
use Rattle.ale_visit.proofs.goals.push_goals.Given as goal

abbrev pub invariant-loop-left : goal.invariant-loop-left
invariant-loop-left l =
    (l.left ≤ length l.parts) × (agenda_of l.agenda.items ≡ goals l.env l.cut (goals_of (map goal_data (drop l.left l.parts))) ++ agenda_of l.fn.agenda.items)

abbrev pub decreases-loop-left : goal.decreases-loop-left
decreases-loop-left l = l.left
