use Rattle.std.proofs.Common.{◌≡◌, map, drop}
use Rattle.ale_term.specs.Goals as written
use Rattle.ale_program.specs.Goals.{goal_data}
use Rattle.ale_describe.specs.Known.{AreKnownGoals}
use Rattle.ale_describe.specs.Describing.{goals_described}
use Rattle.ale_describe.proofs.Each.{goals_found_before, goals_left}
use Rattle.ale_describe.proofs.goals.+describing.Given as goal

abbrev pub invariant-goals_described-loop-goal : goal.invariant-goals_described-loop-goal
invariant-goals_described-loop-goal l = record {
  so_far : goals_found_before (map goal_data l.found.items) (goals_left l.sig l.names l.scope l.goals l.goal-index) ≡ goals_described l.sig l.names l.fn.scope (written.goals_of (map written.goal_data l.goals));
  known : AreKnownGoals l.sig l.names.vocabulary (written.goals_of (map written.goal_data (drop l.goal-index l.goals)));
}
