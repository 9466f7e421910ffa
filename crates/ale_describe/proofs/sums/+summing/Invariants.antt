use Rattle.std.proofs.Common.{◌≡◌, map, drop}
use Rattle.ale_term.specs.Goals.{goal_data, goals_of}
use Rattle.ale_describe.specs.Known.{AreKnownGoals}
use Rattle.ale_describe.proofs.Adding.{goals_sum}
use Rattle.ale_describe.proofs.sums.+summing.Given as goal

abbrev pub invariant-goals_parts-loop-goal : goal.invariant-goals_parts-loop-goal
invariant-goals_parts-loop-goal l = record {
  so_far : goals_sum l.sig l.names l.sum (drop l.goal-index l.goals) ≡ goals_sum l.sig l.names l.fn.before l.goals;
  known : AreKnownGoals l.sig l.names.vocabulary (goals_of (map goal_data (drop l.goal-index l.goals)));
}
