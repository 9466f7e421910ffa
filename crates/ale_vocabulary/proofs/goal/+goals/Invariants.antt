use Rattle.std.proofs.Common.{◌≡◌, drop, map}
use Rattle.ale_term.specs.Goals.{goal_data, goals_of}
use Rattle.ale_vocabulary.specs.First.{first_of}
use Rattle.ale_vocabulary.specs.Knowing.{unknown_in}
use Rattle.ale_vocabulary.specs.Mentions.{mentions_of_goals}
use Rattle.ale_vocabulary.proofs.goal.+goals.Given as goal

abbrev pub invariant-first_in_goals-loop-goal : goal.invariant-first_in_goals-loop-goal
invariant-first_in_goals-loop-goal l = first_of (unknown_in l.sig l.vocabulary) (mentions_of_goals (goals_of (map goal_data (drop l.goal-index l.goals)))) ≡ first_of (unknown_in l.sig l.vocabulary) (mentions_of_goals (goals_of (map goal_data l.goals)))
