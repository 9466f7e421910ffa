use Rattle.std.proofs.Common.{◌↔◌, drop, map}
use Rattle.ale_logic.specs.Goals.{IsPlain, ArePlain}
use Rattle.ale_program.specs.Goals.{goals_of, goal_data}
use Rattle.ale_program.proofs.goal.Goal.+in_fragment.Given as goal

abbrev pub invariant-loop-goal : goal.invariant-loop-goal
invariant-loop-goal l = ArePlain (goals_of (map goal_data (drop l.goal-index l.goal-items))) ↔ IsPlain (goal_data l.self)
