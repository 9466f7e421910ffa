use Rattle.std.proofs.Common.{◌≡◌, drop, map}
use Rattle.std.specs.Prelude.{◌&&◌}
use Rattle.ale_term.specs.Goals.{goal_data, goals_of}
use Rattle.ale_stage.specs.Stages.{since, goal_is_built, goals_are_built}
use Rattle.ale_stage.proofs.goal.+goal_is_built.Given as goal

abbrev pub invariant-loop-part : goal.invariant-loop-part
invariant-loop-part l = (goals_are_built (goals_of (map goal_data (drop l.part-index l.part-items))) && since 5) ≡ goal_is_built (goal_data l.goal)
