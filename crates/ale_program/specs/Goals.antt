-- The plain data of goals. Source: definite clauses over descriptions, Carpenter 1992, chapter 14; cut, negation and
-- if-then as in Prolog.
use Rattle.std.specs.Prelude.{List, [], ◌∷◌, map}
use Rattle.ale_logic.specs.Descriptions.{description, descriptions_of}
use Rattle.ale_logic.specs.Goals as plain
use Rattle.ale_logic.specs.Goals.{Goals, yes, cut, each, either, equal, call, unless, if_else, once, no_goal, and_goal}
use Rattle.ale_program.specs.declared.goal.Goal.{Goal, fold-Goal}
use Rattle.ale_program.specs.declared.goal.Goal.TheOpen.{Goal-F}

abbrev pub goals_of : List plain.Goal → Goals
goals_of [] = no_goal
goals_of (g ∷ gs) = and_goal g (goals_of gs)

abbrev pub goal_step : Goal-F plain.Goal → plain.Goal
goal_step Goal-F.Yes = yes
goal_step Goal-F.Cut = cut
goal_step (Goal-F.All gs) = each (goals_of gs)
goal_step (Goal-F.Any gs) = either (goals_of gs)
goal_step (Goal-F.Equal d e) = equal (description d) (description e)
goal_step (Goal-F.Call p ds) = call p (descriptions_of (map description ds))
goal_step (Goal-F.Not g) = unless g
goal_step (Goal-F.IfElse c t e) = if_else c t e
goal_step (Goal-F.Once c t) = once c t

-- the plain data of a goal of the program
abbrev pub goal_data : Goal → plain.Goal
goal_data = fold-Goal plain.Goal goal_step
