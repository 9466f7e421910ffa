-- Goals as they are written, as plain data; and the conjunction and the disjunction of several.
-- Source of the forms: the goals of definite clauses of the ALE 3.2 User's Guide.
use Rattle.std.specs.Prelude.{ℕ, List, [], ◌∷◌, map}
use Rattle.ale_term.specs.Terms.{TermData, term_data}
use Rattle.ale_term.specs.declared.goal_term.GoalTerm.{GoalTerm, fold-GoalTerm}
use Rattle.ale_term.specs.declared.goal_term.GoalTerm.TheOpen.{GoalTerm-F}

mutual
  pub data GoalData : Type 0 where
    holds : GoalData
    cut : GoalData
    each : GoalsData → GoalData
    either : GoalsData → GoalData
    equal : TermData → TermData → GoalData
    call : List ℕ → List TermData → GoalData
    not_proved : GoalData → GoalData
    if_else : GoalData → GoalData → GoalData → GoalData
    once : GoalData → GoalData → GoalData

  pub data GoalsData : Type 0 where
    no_goal : GoalsData
    goal_more : GoalData → GoalsData → GoalsData

abbrev pub goals_of : List GoalData → GoalsData
goals_of [] = no_goal
goals_of (g ∷ gs) = goal_more g (goals_of gs)

abbrev pub goal_step : GoalTerm-F GoalData → GoalData
goal_step GoalTerm-F.Yes = holds
goal_step GoalTerm-F.Cut = cut
goal_step (GoalTerm-F.All gs) = each (goals_of gs)
goal_step (GoalTerm-F.Any gs) = either (goals_of gs)
goal_step (GoalTerm-F.Equal t u) = equal (term_data t) (term_data u)
goal_step (GoalTerm-F.Call p ts) = call p (map term_data ts)
goal_step (GoalTerm-F.Not g) = not_proved g
goal_step (GoalTerm-F.IfElse c g e) = if_else c g e
goal_step (GoalTerm-F.Once c g) = once c g

-- the plain data of a goal of the program
abbrev pub goal_data : GoalTerm → GoalData
goal_data = fold-GoalTerm GoalData goal_step

-- several goals that all hold; a single one is nothing of its own
abbrev pub each_of : List GoalData → GoalData
each_of [] = each no_goal
each_of (g ∷ []) = g
each_of (g ∷ h ∷ hs) = each (goals_of (g ∷ h ∷ hs))

-- several goals of which one holds; a single one is nothing of its own
abbrev pub either_of : List GoalData → GoalData
either_of [] = either no_goal
either_of (g ∷ []) = g
either_of (g ∷ h ∷ hs) = either (goals_of (g ∷ h ∷ hs))
