-- A form that is all of the lexemes.
use Rattle.std.specs.Prelude.{ℕ, Option, Some, None, List, [], ◌∷◌}
use Rattle.ale_term.specs.declared.lexeme.Lexeme.{Lexeme}
use Rattle.ale_term.specs.Terms.{TermData}
use Rattle.ale_term.specs.Goals.{GoalData}
use Rattle.ale_term.specs.Reading.{◌>>=◌, description_at, goal_at, path_at}

abbrev pub ended : List Lexeme → Option (Unit {0})
ended [] = Some tt
ended (l ∷ ls) = None

-- what was read, where nothing stands after it
abbrev pub whole : {A : Type 0} → Option (A × List Lexeme) → Option A
whole read = read >>= λ x. ended x.1 >>= λ end. Some x.0

abbrev pub description_of : List Lexeme → Option TermData
description_of ls = whole (description_at ls)

abbrev pub goal_of : List Lexeme → Option GoalData
goal_of ls = whole (goal_at ls)

abbrev pub path_of : List Lexeme → Option (List (List ℕ))
path_of ls = whole (path_at ls)
