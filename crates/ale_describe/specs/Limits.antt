-- How large descriptions may be when all macros and lists are put in: 100,000 parts, nested 4,000 deep; and 4,000,000 parts in
-- all descriptions of a grammar, or of its commands. Source: this project's own limits.
use Rattle.std.specs.Prelude.{ℕ, ◌+◌, ◌≤◌, nat_le, if◌then◌else◌, Option, Some, None, List, [], ◌∷◌, ◌++◌}
use Rattle.std.specs.Option.{option_map}
use Rattle.ale_declared.specs.Declarations.{Declared}
use Rattle.ale_term.specs.Terms.{TermData}
use Rattle.ale_term.specs.Goals.{GoalData, GoalsData, holds, cut, each, either, equal, call, not_proved, if_else, once, no_goal, goal_more}
use Rattle.ale_macro.specs.Expansions.{Expansion, parts, nesting, within_limits}
use Rattle.ale_macro.specs.Expanding.{expansion}
use Rattle.ale_describe.specs.Templating.{templated}
use Rattle.ale_describe.specs.Names.{NamesData}

unfoldable pub most_parts : ℕ
most_parts = 100000

unfoldable pub most_nesting : ℕ
most_nesting = 4000

unfoldable pub most_parts_in_all : ℕ
most_parts_in_all = 4000000

-- what the description is when all is put in
abbrev pub whole : Declared → NamesData → TermData → Expansion
whole d names t = expansion names.library (templated d names.vocabulary [] t).0

abbrev pub parts_of : Declared → NamesData → TermData → ℕ
parts_of d names t = parts (whole d names t)

-- it has no more parts, and is nested no deeper, than a description may be
pub record IsWithin (d : Declared) (names : NamesData) (t : TermData) : Type 0 where
  pub parts : parts_of d names t ≤ most_parts
  pub nesting : nesting (whole d names t) ≤ most_nesting

-- the descriptions of a goal: each argument of a call and each side of `=`
abbrev mutual
  pub descriptions_in : GoalData → List TermData
  descriptions_in holds = []
  descriptions_in cut = []
  descriptions_in (each gs) = descriptions_in_all gs
  descriptions_in (either gs) = descriptions_in_all gs
  descriptions_in (equal t u) = t ∷ u ∷ []
  descriptions_in (call p ts) = ts
  descriptions_in (not_proved g) = descriptions_in g
  descriptions_in (if_else c g e) = descriptions_in c ++ descriptions_in g ++ descriptions_in e
  descriptions_in (once c g) = descriptions_in c ++ descriptions_in g

  pub descriptions_in_all : GoalsData → List TermData
  descriptions_in_all no_goal = []
  descriptions_in_all (goal_more g gs) = descriptions_in g ++ descriptions_in_all gs

-- all parts of these descriptions
abbrev pub parts_of_all : Declared → NamesData → List TermData → ℕ
parts_of_all d names [] = 0
parts_of_all d names (t ∷ ts) = parts_of d names t + parts_of_all d names ts

-- after so many parts these descriptions are within the limits, each for itself and all together
abbrev pub EachWithin : Declared → NamesData → List TermData → Type 0
EachWithin d names [] = Unit {0}
EachWithin d names (t ∷ ts) = IsWithin d names t × EachWithin d names ts

pub record AreWithin (d : Declared) (names : NamesData) (so_far : ℕ) (ts : List TermData) : Type 0 where
  pub each : EachWithin d names ts
  pub all : so_far + parts_of_all d names ts ≤ most_parts_in_all

-- the same as functions: how many parts there are after the description, where it is within the limits
abbrev pub with_parts : Declared → NamesData → Option ℕ → TermData → Option ℕ
with_parts d names None t = None
with_parts d names (Some so_far) t = option_map (λ n. so_far + n) (within_limits (whole d names t))

-- the number, where it is no more than all descriptions may have
abbrev pub if_within_all : Option ℕ → Option ℕ
if_within_all None = None
if_within_all (Some n) = if nat_le n 4000000 then Some n else None

-- how many parts there are after these descriptions, where each and all are within the limits
abbrev pub sum_after : Declared → NamesData → Option ℕ → List TermData → Option ℕ
sum_after d names sum [] = if_within_all sum
sum_after d names sum (t ∷ ts) = sum_after d names (with_parts d names sum t) ts
