-- Written descriptions in which no inequation stands, and written goals in which no cut, negation or if-then stands.
-- Source: inequations and definite clauses in the ALE 3.2 User's Guide.
use Rattle.std.specs.Prelude.{List, [], ◌∷◌}
use Rattle.ale_term.specs.Terms.{TermData, TermsData, name, slot, at, all, any, differs, meet, macro, list, list_with, none, more}
use Rattle.ale_term.specs.Goals.{GoalData, GoalsData, holds, cut, each, either, equal, call, not_proved, if_else, once, no_goal, goal_more}

abbrev mutual
  pub IsPlainTerm : TermData → Type 0
  IsPlainTerm (name n) = Unit {0}
  IsPlainTerm (slot x) = Unit {0}
  IsPlainTerm (at f t) = IsPlainTerm t
  IsPlainTerm (all ts) = ArePlainTerms ts
  IsPlainTerm (any ts) = ArePlainTerms ts
  IsPlainTerm (differs t) = ⊥
  IsPlainTerm (meet p q) = Unit {0}
  IsPlainTerm (macro m ts) = ArePlainTerms ts
  IsPlainTerm (list ts) = ArePlainTerms ts
  IsPlainTerm (list_with ts t) = ArePlainTerms ts × IsPlainTerm t

  pub ArePlainTerms : TermsData → Type 0
  ArePlainTerms none = Unit {0}
  ArePlainTerms (more t ts) = IsPlainTerm t × ArePlainTerms ts

abbrev pub EachIsPlain : List TermData → Type 0
EachIsPlain [] = Unit {0}
EachIsPlain (t ∷ ts) = IsPlainTerm t × EachIsPlain ts

abbrev mutual
  pub IsPlainGoal : GoalData → Type 0
  IsPlainGoal holds = Unit {0}
  IsPlainGoal cut = ⊥
  IsPlainGoal (each gs) = ArePlainGoals gs
  IsPlainGoal (either gs) = ArePlainGoals gs
  IsPlainGoal (equal t u) = Unit {0}
  IsPlainGoal (call p ts) = Unit {0}
  IsPlainGoal (not_proved g) = ⊥
  IsPlainGoal (if_else c g e) = ⊥
  IsPlainGoal (once c g) = ⊥

  pub ArePlainGoals : GoalsData → Type 0
  ArePlainGoals no_goal = Unit {0}
  ArePlainGoals (goal_more g gs) = IsPlainGoal g × ArePlainGoals gs
