-- Descriptions and goals all of whose names have a meaning, as recursions down them. Source: this project's own.
use Rattle.std.specs.Prelude.{◌≡◌, ℕ, true, is_some, List, [], ◌∷◌, length}
use Rattle.ale_relation.specs.Has.{Has}
use Rattle.ale_declared.specs.Declarations.{Declared}
use Rattle.ale_list.specs.Lists.{lists_in}
use Rattle.ale_term.specs.Terms.{TermData, TermsData, name, slot, at, all, any, differs, meet, macro, list, list_with, none, more}
use Rattle.ale_term.specs.Goals as written
use Rattle.ale_term.specs.Goals.{GoalData, GoalsData}
use Rattle.ale_vocabulary.specs.Keys.{key}
use Rattle.ale_vocabulary.specs.Mentions.{how_many}
use Rattle.ale_vocabulary.specs.Vocabularies.{VocabularyData}

-- each of these is among the names
abbrev pub HaveAll : List (List ℕ) → List (List ℕ) → Type 0
HaveAll names [] = Unit {0}
HaveAll names (x ∷ xs) = Has names x × HaveAll names xs

abbrev pub HasLists : Declared → Type 0
HasLists d = is_some (lists_in d) ≡ true

abbrev mutual
  pub IsKnownTerm : Declared → VocabularyData → TermData → Type 0
  IsKnownTerm d v (name n) = Has d.types n
  IsKnownTerm d v (slot x) = Unit {0}
  IsKnownTerm d v (at f t) = Has d.features f × IsKnownTerm d v t
  IsKnownTerm d v (all ts) = AreKnownTerms d v ts
  IsKnownTerm d v (any ts) = AreKnownTerms d v ts
  IsKnownTerm d v (differs t) = IsKnownTerm d v t
  IsKnownTerm d v (meet p q) = HaveAll d.features p × HaveAll d.features q
  IsKnownTerm d v (macro m ts) = Has v.macros (key m (how_many ts)) × AreKnownTerms d v ts
  IsKnownTerm d v (list ts) = HasLists d × AreKnownTerms d v ts
  IsKnownTerm d v (list_with ts t) = HasLists d × AreKnownTerms d v ts × IsKnownTerm d v t

  pub AreKnownTerms : Declared → VocabularyData → TermsData → Type 0
  AreKnownTerms d v none = Unit {0}
  AreKnownTerms d v (more t ts) = IsKnownTerm d v t × AreKnownTerms d v ts

abbrev pub AreKnownEach : Declared → VocabularyData → List TermData → Type 0
AreKnownEach d v [] = Unit {0}
AreKnownEach d v (t ∷ ts) = IsKnownTerm d v t × AreKnownEach d v ts

abbrev mutual
  pub IsKnownGoal : Declared → VocabularyData → GoalData → Type 0
  IsKnownGoal d v written.holds = Unit {0}
  IsKnownGoal d v written.cut = Unit {0}
  IsKnownGoal d v (written.each gs) = AreKnownGoals d v gs
  IsKnownGoal d v (written.either gs) = AreKnownGoals d v gs
  IsKnownGoal d v (written.equal t u) = IsKnownTerm d v t × IsKnownTerm d v u
  IsKnownGoal d v (written.call p ts) = Has v.predicates (key p (length ts)) × AreKnownEach d v ts
  IsKnownGoal d v (written.not_proved g) = IsKnownGoal d v g
  IsKnownGoal d v (written.if_else c g e) = IsKnownGoal d v c × IsKnownGoal d v g × IsKnownGoal d v e
  IsKnownGoal d v (written.once c g) = IsKnownGoal d v c × IsKnownGoal d v g

  pub AreKnownGoals : Declared → VocabularyData → GoalsData → Type 0
  AreKnownGoals d v written.no_goal = Unit {0}
  AreKnownGoals d v (written.goal_more g gs) = IsKnownGoal d v g × AreKnownGoals d v gs
