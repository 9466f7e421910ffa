-- A description or a goal has one meaning or one refusal; and what it means fits the signature, with a slot for each name.
-- Source: this project's own.
use Rattle.std.specs.Prelude.{◌≡◌, ◌↔◌, ℕ, Result, Ok, length}
use Rattle.ale_declared.specs.Declarations.{Declared}
use Rattle.ale_hierarchy.specs.Order.{hierarchy}
use Rattle.ale_term.specs.Terms.{TermData}
use Rattle.ale_term.specs.Goals.{GoalData}
use Rattle.ale_logic.specs.Descriptions.{Description, FitsDescription}
use Rattle.ale_logic.specs.Goals.{Goal, FitsGoal, IsPlain}
use Rattle.ale_vocabulary.specs.declared.error.NameError.{NameError}
use Rattle.ale_describe.specs.Laws.{FitsNames}
use Rattle.ale_describe.specs.Meanings.{Meaning, IsMeant, IsMeantGoal, desc_after, goal_after}
use Rattle.ale_describe.specs.Names.{NamesData}
use Rattle.ale_describe.specs.Plain.{IsPlainGoal}
use Rattle.ale_describe.specs.Scopes.{ScopeData}
use Rattle.ale_describe.specs.Describing.{goal_described}

-- there is one answer, which the function gives
abbrev pub DescHasOne : Type 0
DescHasOne =
    (d : Declared) (names : NamesData) (so_far : ℕ) (t : TermData) (r : Result (Meaning Description) NameError) →
    IsMeant d names so_far t r ↔ desc_after d names so_far t ≡ r

abbrev pub GoalHasOne : Type 0
GoalHasOne =
    (d : Declared) (names : NamesData) (so_far : ℕ) (g : GoalData) (r : Result (Meaning Goal) NameError) →
    IsMeantGoal d names so_far g r ↔ goal_after d names so_far g ≡ r

abbrev pub DescMeaningFits : Type 0
DescMeaningFits =
    (d : Declared) (names : NamesData) (so_far : ℕ) (t : TermData) (m : Meaning Description) → FitsNames d names → IsMeant d names so_far t (Ok m) →
    FitsDescription (hierarchy d) (length m.names) m.of

abbrev pub GoalMeaningFits : Type 0
GoalMeaningFits =
    (d : Declared) (names : NamesData) (so_far : ℕ) (g : GoalData) (m : Meaning Goal) → FitsNames d names → IsMeantGoal d names so_far g (Ok m) →
    FitsGoal (hierarchy d) (length m.names) m.of

pub record MeaningLaw : Type 0 where
  pub desc : DescHasOne
  pub goal : GoalHasOne
  pub desc_fits : DescMeaningFits
  pub goal_fits : GoalMeaningFits

-- no cut, negation or if-then stands in a goal where none is written
pub record PlainGoalsLaw : Type 0 where
  pub described : (d : Declared) (names : NamesData) (scope : ScopeData) (g : GoalData) → IsPlainGoal g → IsPlain (goal_described d names scope g).0
  pub meant : (d : Declared) (names : NamesData) (so_far : ℕ) (g : GoalData) (m : Meaning Goal) → IsPlainGoal g → IsMeantGoal d names so_far g (Ok m) → IsPlain m.of
