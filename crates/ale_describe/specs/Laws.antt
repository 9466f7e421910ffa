-- What holds of all descriptions and goals that written ones stand for. Source: this project's own.
use Rattle.std.specs.Prelude.{◌≡◌, ◌↔◌, ℕ, ◌≤◌, ◌+◌, Some, None, List, length}
use Rattle.ale_declared.specs.Declarations.{Declared}
use Rattle.ale_hierarchy.specs.Hierarchy.{Hierarchy}
use Rattle.ale_hierarchy.specs.Order.{hierarchy}
use Rattle.ale_logic.specs.Descriptions.{Description, FitsDescription, FitDescriptions}
use Rattle.ale_logic.specs.Goals.{Goal, FitsGoal}
use Rattle.ale_logic.specs.Fitting.{FitLists}
use Rattle.ale_term.specs.Terms.{TermData}
use Rattle.ale_term.specs.Goals.{GoalData}
use Rattle.ale_macro.specs.Calls.{IsLibrary, BodiesFit}
use Rattle.ale_describe.specs.Known.{HasLists, IsKnownTerm, AreKnownEach, IsKnownGoal}
use Rattle.ale_describe.specs.Names.{NamesData, HaveKeys}
use Rattle.ale_describe.specs.Scopes.{ScopeData}
use Rattle.ale_describe.specs.Describing.{described, each_described, goal_described}
use Rattle.ale_describe.specs.Limits.{AreWithin, parts_of_all, sum_after}

-- the macros are ones of this signature, whose types of lists are those of the names
pub record FitsNames (d : Declared) (names : NamesData) : Type 0 where
  pub library : IsLibrary names.library
  pub keys : HaveKeys names.vocabulary.macros names.library.macros
  pub bodies : BodiesFit (hierarchy d) names.library.lists names.library.macros
  pub lists : HasLists d → FitLists (hierarchy d) names.library.lists

-- the description fits the signature, with the slots met behind it, and these are no fewer than before
pub record FitsScope (d : Declared) (before : ScopeData) (x : Description) (behind : ScopeData) : Type 0 where
  pub fits : FitsDescription (hierarchy d) (length behind.slots) x
  pub grows : length before.slots ≤ length behind.slots

abbrev pub DescriptionsFit : Type 0
DescriptionsFit =
    (d : Declared) (names : NamesData) (scope : ScopeData) (t : TermData) → FitsNames d names → IsKnownTerm d names.vocabulary t →
    FitsScope d scope (described d names scope t).0 (described d names scope t).1

pub record EachFits (d : Declared) (names : NamesData) (scope : ScopeData) (ts : List TermData) : Type 0 where
  pub fit : FitDescriptions (hierarchy d) (length (each_described d names scope ts).1.slots) (each_described d names scope ts).0
  pub grows : length scope.slots ≤ length (each_described d names scope ts).1.slots

abbrev pub EachDescriptionFits : Type 0
EachDescriptionFits =
    (d : Declared) (names : NamesData) (scope : ScopeData) (ts : List TermData) → FitsNames d names → AreKnownEach d names.vocabulary ts →
    EachFits d names scope ts

-- likewise a goal
pub record GoalFits (d : Declared) (names : NamesData) (scope : ScopeData) (g : GoalData) : Type 0 where
  pub fits : FitsGoal (hierarchy d) (length (goal_described d names scope g).1.slots) (goal_described d names scope g).0
  pub grows : length scope.slots ≤ length (goal_described d names scope g).1.slots

abbrev pub GoalsFit : Type 0
GoalsFit =
    (d : Declared) (names : NamesData) (scope : ScopeData) (g : GoalData) → FitsNames d names → IsKnownGoal d names.vocabulary g →
    GoalFits d names scope g

-- what fits with some slots fits with more
pub record WiderFits (h : Hierarchy) (a b : ℕ) : Type 0 where
  pub description : (x : Description) → FitsDescription h a x → FitsDescription h b x
  pub goal : (g : Goal) → FitsGoal h a g → FitsGoal h b g

pub record DescribeLaw : Type 0 where
  pub descriptions : DescriptionsFit
  pub each : EachDescriptionFits
  pub goals : GoalsFit
  pub wider : (h : Hierarchy) (a b : ℕ) → a ≤ b → WiderFits h a b

-- there is a sum exactly where each description and all are within the limits, and it is that of the parts
pub record SumTells (d : Declared) (names : NamesData) (so_far : ℕ) (ts : List TermData) : Type 0 where
  pub found : (n : ℕ) → sum_after d names (Some so_far) ts ≡ Some n → AreWithin d names so_far ts × (n ≡ so_far + parts_of_all d names ts)
  pub given : AreWithin d names so_far ts → sum_after d names (Some so_far) ts ≡ Some (so_far + parts_of_all d names ts)
  pub none : (sum_after d names (Some so_far) ts ≡ None) ↔ (AreWithin d names so_far ts → ⊥)

abbrev pub LimitsLaw : Type 0
LimitsLaw = (d : Declared) (names : NamesData) (so_far : ℕ) (ts : List TermData) → SumTells d names so_far ts
