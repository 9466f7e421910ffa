-- What is left out of descriptions, and how many descriptions calls have. Source: this project's own.
use Rattle.std.specs.Prelude.{List}
use Rattle.ale_declared.specs.Declarations.{Declared}
use Rattle.ale_logic.specs.Inequations.{HasNoInequation, HaveNoInequation}
use Rattle.ale_term.specs.Terms.{TermData}
use Rattle.ale_term.specs.Goals.{GoalData}
use Rattle.ale_macro.specs.Calls.{IsLibrary, BodiesArePlain}
use Rattle.ale_program.specs.Kept.{CallsFit}
use Rattle.ale_describe.specs.Arities.{arities}
use Rattle.ale_describe.specs.Known.{IsKnownTerm, AreKnownEach, IsKnownGoal}
use Rattle.ale_describe.specs.Names.{NamesData, HaveKeys}
use Rattle.ale_describe.specs.Plain.{IsPlainTerm, EachIsPlain}
use Rattle.ale_describe.specs.Scopes.{ScopeData}
use Rattle.ale_describe.specs.Describing.{described, each_described, goal_described}

-- no inequation stands in a macro's body
pub record ArePlainNames (names : NamesData) : Type 0 where
  pub library : IsLibrary names.library
  pub keys : HaveKeys names.vocabulary.macros names.library.macros
  pub bodies : BodiesArePlain names.library.macros

-- then none stands in a description where none is written
abbrev pub DescriptionsArePlain : Type 0
DescriptionsArePlain =
    (d : Declared) (names : NamesData) (scope : ScopeData) (t : TermData) → ArePlainNames names → IsKnownTerm d names.vocabulary t → IsPlainTerm t →
    HasNoInequation (described d names scope t).0

abbrev pub EachDescriptionIsPlain : Type 0
EachDescriptionIsPlain =
    (d : Declared) (names : NamesData) (scope : ScopeData) (ts : List TermData) → ArePlainNames names → AreKnownEach d names.vocabulary ts → EachIsPlain ts →
    HaveNoInequation (each_described d names scope ts).0

pub record PlainLaw : Type 0 where
  pub descriptions : DescriptionsArePlain
  pub each : EachDescriptionIsPlain

-- each call is of a predicate that is there, with as many descriptions as that has arguments
abbrev pub CallsLaw : Type 0
CallsLaw =
    (d : Declared) (names : NamesData) (scope : ScopeData) (g : GoalData) → IsKnownGoal d names.vocabulary g →
    CallsFit (arities names.vocabulary) (goal_described d names scope g).0
