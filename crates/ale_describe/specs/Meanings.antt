-- What a written description or goal means by its names, after so many parts in those before it; or why it is refused: for
-- its first name that is not known, else since it is too large, or all of them are.
-- Source: the description language, Carpenter 1992, chapter 4; the order of faults and the limits are this project's own.
use Rattle.std.specs.Prelude.{◌≡◌, ℕ, ◌+◌, Option, Some, None, Result, Ok, Err, List, [], ◌∷◌}
use Rattle.ale_declared.specs.Declarations.{Declared}
use Rattle.ale_term.specs.Terms.{TermData}
use Rattle.ale_term.specs.Goals.{GoalData}
use Rattle.ale_logic.specs.Descriptions.{Description, description}
use Rattle.ale_logic.specs.Goals.{Goal}
use Rattle.ale_program.specs.Goals.{goal_data}
use Rattle.ale_vocabulary.specs.First.{IsFirst, AllRight, first_of}
use Rattle.ale_vocabulary.specs.Knowing.{IsUnknown, unknown_in}
use Rattle.ale_vocabulary.specs.Mentions.{Mention, mentions, mentions_of_goal}
use Rattle.ale_vocabulary.specs.declared.error.NameError.{NameError}
use Rattle.ale_vocabulary.specs.declared.error.NameError.TheVariants.{TooBig}
use Rattle.ale_describe.specs.Names.{NamesData}
use Rattle.ale_describe.specs.Scopes.{ScopeData, new_scope, slot_names}
use Rattle.ale_describe.specs.Describing.{described, goal_described}
use Rattle.ale_describe.specs.Limits.{descriptions_in, parts_of_all, AreWithin, sum_after}
use Rattle.ale_describe.specs.declared.meaning_error.MeaningError.{MeaningError}
use Rattle.ale_describe.specs.declared.meaning_error.MeaningError.TheVariants.{Name, NoMemory}
use Rattle.ale_describe.specs.declared.meanings.NamedDesc.{NamedDesc}
use Rattle.ale_describe.specs.declared.meanings.NamedGoal.{NamedGoal}

-- a description or a goal, the name of each of its slots, and how many parts there are with it
pub record Meaning (A : Type 0) : Type 0 where
  pub of : A
  pub names : List (List ℕ)
  pub parts : ℕ

abbrev pub meaning : {A : Type 0} → A × ScopeData → ℕ → Meaning A
meaning x n = record { of = x.0; names = slot_names x.1; parts = n }

-- by what it mentions, the descriptions that are counted, and what it stands for, with its scope
pub data HasMeaning {A : Type 0} (d : Declared) (names : NamesData) (so_far : ℕ) (ms : List Mention) (ts : List TermData) (x : A × ScopeData) : Result (Meaning A) NameError → Type 0 where
  is_meant : AllRight (IsUnknown d names.vocabulary) ms → AreWithin d names so_far ts → HasMeaning d names so_far ms ts x (Ok (meaning x (so_far + parts_of_all d names ts)))
  is_unknown : (e : NameError) → IsFirst (IsUnknown d names.vocabulary) ms e → HasMeaning d names so_far ms ts x (Err e)
  is_too_big : AllRight (IsUnknown d names.vocabulary) ms → (AreWithin d names so_far ts → ⊥) → HasMeaning d names so_far ms ts x (Err TooBig)

abbrev pub IsMeant : Declared → NamesData → ℕ → TermData → Result (Meaning Description) NameError → Type 0
IsMeant d names so_far t r = HasMeaning d names so_far (mentions t) (t ∷ []) (described d names new_scope t) r

abbrev pub IsMeantGoal : Declared → NamesData → ℕ → GoalData → Result (Meaning Goal) NameError → Type 0
IsMeantGoal d names so_far g r = HasMeaning d names so_far (mentions_of_goal g) (descriptions_in g) (goal_described d names new_scope g) r

-- the same as functions
abbrev pub if_within : {A : Type 0} → A × ScopeData → Option ℕ → Result (Meaning A) NameError
if_within x (Some n) = Ok (meaning x n)
if_within x None = Err TooBig

abbrev pub if_known : {A : Type 0} → A × ScopeData → Option ℕ → Option NameError → Result (Meaning A) NameError
if_known x sum (Some e) = Err e
if_known x sum None = if_within x sum

abbrev pub meaning_after : {A : Type 0} → Declared → NamesData → ℕ → List Mention → List TermData → A × ScopeData → Result (Meaning A) NameError
meaning_after d names so_far ms ts x = if_known x (sum_after d names (Some so_far) ts) (first_of (unknown_in d names.vocabulary) ms)

abbrev pub desc_after : Declared → NamesData → ℕ → TermData → Result (Meaning Description) NameError
desc_after d names so_far t = meaning_after d names so_far (mentions t) (t ∷ []) (described d names new_scope t)

abbrev pub goal_after : Declared → NamesData → ℕ → GoalData → Result (Meaning Goal) NameError
goal_after d names so_far g = meaning_after d names so_far (mentions_of_goal g) (descriptions_in g) (goal_described d names new_scope g)

-- what the values of the program stand for
abbrev pub desc_meaning : NamedDesc → Meaning Description
desc_meaning m = record { of = description m.desc; names = m.names; parts = m.parts }

abbrev pub goal_meaning : NamedGoal → Meaning Goal
goal_meaning m = record { of = goal_data m.goal; names = m.names; parts = m.parts }

-- the calls answer exactly this, unless memory ran out
abbrev pub MeaningGives : {V A : Type 0} → (V → Meaning A) → Result V MeaningError → Result (Meaning A) NameError → Type 0
MeaningGives view (Ok v) answer = answer ≡ Ok (view v)
MeaningGives view (Err NoMemory) answer = Unit {0}
MeaningGives view (Err (Name e)) answer = answer ≡ Err e

-- the refusal of a call that did not run out of memory
abbrev pub IsToldRefusal : {A : Type 0} → (Result (Meaning A) NameError → Type 0) → MeaningError → Type 0
IsToldRefusal Is NoMemory = Unit {0}
IsToldRefusal Is (Name e) = Is (Err e)
