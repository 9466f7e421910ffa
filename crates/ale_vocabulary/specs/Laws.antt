-- Laws about first faults and about keys.
-- Source: this project's own.
use Rattle.std.specs.Prelude.{◌≡◌, ◌↔◌, ℕ, Some, None, List}
use Rattle.ale_declared.specs.Declarations.{Declared}
use Rattle.ale_vocabulary.specs.declared.error.NameError.{NameError}
use Rattle.ale_vocabulary.specs.First.{IsFirst, AllRight, first_of}
use Rattle.ale_vocabulary.specs.Keys.{key}
use Rattle.ale_vocabulary.specs.Knowing.{IsUnknown, unknown_in}
use Rattle.ale_vocabulary.specs.Mentions.{Mention}
use Rattle.ale_vocabulary.specs.Vocabularies.{VocabularyData}

-- for any list of mentions the function finds exactly the first fault
pub record IsFound (d : Declared) (v : VocabularyData) (ms : List Mention) : Type 0 where
  pub first : (e : NameError) → (first_of (unknown_in d v) ms ≡ Some e) ↔ IsFirst (IsUnknown d v) ms e
  pub none : (first_of (unknown_in d v) ms ≡ None) ↔ AllRight (IsUnknown d v) ms

abbrev pub FirstIsFound : Type 0
FirstIsFound = (d : Declared) (v : VocabularyData) (ms : List Mention) → IsFound d v ms

-- two keys are the same only where name and number of arguments are
abbrev pub KeysTellApart : Type 0
KeysTellApart = (x y : List ℕ) (a b : ℕ) → key x a ≡ key y b → (x ≡ y) × (a ≡ b)
