-- What names mean after a grammar was read: macros and predicates by their keys, and what each macro is.
-- Source: macros in the ALE 3.2 User's Guide.
use Rattle.std.specs.Prelude.{◌≡◌, ℕ, List, [], ◌∷◌}
use Rattle.ale_vocabulary.specs.Keys.{key}
use Rattle.ale_vocabulary.specs.Vocabularies.{VocabularyData}
use Rattle.ale_macro.specs.Templates.{MacroData}
use Rattle.ale_macro.specs.Expanding.{LibraryData}

pub record NamesData : Type 0 where
  pub vocabulary : VocabularyData
  pub library : LibraryData

-- the key is that of a macro with so many parameters
pub record HasKey (k : List ℕ) (m : MacroData) : Type 0 where
  pub name : List ℕ
  pub is : k ≡ key name m.parameters

-- the keys are those of the macros, in order
abbrev pub HaveKeys : List (List ℕ) → List MacroData → Type 0
HaveKeys [] [] = Unit {0}
HaveKeys [] (m ∷ ms) = ⊥
HaveKeys (k ∷ ks) [] = ⊥
HaveKeys (k ∷ ks) (m ∷ ms) = HasKey k m × HaveKeys ks ms
