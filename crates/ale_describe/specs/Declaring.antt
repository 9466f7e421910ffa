-- Declarations all of whose names are known, and the macros that they declare, by their numbers. Source: this project's own.
use Rattle.std.specs.Prelude.{ℕ, Bool, false, ◌==◌, if◌then◌else◌, Option, Some, None, List, [], ◌∷◌, length}
use Rattle.ale_declared.specs.Declarations.{Declared}
use Rattle.ale_declared.specs.Names.{named}
use Rattle.ale_hierarchy.specs.Order.{hierarchy}
use Rattle.ale_logic.specs.Programs.{ListTypes}
use Rattle.ale_logic.specs.Fitting.{FitLists}
use Rattle.ale_declaration.specs.Declarations.{DeclarationData, signature, constraint, macro, clause, word, empty, lex_rule, rule, semantics, lex_depth, chain_length, passed_over}
use Rattle.ale_vocabulary.specs.First.{AllRight}
use Rattle.ale_vocabulary.specs.Keys.{key}
use Rattle.ale_vocabulary.specs.Knowing.{IsUnknown}
use Rattle.ale_vocabulary.specs.Mentions.{mentions_of_declaration}
use Rattle.ale_vocabulary.specs.Vocabularies.{VocabularyData, vocabulary_of}
use Rattle.ale_macro.specs.Templates.{MacroData}
use Rattle.ale_macro.specs.Calls.{BodiesKnown, BodiesFit}
use Rattle.ale_describe.specs.Known.{HasLists}
use Rattle.ale_describe.specs.Names.{HaveKeys}
use Rattle.ale_describe.specs.Macros.{macro_of, macros_after}

abbrev pub AreKnownDeclarations : Declared → VocabularyData → List DeclarationData → Type 0
AreKnownDeclarations d v [] = Unit {0}
AreKnownDeclarations d v (x ∷ xs) = AllRight (IsUnknown d v) (mentions_of_declaration x) × AreKnownDeclarations d v xs

-- a declaration is the first of a macro exactly where the macro has the next number
abbrev pub is_next : Option ℕ → ℕ → Bool
is_next None count = false
is_next (Some k) count = k == count

-- the macro that a declaration is the first of, after declarations of so many macros
abbrev pub macro_in : Declared → VocabularyData → ℕ → DeclarationData → Option MacroData
macro_in d v count (macro m ps t) = if is_next (named v.macros (key m (length ps))) count then Some (macro_of d v ps t) else None
macro_in d v count (signature s) = None
macro_in d v count (constraint n t g) = None
macro_in d v count (clause p ts g) = None
macro_in d v count (word w t) = None
macro_in d v count (empty t) = None
macro_in d v count (lex_rule n t u g ls) = None
macro_in d v count (rule n t es) = None
macro_in d v count (semantics p) = None
macro_in d v count (lex_depth n) = None
macro_in d v count (chain_length n) = None
macro_in d v count (passed_over n) = None

-- the macros that these declare first are known and fit the signature, and their keys are those of the vocabulary, in order
pub record MacrosFit (d : Declared) (ds : List DeclarationData) : Type 0 where
  pub keys : HaveKeys (vocabulary_of ds).macros (macros_after d (vocabulary_of ds) [] ds)
  pub known : BodiesKnown (macros_after d (vocabulary_of ds) [] ds) (macros_after d (vocabulary_of ds) [] ds)
  pub fit : (l : ListTypes) → (HasLists d → FitLists (hierarchy d) l) → BodiesFit (hierarchy d) l (macros_after d (vocabulary_of ds) [] ds)

abbrev pub MacrosLaw : Type 0
MacrosLaw = (d : Declared) (ds : List DeclarationData) → AreKnownDeclarations d (vocabulary_of ds) ds → MacrosFit d ds
