-- Which mentions are known: of types and features that the signature has, of macros and predicates that are declared, and
-- lists where the signature has the types and features of lists. Else the fault that tells of it.
-- Source: the ALE 3.2 User's Guide; the names of the faults are this project's own.
use Rattle.std.specs.Prelude.{◌≡◌, Bool, true, Option, Some, None, is_some, if◌then◌else◌}
use Rattle.ale_relation.specs.Has.{Has}
use Rattle.ale_declared.specs.Declarations.{Declared}
use Rattle.ale_declared.specs.Names.{is_named}
use Rattle.ale_list.specs.Lists.{lists_in}
use Rattle.ale_vocabulary.specs.declared.error.NameError.{NameError}
use Rattle.ale_vocabulary.specs.declared.error.NameError.TheVariants.{UnknownType, UnknownFeature, UnknownMacro, UnknownPredicate, NoListTypes}
use Rattle.ale_vocabulary.specs.Keys.{key}
use Rattle.ale_vocabulary.specs.Vocabularies.{VocabularyData}
use Rattle.ale_vocabulary.specs.Mentions.{Mention, type, feature, macro_call, predicate, a_list}

abbrev pub IsKnown : Declared → VocabularyData → Mention → Type 0
IsKnown d v (type n) = Has d.types n
IsKnown d v (feature f) = Has d.features f
IsKnown d v (macro_call m n) = Has v.macros (key m n)
IsKnown d v (predicate p n) = Has v.predicates (key p n)
IsKnown d v a_list = is_some (lists_in d) ≡ true

abbrev pub unknown : Mention → NameError
unknown (type n) = UnknownType n
unknown (feature f) = UnknownFeature f
unknown (macro_call m n) = UnknownMacro m n
unknown (predicate p n) = UnknownPredicate p n
unknown a_list = NoListTypes

-- the fault of a mention that is not known
pub record IsUnknown (d : Declared) (v : VocabularyData) (m : Mention) (e : NameError) : Type 0 where
  pub not_known : IsKnown d v m → ⊥
  pub fault : e ≡ unknown m

-- the same as functions
abbrev pub is_known : Declared → VocabularyData → Mention → Bool
is_known d v (type n) = is_named n d.types
is_known d v (feature f) = is_named f d.features
is_known d v (macro_call m n) = is_named (key m n) v.macros
is_known d v (predicate p n) = is_named (key p n) v.predicates
is_known d v a_list = is_some (lists_in d)

-- nothing where it is known, else the fault
abbrev pub unless : Bool → NameError → Option NameError
unless known fault = if known then None else Some fault

abbrev pub unknown_in : Declared → VocabularyData → Mention → Option NameError
unknown_in d v m = unless (is_known d v m) (unknown m)
