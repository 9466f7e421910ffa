-- Why declarations are refused after they were read: in three rounds, each over all declarations in order; the first fault
-- that is found is told, with the number of its declaration. First a mention that is not known; then a declaration that does
-- not go with those before it or leads back to itself; then one that is too large when all macros are put in.
-- Source: macros, rules and directives in the ALE 3.2 User's Guide; the order and the limits are this project's own.
use Rattle.std.specs.Prelude.{◌≡◌, ℕ, suc, ◌+◌, ◌<◌, ◌≤◌, ◌⊎◌, Bool, true, false, Option, Some, None, List, [], ◌∷◌, ◌++◌, length, codes}
use Rattle.ale_relation.specs.Has.{Has}
use Rattle.ale_order.specs.Orders.{IsCyclic}
use Rattle.ale_declared.specs.Declarations.{Declared}
use Rattle.ale_declared.specs.Names.{number}
use Rattle.ale_term.specs.Terms.{TermData}
use Rattle.ale_term.specs.Goals.{GoalData}
use Rattle.ale_declaration.specs.Declarations.{DeclarationData, signature, constraint, macro, clause, word, empty, lex_rule, rule, semantics, lex_depth, chain_length, passed_over, Element, daughter, daughters, condition, head}
use Rattle.ale_vocabulary.specs.First.{IsFirst, AllRight}
use Rattle.ale_vocabulary.specs.Keys.{key}
use Rattle.ale_vocabulary.specs.Vocabularies.{VocabularyData, macro_key, keys_by, vocabulary_of}
use Rattle.ale_vocabulary.specs.Mentions.{mentions_of_declaration}
use Rattle.ale_vocabulary.specs.Knowing.{IsUnknown}
use Rattle.ale_vocabulary.specs.declared.error.NameError.{NameError}
use Rattle.ale_vocabulary.specs.declared.error.NameError.TheVariants.{MacroTwice, MacroCycle, TwoHeads, NoDaughter, BadDirective, TooBig}
use Rattle.ale_macro.specs.Calls.{calls_of}
use Rattle.ale_describe.specs.Names.{NamesData}
use Rattle.ale_describe.specs.Macros.{names_of}
use Rattle.ale_describe.specs.Limits.{descriptions_in, parts_of_all, AreWithin}
use Rattle.ale_naming.specs.Places.{Place, places}

-- the number of a declaration, and its fault
abbrev pub Fault : Type 0
Fault = ℕ × NameError

-- Round one: the first mention in the declaration that is not known.

abbrev pub HasUnknown : Declared → VocabularyData → Place → Fault → Type 0
HasUnknown d v place fault = (fault.0 ≡ place.number) × IsFirst (IsUnknown d v) (mentions_of_declaration place.declaration) fault.1

-- Round two.

abbrev pub heads : List Element → ℕ
heads [] = 0
heads (head t ∷ es) = suc (heads es)
heads (daughter t ∷ es) = heads es
heads (daughters t ∷ es) = heads es
heads (condition g ∷ es) = heads es

abbrev pub has_daughter : List Element → Bool
has_daughter [] = false
has_daughter (head t ∷ es) = true
has_daughter (daughter t ∷ es) = true
has_daughter (daughters t ∷ es) = true
has_daughter (condition g ∷ es) = has_daughter es

abbrev pub greatest_depth : ℕ
greatest_depth = 8

abbrev pub greatest_chain : ℕ
greatest_chain = 16

-- a declaration, after those before it, by the calls of macros
pub data IsMisplaced (calls : List (ℕ × ℕ)) (v : VocabularyData) (before : List DeclarationData) : DeclarationData → NameError → Type 0 where
  -- the later of two macros of one name and arity
  twice : (m : List ℕ) (ps : List (List ℕ)) (t : TermData) → Has (keys_by macro_key before) (key m (length ps)) →
      IsMisplaced calls v before (macro m ps t) (MacroTwice m (length ps))
  -- a macro whose calls lead back to it
  cycle : (m : List ℕ) (ps : List (List ℕ)) (t : TermData) → (Has (keys_by macro_key before) (key m (length ps)) → ⊥) →
      IsCyclic calls (number v.macros (key m (length ps))) → IsMisplaced calls v before (macro m ps t) (MacroCycle m (length ps))
  two_heads : (n : List ℕ) (t : TermData) (es : List Element) → 2 ≤ heads es → IsMisplaced calls v before (rule n t es) (TwoHeads n)
  no_daughter : (n : List ℕ) (t : TermData) (es : List Element) → has_daughter es ≡ false → IsMisplaced calls v before (rule n t es) (NoDaughter n)
  -- a number out of its limit, or a directive that was given before
  deep : (n : ℕ) → (greatest_depth < n) ⊎ ((k : ℕ) × Has before (lex_depth k)) →
      IsMisplaced calls v before (lex_depth n) (BadDirective (codes "lex_rule_depth"))
  long : (n : ℕ) → (greatest_chain < n) ⊎ ((k : ℕ) × Has before (chain_length k)) →
      IsMisplaced calls v before (chain_length n) (BadDirective (codes "chain_length"))
  again : (p q : List ℕ) → Has before (semantics q) → IsMisplaced calls v before (semantics p) (BadDirective (codes "semantics"))

abbrev pub HasMisplaced : List (ℕ × ℕ) → VocabularyData → Place → Fault → Type 0
HasMisplaced calls v place fault = (fault.0 ≡ place.number) × IsMisplaced calls v place.before place.declaration fault.1

-- Round three.

abbrev pub descriptions_in_some : Option GoalData → List TermData
descriptions_in_some None = []
descriptions_in_some (Some g) = descriptions_in g

abbrev pub descriptions_in_element : Element → List TermData
descriptions_in_element (daughter t) = t ∷ []
descriptions_in_element (daughters t) = t ∷ []
descriptions_in_element (condition g) = descriptions_in g
descriptions_in_element (head t) = t ∷ []

abbrev pub descriptions_in_elements : List Element → List TermData
descriptions_in_elements [] = []
descriptions_in_elements (e ∷ es) = descriptions_in_element e ++ descriptions_in_elements es

-- the descriptions of a declaration; a macro's body is no description of its own
abbrev pub descriptions_of : DeclarationData → List TermData
descriptions_of (signature s) = []
descriptions_of (constraint n t g) = t ∷ descriptions_in_some g
descriptions_of (macro m ps t) = []
descriptions_of (clause p ts g) = ts ++ descriptions_in g
descriptions_of (word w t) = t ∷ []
descriptions_of (empty t) = t ∷ []
descriptions_of (lex_rule n t u g ls) = t ∷ u ∷ descriptions_in_some g
descriptions_of (rule n t es) = t ∷ descriptions_in_elements es
descriptions_of (semantics p) = []
descriptions_of (lex_depth n) = []
descriptions_of (chain_length n) = []
descriptions_of (passed_over n) = []

-- all parts of the descriptions of these declarations
abbrev pub parts_in : Declared → NamesData → List DeclarationData → ℕ
parts_in d names [] = 0
parts_in d names (x ∷ xs) = parts_of_all d names (descriptions_of x) + parts_in d names xs

pub record IsTooBig (d : Declared) (names : NamesData) (place : Place) (fault : Fault) : Type 0 where
  pub number : fault.0 ≡ place.number
  pub too_big : fault.1 ≡ TooBig
  pub not_within : AreWithin d names (parts_in d names place.before) (descriptions_of place.declaration) → ⊥

-- The fault that is told: of the first round that finds one, the first.
pub data IsNameFault (d : Declared) (ds : List DeclarationData) : Fault → Type 0 where
  unknown : (f : Fault) → IsFirst (HasUnknown d (vocabulary_of ds)) (places ds) f → IsNameFault d ds f
  misplaced : (f : Fault) → AllRight (HasUnknown d (vocabulary_of ds)) (places ds) →
      IsFirst (HasMisplaced (calls_of (names_of d ds).library.macros) (vocabulary_of ds)) (places ds) f → IsNameFault d ds f
  too_large : (f : Fault) → AllRight (HasUnknown d (vocabulary_of ds)) (places ds) →
      AllRight (HasMisplaced (calls_of (names_of d ds).library.macros) (vocabulary_of ds)) (places ds) →
      IsFirst (IsTooBig d (names_of d ds)) (places ds) f → IsNameFault d ds f

-- no round finds one
pub record AreRight (d : Declared) (ds : List DeclarationData) : Type 0 where
  pub known : AllRight (HasUnknown d (vocabulary_of ds)) (places ds)
  pub placed : AllRight (HasMisplaced (calls_of (names_of d ds).library.macros) (vocabulary_of ds)) (places ds)
  pub within : AllRight (IsTooBig d (names_of d ds)) (places ds)
