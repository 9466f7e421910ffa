-- The first round finds the first declaration with a mention that is not known; where it finds none, all are known.
use Rattle.std.proofs.Common.{◌≡◌, ℕ, suc, Option, Some, None, List, [], ◌∷◌, ◌++◌}
use Rattle.ale_declared.specs.Declarations.{Declared}
use Rattle.ale_term.specs.Terms.{TermData}
use Rattle.ale_term.specs.Goals.{GoalData}
use Rattle.ale_declaration.specs.Declarations.{DeclarationData, signature, constraint, macro, clause, word, empty, lex_rule, rule, semantics, lex_depth, chain_length, passed_over, Element, daughter, daughters, condition, head}
use Rattle.ale_vocabulary.specs.First.{IsFirst, AllRight, first_of}
use Rattle.ale_vocabulary.specs.Vocabularies.{VocabularyData}
use Rattle.ale_vocabulary.specs.Mentions.{Mention, mentions, mentions_of_each, mentions_of_goal, mentions_of_some, mentions_of_element, mentions_of_elements, mentions_of_declaration}
use Rattle.ale_vocabulary.specs.Knowing.{IsUnknown, unknown_in}
use Rattle.ale_vocabulary.proofs.Found.{first_is_found}
use Rattle.ale_describe.specs.Declaring.{AreKnownDeclarations}
use Rattle.ale_describe.proofs.Knowing.{right_left, right_right}
use Rattle.ale_naming.specs.Places.{places_from}
use Rattle.ale_naming.specs.Faults.{HasUnknown}
use Rattle.ale_naming.specs.Known.{AreKnown, IsKnownSome, IsKnownElement, AreKnownElements, HasKnownParts, HaveKnownParts}
use Rattle.ale_naming.specs.Rounds.{fault_at, round_one}
use Rattle.ale_naming.proofs.Firsts.{Finds, finds_none, finds_more, tells_at, at_none, both_none}

pub one_finds : (d : Declared) (v : VocabularyData) (k : ℕ) (before xs : List DeclarationData) → Finds (HasUnknown d v) (round_one d v k xs) (places_from k before xs)
one_finds d v k before [] = finds_none (HasUnknown d v)
one_finds d v k before (x ∷ xs) =
    finds_more (HasUnknown d v) (fault_at k (first_of (unknown_in d v) (mentions_of_declaration x))) (round_one d v (suc k) xs)
    (record { number = k; before = before; declaration = x }) (places_from (suc k) (before ++ x ∷ []) xs)
    (tells_at k (first_of (unknown_in d v) (mentions_of_declaration x)) (IsFirst (IsUnknown d v) (mentions_of_declaration x)) (λ e. (first_is_found d v (mentions_of_declaration x)).first e))
    (λ none. one_finds d v (suc k) (before ++ x ∷ []) xs)

right_here : (d : Declared) (v : VocabularyData) (k : ℕ) (x : DeclarationData) (xs : List DeclarationData) → round_one d v k (x ∷ xs) ≡ None → AllRight (IsUnknown d v) (mentions_of_declaration x)
right_here d v k x xs e =
    let parts = both_none (fault_at k (first_of (unknown_in d v) (mentions_of_declaration x))) (round_one d v (suc k) xs) e in
    (first_is_found d v (mentions_of_declaration x)).none.0 (at_none k (first_of (unknown_in d v) (mentions_of_declaration x)) parts.0)

right_later : (d : Declared) (v : VocabularyData) (k : ℕ) (x : DeclarationData) (xs : List DeclarationData) → round_one d v k (x ∷ xs) ≡ None → round_one d v (suc k) xs ≡ None
right_later d v k x xs e = (both_none (fault_at k (first_of (unknown_in d v) (mentions_of_declaration x))) (round_one d v (suc k) xs) e).1

pub all_mentions : (d : Declared) (v : VocabularyData) (k : ℕ) (xs : List DeclarationData) → round_one d v k xs ≡ None → AreKnownDeclarations d v xs
all_mentions d v k [] e = tt
all_mentions d v k (x ∷ xs) e = (right_here d v k x xs e, all_mentions d v (suc k) xs (right_later d v k x xs e))

-- part by part
module _ (d : Declared) (v : VocabularyData) where
  abbrev Right : List Mention → Type 0
  Right ms = AllRight (IsUnknown d v) ms

  each : (ts : List TermData) → Right (mentions_of_each ts) → AreKnown d v ts
  each [] h = tt
  each (t ∷ ts) h = (right_left (IsUnknown d v) (mentions t) (mentions_of_each ts) h, each ts (right_right (IsUnknown d v) (mentions t) (mentions_of_each ts) h))

  some : (g : Option GoalData) → Right (mentions_of_some g) → IsKnownSome d v g
  some None h = tt
  some (Some g) h = h

  element : (e : Element) → Right (mentions_of_element e) → IsKnownElement d v e
  element (daughter t) h = h
  element (daughters t) h = h.1
  element (condition g) h = h
  element (head t) h = h

  elements : (es : List Element) → Right (mentions_of_elements es) → AreKnownElements d v es
  elements [] h = tt
  elements (e ∷ es) h =
      (element e (right_left (IsUnknown d v) (mentions_of_element e) (mentions_of_elements es) h), elements es (right_right (IsUnknown d v) (mentions_of_element e) (mentions_of_elements es) h))

  known_parts : (x : DeclarationData) → Right (mentions_of_declaration x) → HasKnownParts d v x
  known_parts (signature s) h = tt
  known_parts (constraint n t g) h =
      ((right_left (IsUnknown d v) (mentions t) (mentions_of_some g) h.1, tt), some g (right_right (IsUnknown d v) (mentions t) (mentions_of_some g) h.1))
  known_parts (macro m ps t) h = (h, tt)
  known_parts (clause p ts g) h =
      (each ts (right_left (IsUnknown d v) (mentions_of_each ts) (mentions_of_goal g) h), right_right (IsUnknown d v) (mentions_of_each ts) (mentions_of_goal g) h)
  known_parts (word w t) h = (h, tt)
  known_parts (empty t) h = (h, tt)
  known_parts (lex_rule n t u g ls) h =
      let first : Right (mentions t ++ mentions u) = right_left (IsUnknown d v) (mentions t ++ mentions u) (mentions_of_some g) h in (
        (right_left (IsUnknown d v) (mentions t) (mentions u) first, tt),
        (right_right (IsUnknown d v) (mentions t) (mentions u) first, tt),
        some g (right_right (IsUnknown d v) (mentions t ++ mentions u) (mentions_of_some g) h),
      )
  known_parts (rule n t es) h =
      ((right_left (IsUnknown d v) (mentions t) (mentions_of_elements es) h, tt), elements es (right_right (IsUnknown d v) (mentions t) (mentions_of_elements es) h))
  known_parts (semantics p) h = tt
  known_parts (lex_depth n) h = tt
  known_parts (chain_length n) h = tt
  known_parts (passed_over n) h = tt

pub all_known : (d : Declared) (v : VocabularyData) (k : ℕ) (xs : List DeclarationData) → round_one d v k xs ≡ None → HaveKnownParts d v xs
all_known d v k [] e = tt
all_known d v k (x ∷ xs) e = (known_parts d v x (right_here d v k x xs e), all_known d v (suc k) xs (right_later d v k x xs e))
