-- The function on lists finds exactly the first fault.
use Rattle.std.proofs.Common.{◌≡◌, Bool, true, Option, Some, None, List, [], ◌∷◌, refl, sym, ap, ◌∙◌, inl, inr}
use Rattle.std.specs.Prelude.{IfSome, IfNone}
use Rattle.std.proofs.lemmas.Bool.{cases_Bool, both_ways}
use Rattle.ale_declared.specs.Declarations.{Declared}
use Rattle.ale_declared.proofs.NumberLemmas.{is_named_has, is_named_from}
use Rattle.ale_vocabulary.specs.declared.error.NameError.{NameError}
use Rattle.ale_vocabulary.specs.First.{IsFirst, here, later, AllRight, first_of, or_else}
use Rattle.ale_vocabulary.specs.Keys.{key}
use Rattle.ale_vocabulary.specs.Knowing.{IsKnown, is_known, IsUnknown, unknown, unknown_in, unless}
use Rattle.ale_vocabulary.specs.Laws.{FirstIsFound}
use Rattle.ale_vocabulary.specs.Mentions.{Mention, type, feature, macro_call, predicate, a_list}
use Rattle.ale_vocabulary.specs.Vocabularies.{VocabularyData}

-- Of any relation that a function decides.
module _ {A F : Type 0} (fault : A → Option F) (IsFault : A → F → Type 0) (to : (a : A) (f : F) → fault a ≡ Some f → IsFault a f) (from : (a : A) (f : F) → IsFault a f → fault a ≡ Some f) where
  no_other : (a : A) → fault a ≡ None → (f : F) → IsFault a f → ⊥
  no_other a q f is = let both : None ≡ Some f = sym q ∙ from a f is in absurd cc

  is_none : (o : Option F) → ((f : F) → o ≡ Some f → ⊥) → o ≡ None
  is_none None h = refl
  is_none (Some f) h = absurd (h f refl)

  pub found : (xs : List A) (f : F) → first_of fault xs ≡ Some f → IsFirst IsFault xs f
  found [] f h = absurd cc
  found (a ∷ rest) f h = go (found rest f) (fault a) refl h
    where
      go : (first_of fault rest ≡ Some f → IsFirst IsFault rest f) → (o : Option F) → fault a ≡ o → or_else o (first_of fault rest) ≡ Some f → IsFirst IsFault (a ∷ rest) f
      go others None q h = later a rest f (no_other a q) (others h)
      go others (Some g) q h = here a rest f (to a f (q ∙ h))

  pub only : (xs : List A) (f : F) → IsFirst IsFault xs f → first_of fault xs ≡ Some f
  only _ _ (here a rest f is) = ap (λ (o : Option F). or_else o (first_of fault rest)) (from a f is)
  only _ _ (later a rest f none is) =
      ap (λ (o : Option F). or_else o (first_of fault rest)) (is_none (fault a) (λ g q. none g (to a g q))) ∙ only rest f is

  pub right : (xs : List A) → first_of fault xs ≡ None → AllRight IsFault xs
  right [] h = tt
  right (a ∷ rest) h = go (right rest) (fault a) refl h
    where
      go : (first_of fault rest ≡ None → AllRight IsFault rest) → (o : Option F) → fault a ≡ o → or_else o (first_of fault rest) ≡ None → AllRight IsFault (a ∷ rest)
      go others None q h = (no_other a q, others h)
      go others (Some g) q h = absurd cc

  pub nothing : (xs : List A) → AllRight IsFault xs → first_of fault xs ≡ None
  nothing [] h = refl
  nothing (a ∷ rest) h =
      ap (λ (o : Option F). or_else o (first_of fault rest)) (is_none (fault a) (λ g q. h.0 g (to a g q))) ∙ nothing rest h.1

-- the test decides what is known
known_to : (d : Declared) (v : VocabularyData) (m : Mention) → is_known d v m ≡ true → IsKnown d v m
known_to d v (type n) e = is_named_has n d.types e
known_to d v (feature f) e = is_named_has f d.features e
known_to d v (macro_call m n) e = is_named_has (key m n) v.macros e
known_to d v (predicate p n) e = is_named_has (key p n) v.predicates e
known_to d v a_list e = e

known_from : (d : Declared) (v : VocabularyData) (m : Mention) → IsKnown d v m → is_known d v m ≡ true
known_from d v (type n) h = is_named_from n d.types h
known_from d v (feature f) h = is_named_from f d.features h
known_from d v (macro_call m n) h = is_named_from (key m n) v.macros h
known_from d v (predicate p n) h = is_named_from (key p n) v.predicates h
known_from d v a_list h = h

unknown_to : (d : Declared) (v : VocabularyData) (m : Mention) (e : NameError) → unknown_in d v m ≡ Some e → IsUnknown d v m e
unknown_to d v m e h = elim (cases_Bool (is_known d v m)) [
  | inl t ↦ let none : None ≡ Some e = sym (ap (λ (b : Bool). unless b (unknown m)) t) ∙ h in absurd cc
  | inr f ↦
      let some : Some (unknown m) ≡ Some e = sym (ap (λ (b : Bool). unless b (unknown m)) f) ∙ h in
      let same : unknown m ≡ e = cc in
      record { not_known = λ k. both_ways (is_known d v m) f (known_from d v m k); fault = sym same }
]

unknown_from : (d : Declared) (v : VocabularyData) (m : Mention) (e : NameError) → IsUnknown d v m e → unknown_in d v m ≡ Some e
unknown_from d v m e is = elim (cases_Bool (is_known d v m)) [
  | inl t ↦ absurd (is.not_known (known_to d v m t))
  | inr f ↦ ap (λ (b : Bool). unless b (unknown m)) f ∙ ap Some (sym is.fault)
]

pub first_is_found : FirstIsFound
first_is_found d v ms = record {
  first = λ e. (found (unknown_in d v) (IsUnknown d v) (unknown_to d v) (unknown_from d v) ms e, only (unknown_in d v) (IsUnknown d v) (unknown_to d v) (unknown_from d v) ms e);
  none = (right (unknown_in d v) (IsUnknown d v) (unknown_to d v) (unknown_from d v) ms, nothing (unknown_in d v) (IsUnknown d v) (unknown_to d v) (unknown_from d v) ms);
}

-- the same of an answer
pub answer_first : (d : Declared) (v : VocabularyData) (ms : List Mention) (o : Option NameError) → o ≡ first_of (unknown_in d v) ms → IfSome o (IsFirst (IsUnknown d v) ms)
answer_first d v ms None e = tt
answer_first d v ms (Some f) e = ((first_is_found d v ms).first f).0 (sym e)

pub answer_none : (d : Declared) (v : VocabularyData) (ms : List Mention) (o : Option NameError) → o ≡ first_of (unknown_in d v) ms → IfNone o (AllRight (IsUnknown d v) ms)
answer_none d v ms None e = (first_is_found d v ms).none.0 (sym e)
answer_none d v ms (Some f) e = tt
