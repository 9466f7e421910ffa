-- Sums of parts and counts, one after another.
use Rattle.std.proofs.Common.{◌≡◌, ℕ, suc, ◌+◌, ◌<◌, Bool, true, false, Option, Some, None, List, [], ◌∷◌, ◌++◌, length, get_or, drop, map, refl, sym, ap, subst, ◌∙◌, add-one}
use Rattle.std.specs.Prelude.{codes}
use Rattle.std.specs.Str.{chars}
use Rattle.ale_declared.specs.Declarations.{Declared}
use Rattle.ale_term.specs.declared.term.Term.{Term}
use Rattle.ale_term.specs.Terms.{TermData, term_data}
use Rattle.ale_declaration.specs.declared.declaration.Part.{Part}
use Rattle.ale_declaration.specs.declared.declaration.Declaration.{Declaration}
use Rattle.ale_declaration.specs.Declarations.{element_data, declaration_data}
use Rattle.ale_vocabulary.specs.First.{or_else}
use Rattle.ale_vocabulary.specs.Vocabularies.{VocabularyData}
use Rattle.ale_describe.specs.Names.{NamesData}
use Rattle.ale_describe.specs.Limits.{parts_of_all, sum_after}
use Rattle.ale_describe.proofs.Adding.{none_stays, sum_append, each_step}
use Rattle.ale_describe.proofs.Loops.{front}
use Rattle.ale_describe.proofs.Limiting.{limits_law}
use Rattle.ale_naming.specs.Faults.{Fault, descriptions_in_element, descriptions_in_elements, descriptions_of}
use Rattle.ale_naming.specs.Known.{AreKnown, AreKnownElements, HaveKnownParts}
use Rattle.ale_naming.specs.Rounds.{fault_at, too_big, round_three}

abbrev pub one_more : Bool → ℕ → ℕ
one_more true n = suc n
one_more false n = n

pub list_stops : (d : Declared) (names : NamesData) (n : ℕ) (ts us : List TermData) → None ≡ sum_after d names (Some n) ts → None ≡ sum_after d names (Some n) (ts ++ us)
list_stops d names n ts us e = sym (none_stays d names us) ∙ ap (λ o. sum_after d names o us) e ∙ sym (sum_append d names (Some n) ts us)

pub list_goes : (d : Declared) (names : NamesData) (n m : ℕ) (ts us : List TermData) (o : Option ℕ) → Some m ≡ sum_after d names (Some n) ts → o ≡ sum_after d names (Some m) us → o ≡ sum_after d names (Some n) (ts ++ us)
list_goes d names n m ts us o e f = f ∙ ap (λ p. sum_after d names p us) e ∙ sym (sum_append d names (Some n) ts us)

pub sum_stops : (d : Declared) (names : NamesData) (n : ℕ) (t : TermData) (us : List TermData) → None ≡ sum_after d names (Some n) (t ∷ []) → None ≡ sum_after d names (Some n) (t ∷ us)
sum_stops d names n t us e = list_stops d names n (t ∷ []) us e

pub sum_goes : (d : Declared) (names : NamesData) (n m : ℕ) (t : TermData) (us : List TermData) (o : Option ℕ) → Some m ≡ sum_after d names (Some n) (t ∷ []) → o ≡ sum_after d names (Some m) us → o ≡ sum_after d names (Some n) (t ∷ us)
sum_goes d names n m t us o e f = list_goes d names n m (t ∷ []) us o e f

-- a sum that is found is that of the parts
pub sum_is : (d : Declared) (names : NamesData) (n m : ℕ) (ts : List TermData) → Some m ≡ sum_after d names (Some n) ts → m ≡ n + parts_of_all d names ts
sum_is d names n m ts e = ((limits_law d names n ts).found m (sym e)).1

-- words as they are written
pub semantics_word : chars (codes "semantics") ≡ codes "semantics"
unfolding chars
semantics_word = refl

pub depth_word : chars (codes "lex_rule_depth") ≡ codes "lex_rule_depth"
unfolding chars
depth_word = refl

pub length_word : chars (codes "chain_length") ≡ codes "chain_length"
unfolding chars
length_word = refl

-- descriptions from a place on
pub terms_known : (d : Declared) (v : VocabularyData) (terms : List Term) (i : ℕ) (t : Term) → i < length terms → t ≡ get_or terms i t →
    AreKnown d v (map term_data (drop i terms)) → AreKnown d v (map term_data (t ∷ drop (i + 1) terms))
terms_known d v terms i t low is known = subst (λ z. AreKnown d v (map term_data z)) (front terms i t low is) known

pub terms_go : (d : Declared) (names : NamesData) (n m : ℕ) (terms : List Term) (i : ℕ) (t : Term) (o whole : Option ℕ) → i < length terms → t ≡ get_or terms i t →
    sum_after d names (Some n) (map term_data (drop i terms)) ≡ whole → o ≡ sum_after d names (Some n) (term_data t ∷ []) → o ≡ Some m →
    sum_after d names (Some m) (map term_data (drop (i + 1) terms)) ≡ whole
terms_go d names n m terms i t o whole low is so_far gives some =
    ap (λ p. sum_after d names p (map term_data (drop (i + 1) terms))) (sym some) ∙ each_step d names (Some n) terms i t o whole low is so_far gives

pub terms_stop : (d : Declared) (names : NamesData) (n : ℕ) (terms : List Term) (i : ℕ) (t : Term) (o whole : Option ℕ) → i < length terms → t ≡ get_or terms i t →
    sum_after d names (Some n) (map term_data (drop i terms)) ≡ whole → o ≡ sum_after d names (Some n) (term_data t ∷ []) → o ≡ None → None ≡ whole
terms_stop d names n terms i t o whole low is so_far gives none =
    sym (none_stays d names (map term_data (drop (i + 1) terms))) ∙ each_step d names (Some n) terms i t None whole low is so_far (sym none ∙ gives)

-- elements from a place on
pub elements_known : (d : Declared) (v : VocabularyData) (elements : List Part) (i : ℕ) (e : Part) → i < length elements → e ≡ get_or elements i e →
    AreKnownElements d v (map element_data (drop i elements)) → AreKnownElements d v (map element_data (e ∷ drop (i + 1) elements))
elements_known d v elements i e low is known = subst (λ z. AreKnownElements d v (map element_data z)) (front elements i e low is) known

elements_step : (d : Declared) (names : NamesData) (n : ℕ) (elements : List Part) (i : ℕ) (e : Part) (o whole : Option ℕ) → i < length elements → e ≡ get_or elements i e →
    sum_after d names (Some n) (descriptions_in_elements (map element_data (drop i elements))) ≡ whole → o ≡ sum_after d names (Some n) (descriptions_in_element (element_data e)) →
    sum_after d names o (descriptions_in_elements (map element_data (drop (i + 1) elements))) ≡ whole
elements_step d names n elements i e o whole low is so_far gives =
    ap (λ p. sum_after d names p (descriptions_in_elements (map element_data (drop (i + 1) elements)))) gives
    ∙ (sym (sum_append d names (Some n) (descriptions_in_element (element_data e)) (descriptions_in_elements (map element_data (drop (i + 1) elements))))
    ∙ (sym (ap (λ z. sum_after d names (Some n) (descriptions_in_elements (map element_data z))) (front elements i e low is))
    ∙ so_far))

pub elements_go : (d : Declared) (names : NamesData) (n m : ℕ) (elements : List Part) (i : ℕ) (e : Part) (o whole : Option ℕ) → i < length elements → e ≡ get_or elements i e →
    sum_after d names (Some n) (descriptions_in_elements (map element_data (drop i elements))) ≡ whole → o ≡ sum_after d names (Some n) (descriptions_in_element (element_data e)) → o ≡ Some m →
    sum_after d names (Some m) (descriptions_in_elements (map element_data (drop (i + 1) elements))) ≡ whole
elements_go d names n m elements i e o whole low is so_far gives some =
    ap (λ p. sum_after d names p (descriptions_in_elements (map element_data (drop (i + 1) elements)))) (sym some) ∙ elements_step d names n elements i e o whole low is so_far gives

pub elements_stop : (d : Declared) (names : NamesData) (n : ℕ) (elements : List Part) (i : ℕ) (e : Part) (o whole : Option ℕ) → i < length elements → e ≡ get_or elements i e →
    sum_after d names (Some n) (descriptions_in_elements (map element_data (drop i elements))) ≡ whole → o ≡ sum_after d names (Some n) (descriptions_in_element (element_data e)) → o ≡ None → None ≡ whole
elements_stop d names n elements i e o whole low is so_far gives none =
    sym (none_stays d names (descriptions_in_elements (map element_data (drop (i + 1) elements)))) ∙ elements_step d names n elements i e None whole low is so_far (sym none ∙ gives)

-- declarations from a place on
pub declarations_known : (d : Declared) (v : VocabularyData) (decls : List Declaration) (i : ℕ) (x : Declaration) → i < length decls → x ≡ get_or decls i x →
    HaveKnownParts d v (map declaration_data (drop i decls)) → HaveKnownParts d v (map declaration_data (x ∷ drop (i + 1) decls))
declarations_known d v decls i x low is known = subst (λ z. HaveKnownParts d v (map declaration_data z)) (front decls i x low is) known

pub declarations_go : (d : Declared) (names : NamesData) (n m : ℕ) (decls : List Declaration) (i : ℕ) (x : Declaration) (o : Option ℕ) (whole : Option Fault) → i < length decls → x ≡ get_or decls i x →
    round_three d names (suc i) n (map declaration_data (drop i decls)) ≡ whole → o ≡ sum_after d names (Some n) (descriptions_of (declaration_data x)) → o ≡ Some m →
    round_three d names (suc (i + 1)) m (map declaration_data (drop (i + 1) decls)) ≡ whole
declarations_go d names n m decls i x o whole low is so_far gives some =
    ap (λ k. round_three d names (suc k) m (map declaration_data (drop (i + 1) decls))) (add-one i)
    ∙ (ap (λ k. round_three d names (suc (suc i)) k (map declaration_data (drop (i + 1) decls))) (sum_is d names n m (descriptions_of (declaration_data x)) (sym some ∙ gives))
    ∙ (ap (λ p. or_else (fault_at (suc i) (too_big p)) (round_three d names (suc (suc i)) (n + parts_of_all d names (descriptions_of (declaration_data x))) (map declaration_data (drop (i + 1) decls)))) (sym some ∙ gives)
    ∙ (sym (ap (λ z. round_three d names (suc i) n (map declaration_data z)) (front decls i x low is))
    ∙ so_far)))
