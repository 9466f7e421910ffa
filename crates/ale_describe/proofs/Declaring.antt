-- Macros by the numbers of their keys: a declaration is the first of its key exactly where the key has the next number.
use Rattle.std.proofs.Common.{◌≡◌, ℕ, suc, ◌<◌, true, false, Option, Some, None, List, [], ◌∷◌, ◌++◌, map, drop, length, if◌then◌else◌, refl, sym, ap, ◌∙◌, subst, inl, inr, arith}
use Rattle.std.specs.Option.{option_map}
use Rattle.std.proofs.lemmas.Bool.{cases_Bool, both_ways, eq-eqb, eqb-true}
use Rattle.ale_declared.specs.Declarations.{Declared}
use Rattle.ale_declared.specs.Names.{same_name, is_named, named, numbered}
use Rattle.ale_declared.proofs.NumberLemmas.{same_name_from, is_named_has, is_named_from, Has-numbered, numbered_has}
use Rattle.ale_declared.proofs.NameLemmas.{numbered_append}
use Rattle.ale_declaration.specs.declared.declaration.Declaration.{Declaration}
use Rattle.ale_declaration.specs.Declarations.{DeclarationData, declaration_data, signature, constraint, macro, clause, word, empty, lex_rule, rule, semantics, lex_depth, chain_length, passed_over}
use Rattle.ale_vocabulary.specs.Keys.{key}
use Rattle.ale_vocabulary.specs.Vocabularies.{VocabularyData, macro_key, keys_by, vocabulary_of}
use Rattle.ale_macro.specs.declared.macros.Macro.{Macro}
use Rattle.ale_macro.specs.Templates.{MacroData, macro_data}
use Rattle.ale_describe.specs.Names.{HasKey, HaveKeys}
use Rattle.ale_describe.specs.Macros.{macro_of, unless_named, macros_after}
use Rattle.ale_describe.specs.Declaring.{is_next, macro_in}
use Rattle.ale_describe.proofs.Numbering.{named_below, named_not}

-- names that come later change no number
named_keeps : (vs us : List (List ℕ)) (x : List ℕ) (k : ℕ) → named vs x ≡ Some k → named (vs ++ us) x ≡ Some k
named_keeps [] us x k e = absurd cc
named_keeps (v ∷ vs) us x k e = elim (cases_Bool (same_name x v)) [
  | inl t ↦ let here : Some 0 ≡ Some k = rw t at e in rw t here
  | inr f ↦ let there : option_map suc (named vs x) ≡ Some k = rw f at e in rw f (later (λ j q. named_keeps vs us x j q) (named vs x) refl there)
]
  where
    later : ((j : ℕ) → named vs x ≡ Some j → named (vs ++ us) x ≡ Some j) → (o : Option ℕ) → named vs x ≡ o → option_map suc o ≡ Some k → option_map suc (named (vs ++ us) x) ≡ Some k
    later inner None q h = absurd cc
    later inner (Some j) q h = ap (option_map suc) (inner j q) ∙ h

numbered_keeps : (vs xs : List (List ℕ)) (x : List ℕ) (k : ℕ) → named vs x ≡ Some k → named (numbered vs xs) x ≡ Some k
numbered_keeps vs [] x k e = e
numbered_keeps vs (y ∷ ys) x k e = elim (cases_Bool (is_named y vs)) [
  | inl t ↦ rw t (numbered_keeps vs ys x k e)
  | inr f ↦ rw f (numbered_keeps (vs ++ y ∷ []) ys x k (named_keeps vs (y ∷ []) x k e))
]

-- a new name has the next number
named_end : (vs : List (List ℕ)) (x : List ℕ) → is_named x vs ≡ false → named (vs ++ x ∷ []) x ≡ Some (length vs)
named_end [] x f = rw (same_name_from x x refl) refl
named_end (v ∷ vs) x f = elim (cases_Bool (same_name x v)) [
  | inl t ↦ let no : true ≡ false = rw t at f in absurd cc
  | inr g ↦ let rest : is_named x vs ≡ false = rw g at f in rw g (ap (option_map suc) (named_end vs x rest))
]

same_number : (n : ℕ) → is_next (Some n) n ≡ true
same_number n = eq-eqb n n refl

lower_number : (k n : ℕ) → k < n → is_next (Some k) n ≡ false
lower_number k n low = elim (cases_Bool (is_next (Some k) n)) [
  | inl t ↦ let same : k ≡ n = eqb-true k n t in absurd (omega (arith, low, same))
  | inr f ↦ f
]

next_first : (vs rest : List (List ℕ)) (x : List ℕ) → is_named x vs ≡ false → is_next (named (numbered vs (x ∷ rest)) x) (length vs) ≡ true
next_first vs rest x f =
    let at : named (numbered vs (x ∷ rest)) x ≡ Some (length vs) = rw f (numbered_keeps (vs ++ x ∷ []) rest x (length vs) (named_end vs x f)) in
    ap (λ o. is_next o (length vs)) at ∙ same_number (length vs)

next_again : (vs rest : List (List ℕ)) (x : List ℕ) → is_named x vs ≡ true → is_next (named (numbered vs (x ∷ rest)) x) (length vs) ≡ false
next_again vs rest x t = go (named vs x) refl
  where
    go : (o : Option ℕ) → named vs x ≡ o → is_next (named (numbered vs (x ∷ rest)) x) (length vs) ≡ false
    go None e = absurd (both_ways (is_named x vs) (named_not vs x e).1 t)
    go (Some k) e = ap (λ o. is_next o (length vs)) (numbered_keeps vs (x ∷ rest) x k e) ∙ lower_number k (length vs) (named_below vs x k e)

-- the names that were met, and those numbered, are the same
was_met : (seen : List (List ℕ)) (x : List ℕ) → is_named x (numbered [] seen) ≡ true → is_named x seen ≡ true
was_met seen x t = elim (numbered_has [] seen x (is_named_has x (numbered [] seen) t)) [ inl none ↦ absurd none | inr has ↦ is_named_from x seen has ]

was_not_met : (seen : List (List ℕ)) (x : List ℕ) → is_named x (numbered [] seen) ≡ false → is_named x seen ≡ false
was_not_met seen x f = elim (cases_Bool (is_named x seen)) [
  | inl t ↦ absurd (both_ways (is_named x (numbered [] seen)) f (is_named_from x (numbered [] seen) (Has-numbered [] seen x (is_named_has x seen t))))
  | inr g ↦ g
]

add_met : (seen : List (List ℕ)) (x : List ℕ) → is_named x (numbered [] seen) ≡ true → numbered [] (seen ++ x ∷ []) ≡ numbered [] seen
add_met seen x t = numbered_append [] seen (x ∷ []) ∙ still
  where
    still : numbered (numbered [] seen) (x ∷ []) ≡ numbered [] seen
    still = rw t refl

add_new : (seen : List (List ℕ)) (x : List ℕ) → is_named x (numbered [] seen) ≡ false → numbered [] (seen ++ x ∷ []) ≡ numbered [] seen ++ x ∷ []
add_new seen x f = numbered_append [] seen (x ∷ []) ∙ more
  where
    more : numbered (numbered [] seen) (x ∷ []) ≡ numbered [] seen ++ x ∷ []
    more = rw f refl

length_push : {A : Type 0} (xs : List A) (x : A) → length (xs ++ x ∷ []) ≡ suc (length xs)
length_push [] x = refl
length_push (y ∷ ys) x = ap suc (length_push ys x)

push_append : {A : Type 0} (xs : List A) (x : A) (ys : List A) → (xs ++ x ∷ []) ++ ys ≡ xs ++ x ∷ ys
push_append [] x ys = refl
push_append (z ∷ zs) x ys = ap (λ w. z ∷ w) (push_append zs x ys)

append_none : {A : Type 0} (xs : List A) → xs ++ [] ≡ xs
append_none [] = refl
append_none (x ∷ xs) = ap (λ w. x ∷ w) (append_none xs)

-- this one, where it is there, before those that follow it
abbrev pub with_first : Option MacroData → (ℕ → List MacroData) → ℕ → List MacroData
with_first None rest count = rest count
with_first (Some m) rest count = m ∷ rest (suc count)

-- the macros of these, after declarations of so many
abbrev pub macros_from : Declared → VocabularyData → List DeclarationData → ℕ → List MacroData
macros_from d v [] count = []
macros_from d v (x ∷ xs) count = with_first (macro_in d v count x) (macros_from d v xs) count

same_macros : (d : Declared) (v : VocabularyData) (seen : List (List ℕ)) (ds : List DeclarationData) → v.macros ≡ numbered (numbered [] seen) (keys_by macro_key ds) →
    macros_from d v ds (length (numbered [] seen)) ≡ macros_after d v seen ds
same_macros d v seen [] e = refl
same_macros d v seen (macro m ps t ∷ ds) e = one (macro_of d v ps t) (key m (length ps)) e
    (same_macros d v (seen ++ key m (length ps) ∷ []) ds (e ∙ ap (λ z. numbered z (keys_by macro_key ds)) (sym (numbered_append [] seen (key m (length ps) ∷ [])))))
  where
    one : (x : MacroData) (k : List ℕ) → v.macros ≡ numbered (numbered [] seen) (k ∷ keys_by macro_key ds) →
        macros_from d v ds (length (numbered [] (seen ++ k ∷ []))) ≡ macros_after d v (seen ++ k ∷ []) ds →
        with_first (if is_next (named v.macros k) (length (numbered [] seen)) then Some x else None) (macros_from d v ds) (length (numbered [] seen)) ≡ unless_named k seen (x ∷ []) ++ macros_after d v (seen ++ k ∷ []) ds
    one x k e inner = elim (cases_Bool (is_named k (numbered [] seen))) [
      | inl t ↦
          let again : is_next (named v.macros k) (length (numbered [] seen)) ≡ false = ap (λ z. is_next (named z k) (length (numbered [] seen))) e ∙ next_again (numbered [] seen) (keys_by macro_key ds) k t in
          rw (again, was_met seen k t) (ap (λ z. macros_from d v ds (length z)) (sym (add_met seen k t)) ∙ inner)
      | inr f ↦
          let first : is_next (named v.macros k) (length (numbered [] seen)) ≡ true = ap (λ z. is_next (named z k) (length (numbered [] seen))) e ∙ next_first (numbered [] seen) (keys_by macro_key ds) k f in
          rw (first, was_not_met seen k f) (ap (λ w. x ∷ w) (ap (macros_from d v ds) (sym (ap length (add_new seen k f) ∙ length_push (numbered [] seen) k)) ∙ inner))
    ]
same_macros d v seen (signature s ∷ ds) e = same_macros d v seen ds e
same_macros d v seen (constraint n t g ∷ ds) e = same_macros d v seen ds e
same_macros d v seen (clause p ts g ∷ ds) e = same_macros d v seen ds e
same_macros d v seen (word w t ∷ ds) e = same_macros d v seen ds e
same_macros d v seen (empty t ∷ ds) e = same_macros d v seen ds e
same_macros d v seen (lex_rule n t u g ls ∷ ds) e = same_macros d v seen ds e
same_macros d v seen (rule n t es ∷ ds) e = same_macros d v seen ds e
same_macros d v seen (semantics p ∷ ds) e = same_macros d v seen ds e
same_macros d v seen (lex_depth n ∷ ds) e = same_macros d v seen ds e
same_macros d v seen (chain_length n ∷ ds) e = same_macros d v seen ds e
same_macros d v seen (passed_over n ∷ ds) e = same_macros d v seen ds e

-- all declarations
all_macros : (d : Declared) (v : VocabularyData) (ds : List DeclarationData) → v ≡ vocabulary_of ds → macros_from d v ds 0 ≡ macros_after d v [] ds
all_macros d v ds e = same_macros d v [] ds (ap (λ (w : VocabularyData). w.macros) e)

-- the loop over declarations

abbrev pub macros_left : Declared → VocabularyData → List Declaration → ℕ → ℕ → List MacroData
macros_left d v decls i count = macros_from d v (map declaration_data (drop i decls)) count

pub macros_begin : (d : Declared) (v : VocabularyData) (decls : List Declaration) (made : List Macro) → made ≡ [] → v ≡ vocabulary_of (map declaration_data decls) →
    map macro_data made ++ macros_left d v decls 0 (length made) ≡ macros_after d v [] (map declaration_data decls)
macros_begin d v decls made none e = ap (λ z. map macro_data z ++ macros_left d v decls 0 (length z)) none ∙ all_macros d v (map declaration_data decls) e

-- the keys are those of the macros, in order

keys_push : (ks : List (List ℕ)) (ms : List MacroData) (k : List ℕ) (m : MacroData) → HaveKeys ks ms → HasKey k m → HaveKeys (ks ++ k ∷ []) (ms ++ m ∷ [])
keys_push [] [] k m h has = (has, tt)
keys_push [] (n ∷ ns) k m h has = absurd h
keys_push (j ∷ js) [] k m h has = absurd h
keys_push (j ∷ js) (n ∷ ns) k m h has = (h.0, keys_push js ns k m h.1 has)

have_keys : (d : Declared) (v : VocabularyData) (seen : List (List ℕ)) (ms : List MacroData) (ds : List DeclarationData) → HaveKeys (numbered [] seen) ms →
    HaveKeys (numbered (numbered [] seen) (keys_by macro_key ds)) (ms ++ macros_after d v seen ds)
have_keys d v seen ms [] h = subst (HaveKeys (numbered [] seen)) (sym (append_none ms)) h
have_keys d v seen ms (macro m ps t ∷ ds) h =
    one (key m (length ps)) (macro_of d v ps t) (record { name = m; is = refl }) (λ ns g. have_keys d v (seen ++ key m (length ps) ∷ []) ns ds g)
  where
    one : (k : List ℕ) (x : MacroData) → HasKey k x →
        ((ns : List MacroData) → HaveKeys (numbered [] (seen ++ k ∷ [])) ns → HaveKeys (numbered (numbered [] (seen ++ k ∷ [])) (keys_by macro_key ds)) (ns ++ macros_after d v (seen ++ k ∷ []) ds)) →
        HaveKeys (numbered (numbered [] seen) (k ∷ keys_by macro_key ds)) (ms ++ (unless_named k seen (x ∷ []) ++ macros_after d v (seen ++ k ∷ []) ds))
    one k x has inner = subst (λ z. HaveKeys (numbered z (keys_by macro_key ds)) (ms ++ (unless_named k seen (x ∷ []) ++ macros_after d v (seen ++ k ∷ []) ds))) (numbered_append [] seen (k ∷ []))
        (elim (cases_Bool (is_named k (numbered [] seen))) [
          | inl t ↦ rw (was_met seen k t) (inner ms (subst (λ z. HaveKeys z ms) (sym (add_met seen k t)) h))
          | inr f ↦ rw (was_not_met seen k f)
              (subst (HaveKeys (numbered (numbered [] (seen ++ k ∷ [])) (keys_by macro_key ds))) (push_append ms x (macros_after d v (seen ++ k ∷ []) ds))
              (inner (ms ++ x ∷ []) (subst (λ z. HaveKeys z (ms ++ x ∷ [])) (sym (add_new seen k f)) (keys_push (numbered [] seen) ms k x h has))))
        ])
have_keys d v seen ms (signature s ∷ ds) h = have_keys d v seen ms ds h
have_keys d v seen ms (constraint n t g ∷ ds) h = have_keys d v seen ms ds h
have_keys d v seen ms (clause p ts g ∷ ds) h = have_keys d v seen ms ds h
have_keys d v seen ms (word w t ∷ ds) h = have_keys d v seen ms ds h
have_keys d v seen ms (empty t ∷ ds) h = have_keys d v seen ms ds h
have_keys d v seen ms (lex_rule n t u g ls ∷ ds) h = have_keys d v seen ms ds h
have_keys d v seen ms (rule n t es ∷ ds) h = have_keys d v seen ms ds h
have_keys d v seen ms (semantics p ∷ ds) h = have_keys d v seen ms ds h
have_keys d v seen ms (lex_depth n ∷ ds) h = have_keys d v seen ms ds h
have_keys d v seen ms (chain_length n ∷ ds) h = have_keys d v seen ms ds h
have_keys d v seen ms (passed_over n ∷ ds) h = have_keys d v seen ms ds h

pub all_have_keys : (d : Declared) (v : VocabularyData) (ds : List DeclarationData) → HaveKeys (vocabulary_of ds).macros (macros_after d v [] ds)
all_have_keys d v ds = have_keys d v [] [] ds tt
