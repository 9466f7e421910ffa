-- The second round finds the first declaration that does not go with those before it, or leads back to itself.
use Rattle.std.proofs.Common.{◌≡◌, ◌↔◌, ℕ, suc, ◌+◌, ◌<◌, ◌≤◌, ◌⊎◌, Bool, true, false, ◌||◌, Option, Some, None, List, [], ◌∷◌, ◌++◌, length, refl, sym, ap, ◌∙◌, subst, inl, inr, arith}
use Rattle.std.specs.Prelude.{nat_le, nat_lt, not, ◌==◌, codes, unwrap_or}
use Rattle.std.proofs.lemmas.Bool.{cases_Bool, both_ways, or_cases, or_left, or_right, eqb-true, eq-eqb, le-leb, leb-true, ltb-true, lt-ltb}
use Rattle.std.proofs.lemmas.List.{length-append}
use Rattle.ale_relation.specs.Has.{Has}
use Rattle.ale_declared.specs.Names.{same_name, is_named, number, named, numbered}
use Rattle.ale_declared.proofs.ListLemmas.{Has-append_left, Has-append_right, Has-append_cases}
use Rattle.ale_declared.proofs.NumberLemmas.{same_name_to, same_name_from, is_named_has, is_named_from, number_below, Has-numbered, numbered_has}
use Rattle.ale_declared.proofs.NameLemmas.{named_none, number_from_named, numbered_append}
use Rattle.ale_term.specs.Terms.{TermData}
use Rattle.ale_declaration.specs.Declarations.{DeclarationData, signature, constraint, macro, clause, word, empty, lex_rule, rule, semantics, lex_depth, chain_length, passed_over, Element, daughter, daughters, condition, head}
use Rattle.ale_order.specs.Orders.{IsCyclic}
use Rattle.ale_vocabulary.specs.First.{or_else}
use Rattle.ale_vocabulary.specs.Keys.{key}
use Rattle.ale_vocabulary.specs.Vocabularies.{VocabularyData, macro_key, keys_by, vocabulary_of}
use Rattle.ale_vocabulary.specs.declared.error.NameError.{NameError}
use Rattle.ale_vocabulary.specs.declared.error.NameError.TheVariants.{MacroTwice, MacroCycle, TwoHeads, NoDaughter, BadDirective}
use Rattle.ale_naming.specs.declared.earlier.Earlier.{Earlier}
use Rattle.ale_naming.specs.Places.{places_from}
use Rattle.ale_naming.specs.Faults.{heads, has_daughter, greatest_depth, greatest_chain, IsMisplaced, twice, cycle, two_heads, no_daughter, deep, long, again, HasMisplaced}
use Rattle.ale_naming.specs.Rounds.{fault_at, nothing_earlier, came_before, with_macro, after, is_same, fault_if, macro_fault, misplaced, round_two}
use Rattle.ale_naming.proofs.Firsts.{some_none, same_error, Tells, Finds, finds_none, finds_more, tells_at, at_none, both_none}
use Rattle.ale_naming.proofs.Cycles.{IsTheFirst}

-- ---- numbers of keys

number_left : (names more : List (List ℕ)) (x : List ℕ) → Has names x → number (names ++ more) x ≡ number names x
number_left [] more x h = absurd h
number_left (y ∷ ys) more x h = elim (cases_Bool (same_name x y)) [
  | inl t ↦ rw t refl
  | inr f ↦ rw f (elim h [ inl e ↦ absurd (both_ways (same_name x y) f (same_name_from x y e)) | inr there ↦ ap suc (number_left ys more x there) ])
]

number_last : (names : List (List ℕ)) (x : List ℕ) → (Has names x → ⊥) → number (names ++ x ∷ []) x ≡ length names
number_last [] x free = rw (same_name_from x x refl) refl
number_last (y ∷ ys) x free = elim (cases_Bool (same_name x y)) [
  | inl t ↦ absurd (free (inl (same_name_to x y t)))
  | inr f ↦ rw f (ap suc (number_last ys x (λ h. free (inr h))))
]

number_stays : (names xs : List (List ℕ)) (x : List ℕ) → Has names x → number (numbered names xs) x ≡ number names x
number_stays names [] x h = refl
number_stays names (y ∷ ys) x h = elim (cases_Bool (is_named y names)) [
  | inl t ↦ rw t (number_stays names ys x h)
  | inr f ↦ rw f (number_stays (names ++ y ∷ []) ys x (Has-append_left names (y ∷ []) x h) ∙ number_left names (y ∷ []) x h)
]

number_new : (names xs : List (List ℕ)) (x : List ℕ) → (Has names x → ⊥) → number (numbered names (x ∷ xs)) x ≡ length names
number_new names xs x free = elim (cases_Bool (is_named x names)) [
  | inl t ↦ absurd (free (is_named_has x names t))
  | inr f ↦ rw f (number_stays (names ++ x ∷ []) xs x (Has-append_right names (x ∷ []) x (inl refl)) ∙ number_last names x free)
]

named_is : (names : List (List ℕ)) (x : List ℕ) → Has names x → named names x ≡ Some (number names x)
named_is names x h = go (named names x) refl
  where
    go : (o : Option ℕ) → named names x ≡ o → o ≡ Some (number names x)
    go None e = absurd (named_none names x e h)
    go (Some k) e = ap Some (ap (λ (o : Option ℕ). unwrap_or o (length names)) (sym e) ∙ number_from_named names x)

-- ---- what came before

abbrev pub next : Option ℕ → ℕ
next None = 0
next (Some l) = suc l

came_to : (last : Option ℕ) (k : ℕ) → came_before last (Some k) ≡ true → k < next last
came_to None k e = absurd cc
came_to (Some l) k e = let low : k ≤ l = leb-true k l e in omega arith

came_from : (last : Option ℕ) (k : ℕ) → k < next last → came_before last (Some k) ≡ true
came_from None k low = absurd (omega arith)
came_from (Some l) k low = le-leb k l (omega arith)

-- some declaration of this kind is among them
abbrev Given : {A : Type 0} → (A → DeclarationData) → List DeclarationData → Type 0
Given {A} c before = (q : A) × Has before (c q)

stays : {A : Type 0} (c : A → DeclarationData) (before : List DeclarationData) (x : DeclarationData) (b : Bool) → ((q : A) → c q ≡ x → ⊥) → (b ≡ true) ↔ Given c before → (b ≡ true) ↔ Given c (before ++ x ∷ [])
stays c before x b free i = (
  λ t. ((i.0 t).0, Has-append_left before (x ∷ []) (c (i.0 t).0) (i.0 t).1),
  λ g. i.1 (g.0, elim (Has-append_cases before (x ∷ []) (c g.0) g.1) [ inl h ↦ h | inr r ↦ elim r [ inl e ↦ absurd (free g.0 e) | inr z ↦ absurd z ] ]),
)

is_set : {A : Type 0} (c : A → DeclarationData) (before : List DeclarationData) (q : A) → (true ≡ true) ↔ Given c (before ++ c q ∷ [])
is_set c before q = (λ t. (q, Has-append_right before (c q ∷ []) (c q) (inl refl)), λ g. refl)

pub record IsEarlier (v : VocabularyData) (before rest : List DeclarationData) (e : Earlier) : Type 0 where
  pub names : List (List ℕ)
  pub is : names ≡ numbered [] (keys_by macro_key before)
  pub whole : v.macros ≡ numbered names (keys_by macro_key rest)
  pub count : next e.last_macro ≡ length names
  pub given : (e.semantics ≡ true) ↔ Given semantics before
  pub depth : (e.lex_depth ≡ true) ↔ Given lex_depth before
  pub length_given : (e.chain_length ≡ true) ↔ Given chain_length before

keys_append : (f : DeclarationData → List (List ℕ)) (xs ys : List DeclarationData) → keys_by f (xs ++ ys) ≡ keys_by f xs ++ keys_by f ys
keys_append f [] ys = refl
keys_append f (x ∷ xs) ys = ap (λ z. f x ++ z) (keys_append f xs ys) ∙ assoc (f x) (keys_by f xs) (keys_by f ys)
  where
    assoc : (xs ys zs : List (List ℕ)) → xs ++ (ys ++ zs) ≡ (xs ++ ys) ++ zs
    assoc [] ys zs = refl
    assoc (x ∷ xs) ys zs = ap (λ z. x ∷ z) (assoc xs ys zs)

with_one : (before : List DeclarationData) (x : DeclarationData) → numbered [] (keys_by macro_key (before ++ x ∷ [])) ≡ numbered (numbered [] (keys_by macro_key before)) (macro_key x)
with_one before x =
    ap (numbered []) (keys_append macro_key before (x ∷ []) ∙ ap (λ z. keys_by macro_key before ++ z) (nil (macro_key x)))
    ∙ numbered_append [] (keys_by macro_key before) (macro_key x)
  where
    nil : (xs : List (List ℕ)) → xs ++ [] ≡ xs
    nil [] = refl
    nil (x ∷ xs) = ap (λ z. x ∷ z) (nil xs)

moved : (v : VocabularyData) (before rest : List DeclarationData) (x : DeclarationData) (e : Earlier) (i : IsEarlier v before (x ∷ rest) e) (last : Option ℕ) (s l c : Bool) →
    next last ≡ length (numbered i.names (macro_key x)) →
    (s ≡ true) ↔ Given semantics (before ++ x ∷ []) → (l ≡ true) ↔ Given lex_depth (before ++ x ∷ []) → (c ≡ true) ↔ Given chain_length (before ++ x ∷ []) →
    IsEarlier v (before ++ x ∷ []) rest (record { last_macro = last; semantics = s; lex_depth = l; chain_length = c })
moved v before rest x e i last s l c count f g h = record {
  names = numbered i.names (macro_key x);
  is = ap (λ z. numbered z (macro_key x)) i.is ∙ sym (with_one before x);
  whole = i.whole ∙ numbered_append i.names (macro_key x) (keys_by macro_key rest);
  count = count;
  given = f;
  depth = g;
  length_given = h;
}

-- the number of a macro that is declared now
record IsNumber (names all : List (List ℕ)) (k : List ℕ) : Type 0 where
  place : named all k ≡ Some (number all k)
  old : Has names k → number all k < length names
  new : (Has names k → ⊥) → number all k ≡ length names

number_of : (names more all : List (List ℕ)) (k : List ℕ) → all ≡ numbered names (k ∷ more) → IsNumber names all k
number_of names more all k e = record {
  place = named_is all k (subst (λ z. Has z k) (sym e) (Has-numbered names (k ∷ more) k (inl refl)));
  old = λ h. let low : number names k < length names = number_below names k h in
      let same : number all k ≡ number names k = ap (λ z. number z k) e ∙ number_stays names (k ∷ more) k h in omega arith;
  new = λ free. ap (λ z. number z k) e ∙ number_new names more k free;
}

has_or_not : (names : List (List ℕ)) (x : List ℕ) → Has names x ⊎ (Has names x → ⊥)
has_or_not names x = elim (cases_Bool (is_named x names)) [ inl t ↦ inl (is_named_has x names t) | inr f ↦ inr (λ h. both_ways (is_named x names) f (is_named_from x names h)) ]

count_macro : (names more all : List (List ℕ)) (k : List ℕ) (last : Option ℕ) → all ≡ numbered names (k ∷ more) → next last ≡ length names → next (with_macro last (named all k)) ≡ length (numbered names (k ∷ []))
count_macro names more all k last e count = ap (λ o. next (with_macro last o)) n.place ∙ elim (has_or_not names k) [
  | inl h ↦
      let low : number all k < length names = n.old h in
      let came : came_before last (Some (number all k)) ≡ true = came_from last (number all k) (omega arith) in
      rw (came, is_named_from k names h) count
  | inr free ↦
      let here : number all k ≡ length names = n.new free in
      let not_named : is_named k names ≡ false = is_not k free in
      let came : came_before last (Some (number all k)) ≡ false = not_before here in
      rw (came, not_named) (let longer : length (names ++ k ∷ []) ≡ length names + 1 = length-append names (k ∷ []) in omega arith)
]
  where
    n : IsNumber names all k
    n = number_of names more all k e

    is_not : (k : List ℕ) → (Has names k → ⊥) → is_named k names ≡ false
    is_not k free = elim (cases_Bool (is_named k names)) [ inl t ↦ absurd (free (is_named_has k names t)) | inr f ↦ f ]

    not_before : number all k ≡ length names → came_before last (Some (number all k)) ≡ false
    not_before here = elim (cases_Bool (came_before last (Some (number all k)))) [
      | inl t ↦ let low : number all k < next last = came_to last (number all k) t in absurd (omega arith)
      | inr f ↦ f
    ]

pub goes_on : (v : VocabularyData) (before rest : List DeclarationData) (x : DeclarationData) (e : Earlier) → IsEarlier v before (x ∷ rest) e → IsEarlier v (before ++ x ∷ []) rest (after v x e)
goes_on v before rest (macro m ps t) e i =
    moved v before rest (macro m ps t) e i (with_macro e.last_macro (named v.macros (key m (length ps)))) e.semantics e.lex_depth e.chain_length
    (count_macro i.names (keys_by macro_key rest) v.macros (key m (length ps)) e.last_macro i.whole i.count)
    (stays semantics before (macro m ps t) e.semantics (λ q z. absurd cc) i.given) (stays lex_depth before (macro m ps t) e.lex_depth (λ q z. absurd cc) i.depth) (stays chain_length before (macro m ps t) e.chain_length (λ q z. absurd cc) i.length_given)
goes_on v before rest (signature s) e i = moved v before rest (signature s) e i e.last_macro e.semantics e.lex_depth e.chain_length i.count (stays semantics before (signature s) e.semantics (λ q z. absurd cc) i.given) (stays lex_depth before (signature s) e.lex_depth (λ q z. absurd cc) i.depth) (stays chain_length before (signature s) e.chain_length (λ q z. absurd cc) i.length_given)
goes_on v before rest (constraint n t g) e i = moved v before rest (constraint n t g) e i e.last_macro e.semantics e.lex_depth e.chain_length i.count (stays semantics before (constraint n t g) e.semantics (λ q z. absurd cc) i.given) (stays lex_depth before (constraint n t g) e.lex_depth (λ q z. absurd cc) i.depth) (stays chain_length before (constraint n t g) e.chain_length (λ q z. absurd cc) i.length_given)
goes_on v before rest (clause p ts g) e i = moved v before rest (clause p ts g) e i e.last_macro e.semantics e.lex_depth e.chain_length i.count (stays semantics before (clause p ts g) e.semantics (λ q z. absurd cc) i.given) (stays lex_depth before (clause p ts g) e.lex_depth (λ q z. absurd cc) i.depth) (stays chain_length before (clause p ts g) e.chain_length (λ q z. absurd cc) i.length_given)
goes_on v before rest (word w t) e i = moved v before rest (word w t) e i e.last_macro e.semantics e.lex_depth e.chain_length i.count (stays semantics before (word w t) e.semantics (λ q z. absurd cc) i.given) (stays lex_depth before (word w t) e.lex_depth (λ q z. absurd cc) i.depth) (stays chain_length before (word w t) e.chain_length (λ q z. absurd cc) i.length_given)
goes_on v before rest (empty t) e i = moved v before rest (empty t) e i e.last_macro e.semantics e.lex_depth e.chain_length i.count (stays semantics before (empty t) e.semantics (λ q z. absurd cc) i.given) (stays lex_depth before (empty t) e.lex_depth (λ q z. absurd cc) i.depth) (stays chain_length before (empty t) e.chain_length (λ q z. absurd cc) i.length_given)
goes_on v before rest (lex_rule n t u g ls) e i = moved v before rest (lex_rule n t u g ls) e i e.last_macro e.semantics e.lex_depth e.chain_length i.count (stays semantics before (lex_rule n t u g ls) e.semantics (λ q z. absurd cc) i.given) (stays lex_depth before (lex_rule n t u g ls) e.lex_depth (λ q z. absurd cc) i.depth) (stays chain_length before (lex_rule n t u g ls) e.chain_length (λ q z. absurd cc) i.length_given)
goes_on v before rest (rule n t es) e i = moved v before rest (rule n t es) e i e.last_macro e.semantics e.lex_depth e.chain_length i.count (stays semantics before (rule n t es) e.semantics (λ q z. absurd cc) i.given) (stays lex_depth before (rule n t es) e.lex_depth (λ q z. absurd cc) i.depth) (stays chain_length before (rule n t es) e.chain_length (λ q z. absurd cc) i.length_given)
goes_on v before rest (passed_over n) e i = moved v before rest (passed_over n) e i e.last_macro e.semantics e.lex_depth e.chain_length i.count (stays semantics before (passed_over n) e.semantics (λ q z. absurd cc) i.given) (stays lex_depth before (passed_over n) e.lex_depth (λ q z. absurd cc) i.depth) (stays chain_length before (passed_over n) e.chain_length (λ q z. absurd cc) i.length_given)
goes_on v before rest (semantics p) e i = moved v before rest (semantics p) e i e.last_macro true e.lex_depth e.chain_length i.count (is_set semantics before p) (stays lex_depth before (semantics p) e.lex_depth (λ q z. absurd cc) i.depth) (stays chain_length before (semantics p) e.chain_length (λ q z. absurd cc) i.length_given)
goes_on v before rest (lex_depth n) e i = moved v before rest (lex_depth n) e i e.last_macro e.semantics true e.chain_length i.count (stays semantics before (lex_depth n) e.semantics (λ q z. absurd cc) i.given) (is_set lex_depth before n) (stays chain_length before (lex_depth n) e.chain_length (λ q z. absurd cc) i.length_given)
goes_on v before rest (chain_length n) e i = moved v before rest (chain_length n) e i e.last_macro e.semantics e.lex_depth true i.count (stays semantics before (chain_length n) e.semantics (λ q z. absurd cc) i.given) (stays lex_depth before (chain_length n) e.lex_depth (λ q z. absurd cc) i.depth) (is_set chain_length before n)

-- ---- the fault of one declaration

one : (b : Bool) (x : NameError) (P : NameError → Type 0) → (b ≡ true → P x) → ((g : NameError) → P g → (b ≡ true) × (g ≡ x)) → Tells (fault_if b x) P
one true x P is only g = (λ e. subst P (same_error x g e) (is refl), λ p. ap Some (sym (only g p).1))
one false x P is only g = (λ e. absurd cc, λ p. let free : false ≡ true = (only g p).0 in absurd cc)

two : (b c : Bool) (x y : NameError) (P : NameError → Type 0) → (b ≡ true → P x) → (b ≡ false → c ≡ true → P y) →
    ((g : NameError) → P g → ((b ≡ true) × (g ≡ x)) ⊎ ((b ≡ false) × (c ≡ true) × (g ≡ y))) → Tells (or_else (fault_if b x) (fault_if c y)) P
two true c x y P is other only g = (λ e. subst P (same_error x g e) (is refl), λ p. elim (only g p) [ inl q ↦ ap Some (sym q.1) | inr q ↦ let free : true ≡ false = q.0 in absurd cc ])
two false c x y P is other only g = one c y P (other refl) (λ z p. elim (only z p) [ inl q ↦ let free : false ≡ true = q.0 in absurd cc | inr q ↦ (q.1, q.2) ]) g

none_at_all : (P : NameError → Type 0) → ((g : NameError) → P g → ⊥) → Tells None P
none_at_all P free g = (λ e. absurd (some_none g (sym e)), λ p. absurd (free g p))

module _ (calls : List (ℕ × ℕ)) (v : VocabularyData) (before : List DeclarationData) where
  -- what can be wrong with each form
  abbrev Wrong : DeclarationData → NameError → Type 0
  Wrong (macro m ps t) z =
      (Has (keys_by macro_key before) (key m (length ps)) × (z ≡ MacroTwice m (length ps)))
      ⊎ ((Has (keys_by macro_key before) (key m (length ps)) → ⊥) × IsCyclic calls (number v.macros (key m (length ps))) × (z ≡ MacroCycle m (length ps)))
  Wrong (rule n t es) z = ((2 ≤ heads es) × (z ≡ TwoHeads n)) ⊎ ((has_daughter es ≡ false) × (z ≡ NoDaughter n))
  Wrong (semantics p) z = Given semantics before × (z ≡ BadDirective (codes "semantics"))
  Wrong (lex_depth n) z = ((greatest_depth < n) ⊎ Given lex_depth before) × (z ≡ BadDirective (codes "lex_rule_depth"))
  Wrong (chain_length n) z = ((greatest_chain < n) ⊎ Given chain_length before) × (z ≡ BadDirective (codes "chain_length"))
  Wrong (signature s) z = ⊥
  Wrong (constraint n t g) z = ⊥
  Wrong (clause p ts g) z = ⊥
  Wrong (word w t) z = ⊥
  Wrong (empty t) z = ⊥
  Wrong (lex_rule n t u g ls) z = ⊥
  Wrong (passed_over n) z = ⊥

  wrong : (x : DeclarationData) (g : NameError) → IsMisplaced calls v before x g → Wrong x g
  wrong _ _ (twice m ps t h) = inl (h, refl)
  wrong _ _ (cycle m ps t free c) = inr (free, c, refl)
  wrong _ _ (two_heads n t es h) = inl (h, refl)
  wrong _ _ (no_daughter n t es h) = inr (h, refl)
  wrong _ _ (deep n h) = (h, refl)
  wrong _ _ (long n h) = (h, refl)
  wrong _ _ (again p q h) = ((q, h), refl)

no_heads : (es : List Element) → has_daughter es ≡ false → heads es ≡ 0
no_heads [] e = refl
no_heads (head t ∷ es) e = absurd cc
no_heads (daughter t ∷ es) e = absurd cc
no_heads (daughters t ∷ es) e = absurd cc
no_heads (condition g ∷ es) e = no_heads es e

not_true : (b : Bool) → not b ≡ true → b ≡ false
not_true true e = absurd cc
not_true false e = refl

rule_tells : (calls : List (ℕ × ℕ)) (v : VocabularyData) (before : List DeclarationData) (n : List ℕ) (t : TermData) (es : List Element) →
    Tells (or_else (fault_if (nat_le 2 (heads es)) (TwoHeads n)) (fault_if (not (has_daughter es)) (NoDaughter n))) (IsMisplaced calls v before (rule n t es))
rule_tells calls v before n t es =
    two (nat_le 2 (heads es)) (not (has_daughter es)) (TwoHeads n) (NoDaughter n) (IsMisplaced calls v before (rule n t es))
    (λ e. two_heads n t es (leb-true 2 (heads es) e)) (λ f e. no_daughter n t es (not_true (has_daughter es) e))
    (λ g p. elim (wrong calls v before (rule n t es) g p) [
      | inl q ↦ inl (le-leb 2 (heads es) q.0, q.1)
      | inr q ↦ inr (few q.0, ap not q.0, q.1)
    ])
  where
    few : has_daughter es ≡ false → nat_le 2 (heads es) ≡ false
    few e = ap (nat_le 2) (no_heads es e)

-- where no macro before leads back to itself
abbrev pub NotYet : Option ℕ → Option ℕ → Type 0
NotYet None last = Unit {0}
NotYet (Some c) last = next last ≤ c

same_to : (cyclic : Option ℕ) (calls : List (ℕ × ℕ)) (k : ℕ) → IsTheFirst calls cyclic → is_same cyclic (Some k) ≡ true → IsCyclic calls k
same_to None calls k f e = absurd cc
same_to (Some c) calls k f e = subst (IsCyclic calls) (eqb-true c k e) f.cyclic

same_from : (cyclic last : Option ℕ) (calls : List (ℕ × ℕ)) (k : ℕ) → IsTheFirst calls cyclic → NotYet cyclic last → k ≡ next last → IsCyclic calls k → is_same cyclic (Some k) ≡ true
same_from None last calls k f n e c = absurd (f k c)
same_from (Some c) last calls k f n e cyclic = elim (cases k c) [
  | inl low ↦ absurd (f.before k low cyclic)
  | inr high ↦ eq-eqb c k (omega arith)
]
  where
    cases : (a b : ℕ) → (a < b) ⊎ (b ≤ a)
    cases a b = grind arith

module _ (calls : List (ℕ × ℕ)) (v : VocabularyData) (cyclic : Option ℕ) (before rest : List DeclarationData) (e : Earlier) where
  macro_tells : (m : List ℕ) (ps : List (List ℕ)) (t : TermData) → IsEarlier v before (macro m ps t ∷ rest) e → IsTheFirst calls cyclic → NotYet cyclic e.last_macro →
      Tells (macro_fault cyclic e.last_macro m (length ps) (Some (number v.macros (key m (length ps))))) (IsMisplaced calls v before (macro m ps t))
  macro_tells m ps t i f y =
      two (came_before e.last_macro (Some k)) (is_same cyclic (Some k)) (MacroTwice m (length ps)) (MacroCycle m (length ps)) (IsMisplaced calls v before (macro m ps t))
      (λ b. twice m ps t (came b)) (λ b c. cycle m ps t (λ h. both_ways (came_before e.last_macro (Some k)) b (was h)) (same_to cyclic calls k f c))
      (λ g p. elim (wrong calls v before (macro m ps t) g p) [
        | inl q ↦ inl (was q.0, q.1)
        | inr q ↦ inr (was_not q.0, same_from cyclic e.last_macro calls k f y (number_is.new (λ h. q.0 (known h)) ∙ sym i.count) q.1, q.2)
      ])
    where
      k : ℕ
      k = number v.macros (key m (length ps))

      number_is : IsNumber i.names v.macros (key m (length ps))
      number_is = number_of i.names (keys_by macro_key rest) v.macros (key m (length ps)) i.whole

      known : Has i.names (key m (length ps)) → Has (keys_by macro_key before) (key m (length ps))
      known h = elim (numbered_has [] (keys_by macro_key before) (key m (length ps)) (subst (λ z. Has z (key m (length ps))) i.is h)) [ inl z ↦ absurd z | inr z ↦ z ]

      was : Has (keys_by macro_key before) (key m (length ps)) → came_before e.last_macro (Some k) ≡ true
      was h =
          let low : k < length i.names = number_is.old (subst (λ z. Has z (key m (length ps))) (sym i.is) (Has-numbered [] (keys_by macro_key before) (key m (length ps)) h)) in
          let count : next e.last_macro ≡ length i.names = i.count in
          came_from e.last_macro k (omega arith)

      came : came_before e.last_macro (Some k) ≡ true → Has (keys_by macro_key before) (key m (length ps))
      came b = elim (has_or_not i.names (key m (length ps))) [
        | inl h ↦ known h
        | inr free ↦
            let low : k < next e.last_macro = came_to e.last_macro k b in
            let here : k ≡ length i.names = number_is.new free in
            let count : next e.last_macro ≡ length i.names = i.count in
            absurd (omega arith)
      ]

      was_not : (Has (keys_by macro_key before) (key m (length ps)) → ⊥) → came_before e.last_macro (Some k) ≡ false
      was_not free = elim (cases_Bool (came_before e.last_macro (Some k))) [ inl b ↦ absurd (free (came b)) | inr b ↦ b ]

  either : (most n : ℕ) (b : Bool) (A : Type 0) → (b ≡ true) ↔ A → (nat_lt most n || b ≡ true) ↔ ((most < n) ⊎ A)
  either most n b A i = (
    λ h. elim (or_cases (nat_lt most n) b h) [ inl low ↦ inl (ltb-true most n low) | inr z ↦ inr (i.0 z) ],
    λ h. elim h [ inl low ↦ or_left (nat_lt most n) b (lt-ltb most n low) | inr z ↦ or_right (nat_lt most n) b (i.1 z) ],
  )

  pub misplaced_tells : (x : DeclarationData) → IsEarlier v before (x ∷ rest) e → IsTheFirst calls cyclic → NotYet cyclic e.last_macro → Tells (misplaced v cyclic e x) (IsMisplaced calls v before x)
  misplaced_tells (macro m ps t) i f y =
      rw ((number_of i.names (keys_by macro_key rest) v.macros (key m (length ps)) i.whole).place) (macro_tells m ps t i f y)
  misplaced_tells (rule n t es) i f y = rule_tells calls v before n t es
  misplaced_tells (semantics p) i f y =
      one e.semantics (BadDirective (codes "semantics")) (IsMisplaced calls v before (semantics p)) (λ b. again p (i.given.0 b).0 (i.given.0 b).1)
      (λ g p'. let w = wrong calls v before (semantics p) g p' in (i.given.1 w.0, w.1))
  misplaced_tells (lex_depth n) i f y =
      let b = either greatest_depth n e.lex_depth (Given lex_depth before) i.depth in
      one (nat_lt greatest_depth n || e.lex_depth) (BadDirective (codes "lex_rule_depth")) (IsMisplaced calls v before (lex_depth n)) (λ t. deep n (b.0 t))
      (λ g p. let w = wrong calls v before (lex_depth n) g p in (b.1 w.0, w.1))
  misplaced_tells (chain_length n) i f y =
      let b = either greatest_chain n e.chain_length (Given chain_length before) i.length_given in
      one (nat_lt greatest_chain n || e.chain_length) (BadDirective (codes "chain_length")) (IsMisplaced calls v before (chain_length n)) (λ t. long n (b.0 t))
      (λ g p. let w = wrong calls v before (chain_length n) g p in (b.1 w.0, w.1))
  misplaced_tells (signature s) i f y = none_at_all (IsMisplaced calls v before (signature s)) (λ z q. wrong calls v before (signature s) z q)
  misplaced_tells (constraint n t g) i f y = none_at_all (IsMisplaced calls v before (constraint n t g)) (λ z q. wrong calls v before (constraint n t g) z q)
  misplaced_tells (clause p ts g) i f y = none_at_all (IsMisplaced calls v before (clause p ts g)) (λ z q. wrong calls v before (clause p ts g) z q)
  misplaced_tells (word w t) i f y = none_at_all (IsMisplaced calls v before (word w t)) (λ z q. wrong calls v before (word w t) z q)
  misplaced_tells (empty t) i f y = none_at_all (IsMisplaced calls v before (empty t)) (λ z q. wrong calls v before (empty t) z q)
  misplaced_tells (lex_rule n t u g ls) i f y = none_at_all (IsMisplaced calls v before (lex_rule n t u g ls)) (λ z q. wrong calls v before (lex_rule n t u g ls) z q)
  misplaced_tells (passed_over n) i f y = none_at_all (IsMisplaced calls v before (passed_over n)) (λ z q. wrong calls v before (passed_over n) z q)

-- a macro that is right does not lead back to itself
new_right : (cyclic last : Option ℕ) (m : List ℕ) (n k : ℕ) → macro_fault cyclic last m n (Some k) ≡ None → (came_before last (Some k) ≡ false) × (is_same cyclic (Some k) ≡ false)
new_right cyclic last m n k e = go (came_before last (Some k)) (is_same cyclic (Some k)) refl refl e
  where
    go : (b c : Bool) → came_before last (Some k) ≡ b → is_same cyclic (Some k) ≡ c → or_else (fault_if b (MacroTwice m n)) (fault_if c (MacroCycle m n)) ≡ None → (b ≡ false) × (c ≡ false)
    go true c p q h = absurd (some_none (MacroTwice m n) h)
    go false true p q h = absurd (some_none (MacroCycle m n) h)
    go false false p q h = (refl, refl)

not_same : (cyclic : Option ℕ) (last : Option ℕ) (k : ℕ) → is_same cyclic (Some k) ≡ false → k ≡ next last → NotYet cyclic last → NotYet cyclic (Some k)
not_same None last k e at y = tt
not_same (Some c) last k e at y = apart
  where
    differs : (a b : ℕ) → a ≤ b → (a ≡ b → ⊥) → suc a ≤ b
    differs a b low free = elim (cases a b) [ inl h ↦ h | inr h ↦ absurd (free (omega arith)) ]
      where
        cases : (x y : ℕ) → (suc x ≤ y) ⊎ (y ≤ x)
        cases x y = grind arith

    apart : suc k ≤ c
    apart = differs k c (omega arith) (λ same. both_ways (c == k) e (eq-eqb c k (sym same)))

not_yet : (v : VocabularyData) (cyclic : Option ℕ) (before rest : List DeclarationData) (x : DeclarationData) (e : Earlier) → IsEarlier v before (x ∷ rest) e → misplaced v cyclic e x ≡ None →
    NotYet cyclic e.last_macro → NotYet cyclic (after v x e).last_macro
not_yet v cyclic before rest (macro m ps t) e i none y =
    rw place (rw b.0 (not_same cyclic e.last_macro k b.1 (number_is.new (λ h. both_ways (came_before e.last_macro (Some k)) b.0 (was h)) ∙ sym i.count) y))
  where
    k : ℕ
    k = number v.macros (key m (length ps))

    number_is : IsNumber i.names v.macros (key m (length ps))
    number_is = number_of i.names (keys_by macro_key rest) v.macros (key m (length ps)) i.whole

    place : named v.macros (key m (length ps)) ≡ Some k
    place = number_is.place

    b : (came_before e.last_macro (Some k) ≡ false) × (is_same cyclic (Some k) ≡ false)
    b = new_right cyclic e.last_macro m (length ps) k (ap (macro_fault cyclic e.last_macro m (length ps)) (sym place) ∙ none)

    was : Has i.names (key m (length ps)) → came_before e.last_macro (Some k) ≡ true
    was h = let low : k < length i.names = number_is.old h in let count : next e.last_macro ≡ length i.names = i.count in came_from e.last_macro k (omega arith)
not_yet v cyclic before rest (signature s) e i none y = y
not_yet v cyclic before rest (constraint n t g) e i none y = y
not_yet v cyclic before rest (clause p ts g) e i none y = y
not_yet v cyclic before rest (word w t) e i none y = y
not_yet v cyclic before rest (empty t) e i none y = y
not_yet v cyclic before rest (lex_rule n t u g ls) e i none y = y
not_yet v cyclic before rest (rule n t es) e i none y = y
not_yet v cyclic before rest (passed_over n) e i none y = y
not_yet v cyclic before rest (semantics p) e i none y = y
not_yet v cyclic before rest (lex_depth n) e i none y = y
not_yet v cyclic before rest (chain_length n) e i none y = y

-- ---- the round

pub two_finds : (calls : List (ℕ × ℕ)) (v : VocabularyData) (cyclic : Option ℕ) (k : ℕ) (before xs : List DeclarationData) (e : Earlier) → IsEarlier v before xs e → IsTheFirst calls cyclic → NotYet cyclic e.last_macro →
    Finds (HasMisplaced calls v) (round_two v cyclic k e xs) (places_from k before xs)
two_finds calls v cyclic k before [] e i f y = finds_none (HasMisplaced calls v)
two_finds calls v cyclic k before (x ∷ xs) e i f y =
    finds_more (HasMisplaced calls v) (fault_at k (misplaced v cyclic e x)) (round_two v cyclic (suc k) (after v x e) xs)
    (record { number = k; before = before; declaration = x }) (places_from (suc k) (before ++ x ∷ []) xs)
    (tells_at k (misplaced v cyclic e x) (IsMisplaced calls v before x) (misplaced_tells calls v cyclic before xs e x i f y))
    (λ none. two_finds calls v cyclic (suc k) (before ++ x ∷ []) xs (after v x e) (goes_on v before xs x e i) f (not_yet v cyclic before xs x e i (at_none k (misplaced v cyclic e x) none) y))

-- where it finds nothing no macro that is declared leads back to itself
pub two_over : (v : VocabularyData) (c k : ℕ) (before xs : List DeclarationData) (e : Earlier) → IsEarlier v before xs e → NotYet (Some c) e.last_macro → round_two v (Some c) k e xs ≡ None → length v.macros ≤ c
two_over v c k before [] e i y none =
    let count : next e.last_macro ≡ length i.names = i.count in
    let all : length v.macros ≡ length i.names = ap length i.whole in
    omega arith
two_over v c k before (x ∷ xs) e i y none =
    let parts = both_none (fault_at k (misplaced v (Some c) e x)) (round_two v (Some c) (suc k) (after v x e) xs) none in
    two_over v c (suc k) (before ++ x ∷ []) xs (after v x e) (goes_on v before xs x e i)
    (not_yet v (Some c) before xs x e i (at_none k (misplaced v (Some c) e x) parts.0) y) parts.1

-- before all declarations
pub at_first : (ds : List DeclarationData) → IsEarlier (vocabulary_of ds) [] ds nothing_earlier
at_first ds = record {
  names = [];
  is = refl;
  whole = refl;
  count = refl;
  given = (λ e. absurd cc, λ g. absurd g.1);
  depth = (λ e. absurd cc, λ g. absurd g.1);
  length_given = (λ e. absurd cc, λ g. absurd g.1);
}

pub first_not_yet : (cyclic : Option ℕ) → NotYet cyclic None
first_not_yet None = tt
first_not_yet (Some c) = omega arith
