-- A table of slots that follows the variables.
use Rattle.std.proofs.Common.{◌≡◌, sym, ap, ◌∙◌, subst, refl, ℕ, zero, suc, ◌<◌, ◌≤◌, true, false, Bool, cond, Option, Some, None, List, [], ◌∷◌, ◌++◌, length, inl, inr, arith}
use Rattle.std.specs.Prelude.{slice_index, String, string_bytes, codes, if◌then◌else◌}
use Rattle.std.specs.Option.{option_map}
use Rattle.std.specs.Str.{chars, bytes_eq, IsUtf8}
use Rattle.std.specs.Map.{lookup}
use Rattle.std.specs.String.{string_eq}
use Rattle.indexmap.specs.IndexMap.{insert_entry}
use Rattle.std.proofs.lemmas.Bool.{cases_Bool, both_ways}
use Rattle.std.proofs.lemmas.Str.{IsUtf8-string_bytes, IsUtf8-from_ascii}
use Rattle.std.proofs.lemmas.List.{length-append}
use Rattle.ale_declared.specs.Names.{same_name, is_named, number, named}
use Rattle.ale_declared.proofs.NumberLemmas.{same_name_to, same_name_from, is_named_has, is_named_from}
use Rattle.ale_declared.proofs.NameLemmas.{same_chars, same_shown, shown}
use Rattle.ale_describe.specs.Variables.{anonymous, is_anonymous, IsSlot, own, first, again, slot_of, with_variable}
use Rattle.ale_describe.specs.Numbers.{number_in, IsNumbered}

pub anonymous_chars : chars (codes "_") ≡ anonymous
unfolding chars
anonymous_chars = refl

anonymous_utf8 : IsUtf8 (codes "_")
anonymous_utf8 = IsUtf8-from_ascii (codes "_") low
  where
    low : (i : ℕ) → slice_index (codes "_") i < 128
    low zero = omega arith
    low (suc i) = omega arith

never : (k : ℕ) → Some k ≡ None → ⊥
never k e = absurd cc

-- a text that is `_` is the name `_`
pub is_anonymous_shown : (q : List ℕ) → IsUtf8 q → bytes_eq q (codes "_") ≡ is_anonymous (chars q)
is_anonymous_shown q u = same_chars q (codes "_") u anonymous_utf8 ∙ ap (same_name (chars q)) anonymous_chars

-- a look-up by bytes finds the number of the name
pub number_shown : {Z : Type 0} (q : List ℕ) (es : List (String Z × ℕ)) → IsUtf8 q → lookup (λ k. bytes_eq q (string_bytes k)) es ≡ number_in es (chars q)
number_shown q [] u = refl
number_shown q (e ∷ es) u =
    ap (λ b. cond b (Some e.1) (lookup (λ k. bytes_eq q (string_bytes k)) es)) (same_shown q e.0 u)
    ∙ ap (cond (same_name (chars q) (shown e.0)) (Some e.1)) (number_shown q es u)

-- a new name is put last
entry_last : {Z : Type 0} (es : List (String Z × ℕ)) (k : String Z) (n : ℕ) → number_in es (shown k) ≡ None → insert_entry string_eq es k n ≡ es ++ (k, n) ∷ []
entry_last [] k n h = refl
entry_last (e ∷ es) k n h = elim (cases_Bool (same_name (shown k) (shown e.0))) [
  | inl t ↦ absurd (never e.1 (rw t at h))
  | inr f ↦
      let rest : number_in es (shown k) ≡ None = rw f at h in
      rw (same_shown (string_bytes k) e.0 (IsUtf8-string_bytes k), f) (ap (λ z. e ∷ z) (entry_last es k n rest))
]

-- what is found, or otherwise this
abbrev otherwise : Option ℕ → Option ℕ → Option ℕ
otherwise None o = o
otherwise (Some k) o = Some k

-- one number more in the table
number_last : {Z : Type 0} (es : List (String Z × ℕ)) (k : String Z) (n : ℕ) (x : List ℕ) → number_in (es ++ (k, n) ∷ []) x ≡ otherwise (number_in es x) (if same_name x (shown k) then Some n else None)
number_last [] k n x = refl
number_last (e ∷ es) k n x = elim (cases_Bool (same_name x (shown e.0))) [
  | inl t ↦ rw t refl
  | inr f ↦ rw f (number_last es k n x)
]

-- one name more among the names
named_last : (vs : List (List ℕ)) (y x : List ℕ) → named (vs ++ y ∷ []) x ≡ otherwise (named vs x) (if same_name x y then Some (length vs) else None)
named_last [] y x = go (same_name x y)
  where
    go : (b : Bool) → cond b (Some 0) (option_map suc None) ≡ cond b (Some 0) None
    go true = refl
    go false = refl
named_last (v ∷ vs) y x = elim (cases_Bool (same_name x v)) [
  | inl t ↦ rw t refl
  | inr f ↦ rw f (ap (option_map suc) (named_last vs y x) ∙ moved (named vs x) (same_name x y))
]
  where
    moved : (o : Option ℕ) (b : Bool) → option_map suc (otherwise o (cond b (Some (length vs)) None)) ≡ otherwise (option_map suc o) (cond b (Some (length (v ∷ vs))) None)
    moved None true = ap Some (omega arith)
    moved None false = refl
    moved (Some j) b = refl

-- the table of no variables
pub numbered_none : {Z : Type 0} (es : List (String Z × ℕ)) → es ≡ [] → IsNumbered [] es
numbered_none es e x k = ap (λ z. number_in z x) e

-- a variable without a name changes nothing
pub numbered_own : {Z : Type 0} (vs vs' : List (List ℕ)) (es : List (String Z × ℕ)) (y : List ℕ) → is_anonymous y ≡ true → IsNumbered vs es → vs' ≡ vs ++ y ∷ [] → IsNumbered vs' es
numbered_own vs vs' es y a is pushed x k =
    is x k ∙ still (named vs x) ∙ sym (ap (λ z. named z x) pushed ∙ named_last vs y x ∙ ap (λ b. otherwise (named vs x) (cond b (Some (length vs)) None)) apart)
  where
    still : (o : Option ℕ) → o ≡ otherwise o None
    still None = refl
    still (Some j) = refl

    apart : same_name x y ≡ false
    apart = elim (cases_Bool (same_name x y)) [
      | inl t ↦ absurd (both_ways (is_anonymous x) k (ap is_anonymous (same_name_to x y t) ∙ a))
      | inr f ↦ f
    ]

-- nor does a name that is there
pub numbered_again : {Z : Type 0} (vs vs' : List (List ℕ)) (es : List (String Z × ℕ)) (y : List ℕ) (j : ℕ) → named vs y ≡ Some j → IsNumbered vs es → vs' ≡ vs ++ y ∷ [] → IsNumbered vs' es
numbered_again vs vs' es y j e is pushed x k =
    is x k ∙ sym (ap (λ z. named z x) pushed ∙ named_last vs y x ∙ go (same_name x y) refl)
  where
    go : (b : Bool) → same_name x y ≡ b → otherwise (named vs x) (cond b (Some (length vs)) None) ≡ named vs x
    go true t =
        let there : named vs x ≡ Some j = ap (named vs) (same_name_to x y t) ∙ e in
        rw there refl
    go false f = still (named vs x)
      where
        still : (o : Option ℕ) → otherwise o None ≡ o
        still None = refl
        still (Some i) = refl

-- a name that is new is put last in both
pub numbered_new : {Z : Type 0} (vs : List (List ℕ)) (es : List (String Z × ℕ)) (k : String Z) → IsNumbered vs es → IsNumbered (vs ++ shown k ∷ []) (es ++ (k, length vs) ∷ [])
numbered_new vs es k is x a =
    number_last es k (length vs) x
    ∙ ap (λ o. otherwise o (if same_name x (shown k) then Some (length vs) else None)) (is x a)
    ∙ sym (named_last vs (shown k) x)

-- a name that is there is found
pub named_there : (vs : List (List ℕ)) (x : List ℕ) (k : ℕ) → named vs x ≡ Some k → (number vs x ≡ k) × (is_named x vs ≡ true)
named_there [] x k e = absurd cc
named_there (v ∷ vs) x k e = elim (cases_Bool (same_name x v)) [
  | inl t ↦ let here : Some 0 ≡ Some k = rw t at e in let is : 0 ≡ k = cc in (rw t is, rw t refl)
  | inr f ↦ let there : option_map suc (named vs x) ≡ Some k = rw f at e in let r = later (λ j q. named_there vs x j q) (named vs x) refl there in (rw f r.0, rw f r.1)
]
  where
    later : ((j : ℕ) → named vs x ≡ Some j → (number vs x ≡ j) × (is_named x vs ≡ true)) → (o : Option ℕ) → named vs x ≡ o → option_map suc o ≡ Some k → (suc (number vs x) ≡ k) × (is_named x vs ≡ true)
    later inner None q h = absurd cc
    later inner (Some j) q h = let r = inner j q in let is : suc j ≡ k = cc in (ap suc r.0 ∙ is, r.1)

-- a name that is not there has the next number
pub named_not : (vs : List (List ℕ)) (x : List ℕ) → named vs x ≡ None → (number vs x ≡ length vs) × (is_named x vs ≡ false)
named_not [] x e = (refl, refl)
named_not (v ∷ vs) x e = elim (cases_Bool (same_name x v)) [
  | inl t ↦ absurd (never 0 (rw t at e))
  | inr f ↦ let there : option_map suc (named vs x) ≡ None = rw f at e in let r = later (λ q. named_not vs x q) (named vs x) refl there in (rw f r.0, rw f r.1)
]
  where
    later : (named vs x ≡ None → (number vs x ≡ length vs) × (is_named x vs ≡ false)) → (o : Option ℕ) → named vs x ≡ o → option_map suc o ≡ None → (suc (number vs x) ≡ length (v ∷ vs)) × (is_named x vs ≡ false)
    later inner None q h = let r = inner q in (ap suc r.0 ∙ omega arith, r.1)
    later inner (Some j) q h = absurd cc

-- the three kinds of occurrences
pub slot_own : (vs : List (List ℕ)) (x : List ℕ) → is_anonymous x ≡ true → (slot_of vs x ≡ length vs) × (with_variable vs x ≡ vs ++ x ∷ [])
slot_own vs x a = (rw a refl, rw a refl)

pub slot_again : (vs : List (List ℕ)) (x : List ℕ) (k : ℕ) → is_anonymous x ≡ false → named vs x ≡ Some k → (slot_of vs x ≡ k) × (with_variable vs x ≡ vs)
slot_again vs x k a e = let r = named_there vs x k e in (rw a r.0, rw (a, r.1) refl)

pub slot_new : (vs : List (List ℕ)) (x : List ℕ) → is_anonymous x ≡ false → named vs x ≡ None → (slot_of vs x ≡ length vs) × (with_variable vs x ≡ vs ++ x ∷ [])
slot_new vs x a e = let r = named_not vs x e in (rw a r.0, rw (a, r.1) refl)

no_name : (x : List ℕ) → is_anonymous x ≡ false → x ≡ anonymous → ⊥
no_name x a e = both_ways (is_anonymous x) a (same_name_from x anonymous e)

-- the functions give the slot
pub slot_found : (vs : List (List ℕ)) (x : List ℕ) → IsSlot vs x (slot_of vs x) (with_variable vs x)
slot_found vs x = elim (cases_Bool (is_anonymous x)) [
  | inl a ↦ at (slot_own vs x a) (own (same_name_to x anonymous a))
  | inr a ↦ named_or (named vs x) refl a
]
  where
    at : {k : ℕ} {us : List (List ℕ)} → (slot_of vs x ≡ k) × (with_variable vs x ≡ us) → IsSlot vs x k us → IsSlot vs x (slot_of vs x) (with_variable vs x)
    at e s = subst (λ k. IsSlot vs x k (with_variable vs x)) (sym e.0) (subst (IsSlot vs x _) (sym e.1) s)

    named_or : (o : Option ℕ) → named vs x ≡ o → is_anonymous x ≡ false → IsSlot vs x (slot_of vs x) (with_variable vs x)
    named_or None e a = at (slot_new vs x a e) (first (no_name x a) (λ has. both_ways (is_named x vs) (named_not vs x e).1 (is_named_from x vs has)))
    named_or (Some k) e a = at (slot_again vs x k a e) (again k (no_name x a) e)

-- and no other
pub slot_only : (vs : List (List ℕ)) (x : List ℕ) (k : ℕ) (us : List (List ℕ)) → IsSlot vs x k us → (slot_of vs x ≡ k) × (with_variable vs x ≡ us)
slot_only vs x k us (own e) = slot_own vs x (same_name_from x anonymous e)
slot_only vs x k us (first some new) = named_or (named vs x) refl
  where
    a : is_anonymous x ≡ false
    a = elim (cases_Bool (is_anonymous x)) [ inl t ↦ absurd (some (same_name_to x anonymous t)) | inr f ↦ f ]

    named_or : (o : Option ℕ) → named vs x ≡ o → (slot_of vs x ≡ length vs) × (with_variable vs x ≡ vs ++ x ∷ [])
    named_or None e = slot_new vs x a e
    named_or (Some j) e = absurd (new (is_named_has x vs (named_there vs x j e).1))
slot_only vs x k us (again j some e) = slot_again vs x j a e
  where
    a : is_anonymous x ≡ false
    a = elim (cases_Bool (is_anonymous x)) [ inl t ↦ absurd (some (same_name_to x anonymous t)) | inr f ↦ f ]

-- the slot is below the count then, and the count grows by one at most
pub named_below : (vs : List (List ℕ)) (x : List ℕ) (k : ℕ) → named vs x ≡ Some k → k < length vs
named_below [] x k e = absurd cc
named_below (v ∷ vs) x k e = elim (cases_Bool (same_name x v)) [
  | inl t ↦ let here : Some 0 ≡ Some k = rw t at e in let is : 0 ≡ k = cc in omega arith
  | inr f ↦ let there : option_map suc (named vs x) ≡ Some k = rw f at e in later (λ j q. named_below vs x j q) (named vs x) refl there
]
  where
    later : ((j : ℕ) → named vs x ≡ Some j → j < length vs) → (o : Option ℕ) → named vs x ≡ o → option_map suc o ≡ Some k → k < length (v ∷ vs)
    later inner None q h = absurd cc
    later inner (Some j) q h = let low = inner j q in let is : suc j ≡ k = cc in omega arith

pub slot_below : (vs us : List (List ℕ)) (x : List ℕ) (k : ℕ) → IsSlot vs x k us → (k < length us) × (length vs ≤ length us) × (length us ≤ suc (length vs))
slot_below vs us x k (own e) = let n = length-append vs (x ∷ []) in (omega arith, omega arith, omega arith)
slot_below vs us x k (first some new) = let n = length-append vs (x ∷ []) in (omega arith, omega arith, omega arith)
slot_below vs us x k (again j some e) = let low = named_below vs x j e in (low, omega arith, omega arith)

-- what the table has of a name, looked up by its bytes
looked_up : {Z : Type 0} (vs : List (List ℕ)) (es : List (String Z × ℕ)) (q x : List ℕ) (o : Option ℕ) → IsUtf8 q → chars q ≡ x → IsNumbered vs es → is_anonymous x ≡ false → o ≡ lookup (λ k. bytes_eq q (string_bytes k)) es → named vs x ≡ o
looked_up vs es q x o u c is a e = sym (e ∙ number_shown q es u ∙ ap (number_in es) c ∙ is x a)

pub slot_there : {Z : Type 0} (vs : List (List ℕ)) (es : List (String Z × ℕ)) (q x : List ℕ) (k : ℕ) → IsUtf8 q → chars q ≡ x → IsNumbered vs es → is_anonymous x ≡ false → Some k ≡ lookup (λ k. bytes_eq q (string_bytes k)) es → (slot_of vs x ≡ k) × (with_variable vs x ≡ vs)
slot_there vs es q x k u c is a e = slot_again vs x k a (looked_up vs es q x (Some k) u c is a e)

pub slot_missing : {Z : Type 0} (vs : List (List ℕ)) (es : List (String Z × ℕ)) (q x : List ℕ) → IsUtf8 q → chars q ≡ x → IsNumbered vs es → is_anonymous x ≡ false → None ≡ lookup (λ k. bytes_eq q (string_bytes k)) es → (slot_of vs x ≡ length vs) × (with_variable vs x ≡ vs ++ x ∷ [])
slot_missing vs es q x u c is a e = slot_new vs x a (looked_up vs es q x None u c is a e)

-- the table with a name more
pub numbered_more : {Z : Type 0} (vs vs' : List (List ℕ)) (es es' : List (String Z × ℕ)) (k : String Z) (n : ℕ) (q x : List ℕ) → IsUtf8 q → chars q ≡ x → IsNumbered vs es → is_anonymous x ≡ false →
    None ≡ lookup (λ k. bytes_eq q (string_bytes k)) es → string_bytes k ≡ q → n ≡ length vs → es' ≡ insert_entry string_eq es k n → vs' ≡ vs ++ x ∷ [] → IsNumbered vs' es'
numbered_more {Z} vs vs' es es' k n q x u c is a e own_bytes count inserted pushed =
    subst (λ z. IsNumbered z es') (sym (pushed ∙ ap (λ y. vs ++ y ∷ []) (sym named_so)))
    (subst (IsNumbered (vs ++ shown k ∷ [])) (sym (inserted ∙ entry_last es k n absent ∙ ap (λ m. es ++ (k, m) ∷ []) count)) (numbered_new vs es k is))
  where
    named_so : shown k ≡ x
    named_so = ap chars own_bytes ∙ c

    absent : number_in es (shown k) ≡ None
    absent = ap (number_in es) (named_so ∙ sym c) ∙ sym (number_shown q es u) ∙ sym e

pub numbered_there : {Z : Type 0} (vs vs' : List (List ℕ)) (es : List (String Z × ℕ)) (q x : List ℕ) (j : ℕ) → IsUtf8 q → chars q ≡ x → IsNumbered vs es → is_anonymous x ≡ false →
    Some j ≡ lookup (λ k. bytes_eq q (string_bytes k)) es → vs' ≡ vs ++ x ∷ [] → IsNumbered vs' es
numbered_there vs vs' es q x j u c is a e pushed = numbered_again vs vs' es x j (looked_up vs es q x (Some j) u c is a e) is pushed
