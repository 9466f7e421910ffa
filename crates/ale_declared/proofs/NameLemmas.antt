-- Names as a set of strings holds them: a string stands for its characters, and a look-up by bytes finds
-- what a look-up by characters finds.
use Rattle.std.proofs.Common.{◌≡◌, sym, ap, ◌∙◌, subst, refl, ℕ, zero, suc, ◌+◌, ◌<◌, Option, Some, None, List, [], ◌∷◌, ◌++◌, map, length, get_or, slice_get, position, inl, inr, arith, zero-add, add-one, drop, drop-cons}
use Rattle.std.specs.Prelude.{String, encode_utf8_all, string_bytes, unwrap_or, IfSome, IfNone, ◌||◌, if◌then◌else◌, codes}
use Rattle.std.specs.List.{list_any, position_from, flat_map}
use Rattle.std.specs.Option.{option_map}
use Rattle.std.specs.Str.{chars, bytes_eq, IsUtf8}
use Rattle.std.proofs.lemmas.Bool.{cases_Bool, false_from_ne_true, both_ways}
use Rattle.std.proofs.lemmas.Str.{encodes-chars, IsUtf8-string_bytes}
use Rattle.std.proofs.lemmas.Slice.Eq.{bytes_eq-Decides}
use Rattle.std.proofs.lemmas.Iterator.Adapters.{position_from-zero}
use Rattle.std.proofs.lemmas.List.{map-append}
use Rattle.std.specs.String.{string_eq}
use Rattle.indexmap.specs.IndexSet.{insert_key}
use Rattle.ale_relation.specs.Has.{Has}
use Rattle.ale_declared.specs.Names.{same_name, is_named, number, numbered, named}
use Rattle.ale_declared.specs.Declarations.{bot}
use Rattle.ale_declared.proofs.NumberLemmas.{same_name_to, same_name_from}

-- texts are equal as bytes exactly where they are equal as characters
pub same_chars : (xs ys : List ℕ) → IsUtf8 xs → IsUtf8 ys → bytes_eq xs ys ≡ same_name (chars xs) (chars ys)
same_chars xs ys u v =
    elim (cases_Bool (bytes_eq xs ys)) [
      | inl e ↦ e ∙ sym (same_name_from (chars xs) (chars ys) (ap chars ((bytes_eq-Decides xs ys).0 e)))
      | inr e ↦ e ∙ sym (false_from_ne_true (same_name (chars xs) (chars ys)) (λ h.
          both_ways (bytes_eq xs ys) e
          ((bytes_eq-Decides xs ys).1 (sym (encodes-chars xs u) ∙ ap encode_utf8_all (same_name_to (chars xs) (chars ys) h) ∙ encodes-chars ys v))))
    ]

-- the characters of a string
abbrev pub shown : {Z : Type 0} → String Z → List ℕ
shown k = chars (string_bytes k)

-- whether a text is the string
pub same_shown : {Z : Type 0} (q : List ℕ) (k : String Z) → IsUtf8 q → bytes_eq q (string_bytes k) ≡ same_name (chars q) (shown k)
same_shown q k u = same_chars q (string_bytes k) u (IsUtf8-string_bytes k)

-- whether a text is among the strings
pub is_named_shown : {Z : Type 0} (q : List ℕ) (ks : List (String Z)) → IsUtf8 q → list_any (λ k. bytes_eq q (string_bytes k)) ks ≡ is_named (chars q) (map shown ks)
is_named_shown q [] u = refl
is_named_shown q (k ∷ ks) u =
    ap (λ b. b || list_any (λ k. bytes_eq q (string_bytes k)) ks) (same_shown q k u)
    ∙ ap (λ b. same_name (chars q) (shown k) || b) (is_named_shown q ks u)

-- the place of a text among the strings
place_from : {Z : Type 0} (q : List ℕ) (n : ℕ) (ks : List (String Z)) → IsUtf8 q → position_from (λ k. bytes_eq q (string_bytes k)) n ks ≡ option_map (λ j. j + n) (named (map shown ks) (chars q))
place_from q n [] u = refl
place_from q n (k ∷ ks) u =
    elim (cases_Bool (same_name (chars q) (shown k))) [
      | inl e ↦ rw (same_shown q k u, e) (ap Some (sym (zero-add n)))
      | inr e ↦ rw (same_shown q k u, e) (place_from q (n + 1) ks u ∙ moved (named (map shown ks) (chars q)))
    ]
  where
    moved : (o : Option ℕ) → option_map (λ j. j + (n + 1)) o ≡ option_map (λ j. j + n) (option_map suc o)
    moved None = refl
    moved (Some j) = ap Some (omega arith)

pub named_shown : {Z : Type 0} (q : List ℕ) (ks : List (String Z)) → IsUtf8 q → position (λ k. bytes_eq q (string_bytes k)) ks ≡ named (map shown ks) (chars q)
named_shown q ks u =
    position_from-zero (λ k. bytes_eq q (string_bytes k)) ks ∙ place_from q 0 ks u ∙ still (named (map shown ks) (chars q))
  where
    still : (o : Option ℕ) → option_map (λ j. j + 0) o ≡ o
    still None = refl
    still (Some j) = ap Some (omega arith)

-- a string added to the strings is its name added to the names
pub insert_shown : {Z : Type 0} (ks : List (String Z)) (k : String Z) → map shown (insert_key string_eq ks k) ≡ numbered (map shown ks) (shown k ∷ [])
insert_shown ks k =
    let found : list_any (string_eq k) ks ≡ is_named (shown k) (map shown ks) = is_named_shown (string_bytes k) ks (IsUtf8-string_bytes k) in
    elim (cases_Bool (is_named (shown k) (map shown ks))) [
      | inl e ↦ rw (found, e) refl
      | inr e ↦ rw (found, e) (map-append shown ks (k ∷ []))
    ]

-- the number of a name is its place, or the count where it is not there
pub number_from_named : (names : List (List ℕ)) (x : List ℕ) → unwrap_or (named names x) (length names) ≡ number names x
number_from_named [] x = refl
number_from_named (y ∷ ys) x =
    elim (cases_Bool (same_name x y)) [
      | inl e ↦ rw e refl
      | inr e ↦ rw e (next (named ys x) ∙ ap suc (number_from_named ys x))
    ]
  where
    next : (o : Option ℕ) → unwrap_or (option_map suc o) (length (y ∷ ys)) ≡ suc (unwrap_or o (length ys))
    next None = omega arith
    next (Some j) = refl

-- a name is at its place
pub named_at : (names : List (List ℕ)) (x : List ℕ) (t : ℕ) → named names x ≡ Some t → slice_get names t ≡ Some x
named_at [] x t h = absurd cc
named_at (y ∷ ys) x t h =
    elim (cases_Bool (same_name x y)) [
      | inl e ↦
          let here : Some zero ≡ Some t = rw e at h in
          let at : zero ≡ t = cc in
          subst (λ n. slice_get (y ∷ ys) n ≡ Some x) at (ap Some (sym (same_name_to x y e)))
      | inr e ↦
          let there : option_map suc (named ys x) ≡ Some t = rw e at h in
          later (named ys x) there (λ n f. named_at ys x n f)
    ]
  where
    later : (o : Option ℕ) → option_map suc o ≡ Some t → ((n : ℕ) → o ≡ Some n → slice_get ys n ≡ Some x) → slice_get (y ∷ ys) t ≡ Some x
    later None f rest = absurd cc
    later (Some n) f rest =
        let at : suc n ≡ t = cc in
        subst (λ m. slice_get (y ∷ ys) m ≡ Some x) at (rest n refl)

-- a name without a place is not there
pub named_none : (names : List (List ℕ)) (x : List ℕ) → named names x ≡ None → Has names x → ⊥
named_none [] x h k = k
named_none (y ∷ ys) x h k =
    elim (cases_Bool (same_name x y)) [
      | inl e ↦ let there : Some zero ≡ None = rw e at h in absurd cc
      | inr e ↦
          let rest : option_map suc (named ys x) ≡ None = rw e at h in
          elim k [
            | inl same ↦ both_ways (same_name x y) e (same_name_from x y same)
            | inr there ↦ named_none ys x (later (named ys x) rest) there
          ]
    ]
  where
    later : (o : Option ℕ) → option_map suc o ≡ None → o ≡ None
    later None f = refl
    later (Some n) f = absurd cc

-- the same of what a look-up answers
pub named_found : (names : List (List ℕ)) (x : List ℕ) (o : Option ℕ) → o ≡ named names x → IfSome o (λ t. slice_get names t ≡ Some x)
named_found names x None e = tt
named_found names x (Some t) e = named_at names x t (sym e)

pub named_missing : (names : List (List ℕ)) (x : List ℕ) (o : Option ℕ) → o ≡ named names x → IfNone o (Has names x → ⊥)
named_missing names x None e = named_none names x (sym e)
named_missing names x (Some t) e = tt

-- names added one list after the other
pub numbered_append : (names xs ys : List (List ℕ)) → numbered names (xs ++ ys) ≡ numbered (numbered names xs) ys
numbered_append names [] ys = refl
numbered_append names (x ∷ xs) ys = numbered_append (if is_named x names then names else names ++ x ∷ []) xs ys

-- one step of adding what a function gives of each element of a list
pub numbered_step : {A : Type 0} (f : A → List (List ℕ)) (names made all : List (List ℕ)) (xs : List A) (i : ℕ) (x : A) → i < length xs → x ≡ get_or xs i x → made ≡ numbered names (f x) → numbered names (flat_map f (drop i xs)) ≡ all → numbered made (flat_map f (drop (i + 1) xs)) ≡ all
numbered_step f names made all xs i x below at e so_far =
    let front : drop i xs ≡ x ∷ drop (i + 1) xs = rw (add-one, drop-cons xs i x) (ap (λ v. v ∷ drop (suc i) xs) (sym at)) in
    ap (λ v. numbered v (flat_map f (drop (i + 1) xs))) e
    ∙ sym (numbered_append names (f x) (flat_map f (drop (i + 1) xs)))
    ∙ ap (λ v. numbered names (flat_map f v)) (sym front)
    ∙ so_far

-- `bot` as it is written
pub bot_chars : chars (codes "bot") ≡ bot
unfolding chars
bot_chars = refl
