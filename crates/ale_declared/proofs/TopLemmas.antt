-- The edges from `bot`: a walk over the types after `bot`, in order, finds them, and a type's number is its place.
use Rattle.std.proofs.Common.{◌≡◌, sym, ap, ◌∙◌, subst, refl, ℕ, zero, suc, ◌+◌, ◌<◌, Bool, true, false, cond, Some, List, [], ◌∷◌, ◌++◌, map, drop, drop-cons, length, get_or, slice_get, inl, inr, arith, add-one, append_assoc}
use Rattle.std.specs.Prelude.{not, ◌&&◌}
use Rattle.std.specs.List.{filter, flat_map}
use Rattle.std.proofs.lemmas.Bool.{cases_Bool, false_from_ne_true, both_ways}
use Rattle.std.proofs.lemmas.Option.{get_or_from_slice_get, slice_get_within}
use Rattle.ale_relation.specs.Has.{Has}
use Rattle.ale_declared.specs.Names.{same_name, is_named, number, numbered, name_of}
use Rattle.ale_declared.specs.Numbering.{IsNumbering, AreDistinct, NamesAreDistinct}
use Rattle.ale_declared.specs.Declarations.{bot, is_top, top_edges, types_of, features_of, declared, type_names, feature_names}
use Rattle.ale_declared.specs.declared.decl.SigDecl.{SigDecl}
use Rattle.ale_declared.proofs.NumberLemmas.{same_name_to, same_name_from, is_named_has, is_named_from, IsDistinct, IsDistinct-numbered, Has-numbered, numbered_has}

-- an element at a place below the length is there
pub Has-get_or : {A : Type 0} (xs : List A) (i : ℕ) (d : A) → i < length xs → Has xs (get_or xs i d)
Has-get_or [] i d below = absurd (omega arith)
Has-get_or (x ∷ xs) zero d below = inl refl
Has-get_or (x ∷ xs) (suc i) d below = inr (Has-get_or xs i d (omega arith))

-- where each name is there once, its number is its place
pub number_own : (names : List (List ℕ)) → IsDistinct names → IsNumbering names
number_own [] once n below = absurd (omega arith)
number_own (y ∷ ys) once zero below = rw (same_name_from y y refl) refl
number_own (y ∷ ys) once (suc n) below =
    let x : List ℕ = get_or ys n [] in
    let there : Has ys x = Has-get_or ys n [] (omega arith) in
    elim (cases_Bool (same_name x y)) [
      | inl e ↦ absurd (once.0 (subst (λ z. Has ys z) (same_name_to x y e) there))
      | inr e ↦ rw e (ap suc (number_own ys once.1 n (omega arith)))
    ]

-- then no two places have one name
pub AreDistinct-numbering : (names : List (List ℕ)) → IsNumbering names → AreDistinct names
AreDistinct-numbering names own i j x at_i at_j =
    let left : number names x ≡ i = placed i at_i in
    let right : number names x ≡ j = placed j at_j in
    sym left ∙ right
  where
    placed : (n : ℕ) → slice_get names n ≡ Some x → number names x ≡ n
    placed n at =
        ap (number names) (sym (get_or_from_slice_get names n x [] at)) ∙ own n (slice_get_within names n x at)

-- the types and the features of declarations
pub IsNumbering-types : (decls : List SigDecl) → IsNumbering (types_of decls)
IsNumbering-types decls = number_own (types_of decls) (IsDistinct-numbered (bot ∷ []) (flat_map type_names decls) (λ h. h, tt))

pub IsNumbering-features : (decls : List SigDecl) → IsNumbering (features_of decls)
IsNumbering-features decls = number_own (features_of decls) (IsDistinct-numbered [] (flat_map feature_names decls) tt)

-- `bot` is the first type
pub first_is_bot : (names xs : List (List ℕ)) → name_of (numbered (bot ∷ names) xs) 0 ≡ bot
first_is_bot names [] = refl
first_is_bot names (x ∷ xs) =
    elim (cases_Bool (is_named x (bot ∷ names))) [
      | inl e ↦ rw e (first_is_bot names xs)
      | inr e ↦ rw e (first_is_bot (names ++ x ∷ []) xs)
    ]

-- no edge leads to `bot`, so the walk may begin after it
pub tops_begin : (g : List ℕ → ℕ × ℕ) (types subs : List (List ℕ)) → name_of types 0 ≡ bot → map g (filter (is_top subs) (drop 1 types)) ≡ map g (filter (is_top subs) types)
tops_begin g [] subs first = refl
tops_begin g (x ∷ xs) subs first =
    let same : same_name x bot ≡ true = same_name_from x bot first in
    rw same refl

-- a type in a `sub` list is passed over
pub tops_skip : (g : List ℕ → ℕ × ℕ) (types subs : List (List ℕ)) (t : ℕ) → t < length types → is_named (name_of types t) subs ≡ true → map g (filter (is_top subs) (drop t types)) ≡ map g (filter (is_top subs) (drop (t + 1) types))
tops_skip g types subs t below mentioned =
    rw (add-one, drop-cons types t []) (elim (cases_Bool (same_name (name_of types t) bot)) [
      | inl e ↦ rw e refl
      | inr e ↦ rw (e, mentioned) refl
    ])

-- another type has an edge
pub tops_take : (types subs : List (List ℕ)) (t : ℕ) → IsNumbering types → name_of types 0 ≡ bot → 0 < t → t < length types → is_named (name_of types t) subs ≡ false → map {B = ℕ × ℕ} (λ x. (0, number types x)) (filter (is_top subs) (drop t types)) ≡ (0, t) ∷ map {B = ℕ × ℕ} (λ x. (0, number types x)) (filter (is_top subs) (drop (t + 1) types))
tops_take types subs t own first past below unmentioned =
    let g : List ℕ → ℕ × ℕ = λ x. (0, number types x) in
    let apart : same_name (name_of types t) bot ≡ false = false_from_ne_true (same_name (name_of types t) bot) (λ h.
    let same : number types (name_of types t) ≡ number types (name_of types 0) = ap (number types) (same_name_to (name_of types t) bot h ∙ sym first) in
    let at_t : number types (name_of types t) ≡ t = own t below in
    let at_0 : number types (name_of types 0) ≡ 0 = own 0 (omega arith) in
    absurd (omega arith)) in
    let top : is_top subs (name_of types t) ≡ true = rw (apart, unmentioned) refl in
    let front : filter (is_top subs) (drop t types) ≡ name_of types t ∷ filter (is_top subs) (drop (t + 1) types) =
    rw (add-one, drop-cons types t []) (ap (λ b. cond b (name_of types t ∷ filter (is_top subs) (drop (suc t) types)) (filter (is_top subs) (drop (suc t) types))) top) in
    ap (map g) front ∙ ap (λ n. (0, n) ∷ map g (filter (is_top subs) (drop (t + 1) types))) (own t below)

-- the edges from `bot` to the types from a place on
abbrev pub tops_from : List (List ℕ) → List (List ℕ) → ℕ → List (ℕ × ℕ)
tops_from types subs n = map (λ x. (0, number types x)) (filter (is_top subs) (drop n types))

-- the walk's step at a type in a `sub` list
pub skip_step : (types subs : List (List ℕ)) (t : ℕ) (edges next all : List (ℕ × ℕ)) → t < length types → is_named (name_of types t) subs ≡ true → next ≡ edges → edges ++ tops_from types subs t ≡ all → next ++ tops_from types subs (t + 1) ≡ all
skip_step types subs t edges next all below mentioned same so_far =
    ap (λ v. v ++ tops_from types subs (t + 1)) same
    ∙ ap (λ v. edges ++ v) (sym (tops_skip (λ x. (0, number types x)) types subs t below mentioned))
    ∙ so_far

-- the step at another type
pub take_step : (types subs : List (List ℕ)) (t : ℕ) (edges next all : List (ℕ × ℕ)) → IsNumbering types → name_of types 0 ≡ bot → 0 < t → t < length types → is_named (name_of types t) subs ≡ false → next ≡ edges ++ (0, t) ∷ [] → edges ++ tops_from types subs t ≡ all → next ++ tops_from types subs (t + 1) ≡ all
take_step types subs t edges next all own first past below unmentioned pushed so_far =
    ap (λ v. v ++ tops_from types subs (t + 1)) pushed
    ∙ append_assoc edges ((0, t) ∷ []) (tops_from types subs (t + 1))
    ∙ ap (λ v. edges ++ v) (sym (tops_take types subs t own first past below unmentioned))
    ∙ so_far

-- a name is among names exactly where it is among them once each
pub is_named_numbered : (x : List ℕ) (xs : List (List ℕ)) → is_named x (numbered [] xs) ≡ is_named x xs
is_named_numbered x xs =
    elim (cases_Bool (is_named x xs)) [
      | inl e ↦ is_named_from x (numbered [] xs) (Has-numbered [] xs x (is_named_has x xs e)) ∙ sym e
      | inr e ↦ false_from_ne_true (is_named x (numbered [] xs)) (λ h.
          elim (numbered_has [] xs x (is_named_has x (numbered [] xs) h)) [
            | inl z ↦ absurd z
            | inr k ↦ absurd (both_ways (is_named x xs) e (is_named_from x xs k))
          ]) ∙ sym e
    ]

-- equal tests keep the same
pub filter_same : {A : Type 0} (p q : A → Bool) (xs : List A) → ((x : A) → p x ≡ q x) → filter p xs ≡ filter q xs
filter_same p q [] h = refl
filter_same p q (x ∷ xs) h = rw (h x, filter_same p q xs h) refl

-- so the edges from `bot` are the same
pub top_edges-numbered : (types subs : List (List ℕ)) → top_edges types (numbered [] subs) ≡ top_edges types subs
top_edges-numbered types subs =
    ap (map {B = ℕ × ℕ} (λ t. (0, number types t)))
    (filter_same (is_top (numbered [] subs)) (is_top subs) types
    (λ x. ap (λ b. not (same_name x bot) && not b) (is_named_numbered x subs)))

-- whatever is declared, each name is there once
pub distinct_names : NamesAreDistinct
unfolding declared
distinct_names decls = (
  AreDistinct-numbering (types_of decls) (IsNumbering-types decls),
  AreDistinct-numbering (features_of decls) (IsNumbering-features decls),
)
