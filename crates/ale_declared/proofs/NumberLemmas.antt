-- Names and their numbers: each name that is written has a number below the count, and each number a name.
use Rattle.std.proofs.Common.{◌≡◌, sym, ap, subst, refl, ℕ, zero, suc, ◌<◌, true, cond, List, [], ◌∷◌, ◌++◌, length, inl, inr, ◌⊎◌, arith}
use Rattle.std.proofs.lemmas.Bool.{cases_Bool, or_cases, or_left, or_right, both_ways, false≢true}
use Rattle.std.proofs.lemmas.Slice.Eq.{bytes_eq-Decides}
use Rattle.ale_relation.specs.Has.{Has}
use Rattle.ale_declared.specs.Names.{same_name, is_named, number, numbered}
use Rattle.ale_declared.proofs.ListLemmas.{Has-append_left, Has-append_right, Has-append_cases}

-- names that the test finds to be the same are
pub same_name_to : (x y : List ℕ) → same_name x y ≡ true → x ≡ y
same_name_to x y h = (bytes_eq-Decides x y).0 h

-- a name is the same as itself
pub same_name_from : (x y : List ℕ) → x ≡ y → same_name x y ≡ true
same_name_from x y e = (bytes_eq-Decides x y).1 e

-- a name that is found is there
pub is_named_has : (x : List ℕ) (names : List (List ℕ)) → is_named x names ≡ true → Has names x
is_named_has x [] h = absurd (false≢true h)
is_named_has x (y ∷ ys) h =
    elim (or_cases (same_name x y) (is_named x ys) h) [ inl e ↦ inl (same_name_to x y e) | inr e ↦ inr (is_named_has x ys e) ]

-- a name that is there is found
pub is_named_from : (x : List ℕ) (names : List (List ℕ)) → Has names x → is_named x names ≡ true
is_named_from x [] k = absurd k
is_named_from x (y ∷ ys) (inl same) = or_left (same_name x y) (is_named x ys) (same_name_from x y same)
is_named_from x (y ∷ ys) (inr there) = or_right (same_name x y) (is_named x ys) (is_named_from x ys there)

-- the number of a name that is there is below the count
pub number_below : (names : List (List ℕ)) (x : List ℕ) → Has names x → number names x < length names
number_below [] x k = absurd k
number_below (y ∷ ys) x k =
    elim (cases_Bool (same_name x y)) [
      | inl e ↦ rw e (omega arith)
      | inr e ↦ rw e (elim k as (λ v. suc (number ys x) < length (y ∷ ys)) [
        | inl same ↦ absurd (both_ways (same_name x y) e (same_name_from x y same))
        | inr there ↦ let rest : number ys x < length ys = number_below ys x there in omega arith
      ])
    ]

-- each name is there once
abbrev pub IsDistinct : List (List ℕ) → Type 0
IsDistinct [] = Unit {0}
IsDistinct (x ∷ xs) = (Has xs x → ⊥) × IsDistinct xs

-- each number below the count is that of a name
pub number_at : (names : List (List ℕ)) (n : ℕ) → IsDistinct names → n < length names → (x : List ℕ) × Has names x × (number names x ≡ n)
number_at [] n once below = absurd (omega arith)
number_at (y ∷ ys) zero once below = (y, inl refl, rw (same_name_from y y refl) refl)
number_at (y ∷ ys) (suc n) once below =
    let rest = number_at ys n once.1 (omega arith) in
    let x : List ℕ = rest.0 in
    elim (cases_Bool (same_name x y)) [
      | inl e ↦ absurd (once.0 (subst (λ z. Has ys z) (same_name_to x y e) rest.1))
      | inr e ↦ (x, inr rest.1, rw e (ap suc rest.2))
    ]

-- a name that isn't there may be added
pub IsDistinct-push : (names : List (List ℕ)) (x : List ℕ) → IsDistinct names → (Has names x → ⊥) → IsDistinct (names ++ x ∷ [])
IsDistinct-push [] x once new = (λ h. h, tt)
IsDistinct-push (y ∷ ys) x once new = (
  λ h. elim (Has-append_cases ys (x ∷ []) y h) [
    | inl k ↦ once.0 k
    | inr k ↦ elim k [ inl same ↦ new (inl (sym same)) | inr z ↦ z ]
  ],
  IsDistinct-push ys x once.1 (λ h. new (inr h)),
)

-- the names with one that may be new
added : List (List ℕ) → List ℕ → List (List ℕ)
added names x = cond (is_named x names) names (names ++ x ∷ [])

-- what was there still is
Has-added : (names : List (List ℕ)) (x y : List ℕ) → Has names y → Has (added names x) y
unfolding added
Has-added names x y k =
    elim (cases_Bool (is_named x names)) [ inl e ↦ rw e k | inr e ↦ rw e (Has-append_left names (x ∷ []) y k) ]

-- the name added is there
Has-added_one : (names : List (List ℕ)) (x : List ℕ) → Has (added names x) x
unfolding added
Has-added_one names x =
    elim (cases_Bool (is_named x names)) [
      | inl e ↦ rw e (is_named_has x names e)
      | inr e ↦ rw e (Has-append_right names (x ∷ []) x (inl refl))
    ]

-- what is there was there or is the name added
added_has : (names : List (List ℕ)) (x y : List ℕ) → Has (added names x) y → Has names y ⊎ (y ≡ x)
unfolding added
added_has names x y k =
    elim (cases_Bool (is_named x names)) [
      | inl e ↦ let there : Has names y = rw e at k in inl there
      | inr e ↦
          let there : Has (names ++ x ∷ []) y = rw e at k in
          elim (Has-append_cases names (x ∷ []) y there) [ inl h ↦ inl h | inr h ↦ elim h [ inl same ↦ inr same | inr z ↦ absurd z ] ]
    ]

-- and each name is there once
IsDistinct-added : (names : List (List ℕ)) (x : List ℕ) → IsDistinct names → IsDistinct (added names x)
unfolding added
IsDistinct-added names x once =
    elim (cases_Bool (is_named x names)) [
      | inl e ↦ rw e once
      | inr e ↦ rw e (IsDistinct-push names x once (λ h. both_ways (is_named x names) e (is_named_from x names h)))
    ]

-- the names that were there are
pub Has-numbered_old : (names xs : List (List ℕ)) (y : List ℕ) → Has names y → Has (numbered names xs) y
unfolding added
Has-numbered_old names [] y k = k
Has-numbered_old names (x ∷ xs) y k = Has-numbered_old (added names x) xs y (Has-added names x y k)

-- each other name is there
pub Has-numbered : (names xs : List (List ℕ)) (y : List ℕ) → Has xs y → Has (numbered names xs) y
unfolding added
Has-numbered names [] y k = absurd k
Has-numbered names (x ∷ xs) y (inl same) =
    Has-numbered_old (added names x) xs y (subst (λ z. Has (added names x) z) (sym same) (Has-added_one names x))
Has-numbered names (x ∷ xs) y (inr there) = Has-numbered (added names x) xs y there

-- and no others
pub numbered_has : (names xs : List (List ℕ)) (y : List ℕ) → Has (numbered names xs) y → Has names y ⊎ Has xs y
unfolding added
numbered_has names [] y k = inl k
numbered_has names (x ∷ xs) y k =
    elim (numbered_has (added names x) xs y k) [
      | inl h ↦ elim (added_has names x y h) [ inl old ↦ inl old | inr same ↦ inr (inl same) ]
      | inr h ↦ inr (inr h)
    ]

-- each once
pub IsDistinct-numbered : (names xs : List (List ℕ)) → IsDistinct names → IsDistinct (numbered names xs)
unfolding added
IsDistinct-numbered names [] once = once
IsDistinct-numbered names (x ∷ xs) once = IsDistinct-numbered (added names x) xs (IsDistinct-added names x once)

-- the first name keeps its number
pub number-first : (y : List ℕ) (names xs : List (List ℕ)) → number (numbered (y ∷ names) xs) y ≡ 0
number-first y names [] = rw (same_name_from y y refl) refl
number-first y names (x ∷ xs) =
    elim (cases_Bool (is_named x (y ∷ names))) [
      | inl e ↦ rw e (number-first y names xs)
      | inr e ↦ rw e (number-first y (names ++ x ∷ []) xs)
    ]
