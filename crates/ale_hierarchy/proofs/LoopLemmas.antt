-- The step of a loop over a list.
use Rattle.std.proofs.Common.{◌≡◌, sym, ap, subst, refl, ℕ, zero, suc, ◌+◌, ◌<◌, ◌≤◌, Bool, true, false, cond, Option, Some, None, List, [], ◌∷◌, length, get_or, drop, inl, inr, arith, add-one, drop-cons}
use Rattle.std.specs.Prelude.{nat_lt, IfSome, IsErrOf, Err}
use Rattle.std.proofs.lemmas.Bool.{and_parts, and_from, ltb-true, lt-ltb}
use Rattle.ale_relation.specs.Has.{Has}
use Rattle.ale_declared.proofs.TopLemmas.{Has-get_or}
use Rattle.ale_hierarchy.specs.Stages.{are_below}

-- the rest of a list begins with the next element
pub drop_item : {A : Type 0} (xs : List A) (i : ℕ) (x : A) → i < length xs → x ≡ get_or xs i x → drop i xs ≡ x ∷ drop (i + 1) xs
drop_item xs i x below e = rw (add-one, drop-cons xs i x below, ← e) refl

-- what is at a place is in the list
pub Has_item : {A : Type 0} (xs : List A) (i : ℕ) (x : A) → i < length xs → x ≡ get_or xs i x → Has xs x
Has_item xs i x below e = subst (λ z. Has xs z) (sym e) (Has-get_or xs i x below)

-- each number of the list is below the bound
pub are_below-at : (n : ℕ) (xs : List ℕ) (x : ℕ) → are_below n xs ≡ true → Has xs x → x < n
are_below-at n [] x h k = absurd k
are_below-at n (y ∷ ys) x h (inl same) =
    subst (λ z. z < n) (sym same) (ltb-true y n (and_parts (nat_lt y n) (are_below n ys) h).0)
are_below-at n (y ∷ ys) x h (inr there) = are_below-at n ys x (and_parts (nat_lt y n) (are_below n ys) h).1 there

pub are_below-from : (n : ℕ) (xs : List ℕ) → ((x : ℕ) → Has xs x → x < n) → are_below n xs ≡ true
are_below-from n [] h = refl
are_below-from n (y ∷ ys) h =
    and_from (nat_lt y n) (are_below n ys) (lt-ltb y n (h y (inl refl))) (are_below-from n ys (λ x k. h x (inr k)))

-- what is so of both is so of the chosen one
pub cond_either : {A : Type 0} (P : A → Type 0) (t : Bool) (x y : A) → P x → P y → P (cond t x y)
cond_either P true x y p q = p
cond_either P false x y p q = q

-- the rest of a list of numbers begins with the next one
pub drop_number : (xs : List ℕ) (i : ℕ) → i < length xs → drop i xs ≡ get_or xs i 0 ∷ drop (i + 1) xs
drop_number xs i below = rw (add-one, drop-cons xs i 0 below) refl

-- what is so of each value there is
pub IfSome-from : {A : Type 0} {P : A → Type 0} (o : Option A) → ((x : A) → o ≡ Some x → P x) → IfSome o P
IfSome-from None h = tt
IfSome-from (Some x) h = h x refl

pub IfSome-at : {A : Type 0} (P : A → Type 0) (o : Option A) (x : A) → IfSome o P → o ≡ Some x → P x
IfSome-at P None x h e = absurd cc
IfSome-at P (Some y) x h e = let same : y ≡ x = cc in subst P same h

-- past the end nothing is left
pub drop_end : {A : Type 0} (xs : List A) (i : ℕ) → length xs ≤ i → drop i xs ≡ []
drop_end [] zero h = refl
drop_end [] (suc i) h = refl
drop_end (x ∷ xs) zero h = absurd (omega arith)
drop_end (x ∷ xs) (suc i) h = drop_end xs i (omega arith)

-- an error that a `?` hands on, at another type
pub IsErrOf-moved : {E : Type 0} (T U : Type 0) (e n : E) → IsErrOf {T = T} (Err e) n → IsErrOf {T = U} (Err e) n
IsErrOf-moved T U e n h = let same : e ≡ n = cc in ap Err same
