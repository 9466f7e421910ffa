-- What is in the lists that the definitions make, what `first` finds, and when `every` holds.
use Rattle.std.proofs.Common.{◌≡◌, sym, ap, ◌∙◌, ◌+◌, length-append, subst, refl, ℕ, zero, suc, ◌<◌, ◌≤◌, Bool, true, false, cond, eqb, Option, Some, None, List, [], ◌∷◌, ◌++◌, map, length, inl, inr, ◌⊎◌, arith}
use Rattle.std.specs.Prelude.{◌&&◌}
use Rattle.std.specs.List.{cons_option, count_by, filter, filter_map, flat_map}
use Rattle.std.proofs.lemmas.List.Elements.{filter-append}
use Rattle.std.proofs.lemmas.List.Sums.{length-filter, count_by-le-length}
use Rattle.ale_relation.specs.Rows.{count_below}
use Rattle.std.proofs.lemmas.Bool.{cases_Bool, both_ways, and_parts, and_from, and_cases, true≢false, or_cases, or_left, or_right, eqb-true, eq-eqb, false≢true}
use Rattle.ale_relation.specs.Has.{Has}
use Rattle.ale_declared.specs.Lists.{upto, first, every, sum_over}
use Rattle.ale_declared.specs.Lists.{is_among}

-- an element of the left part
pub Has-append_left : {A : Type 0} (xs ys : List A) (x : A) → Has xs x → Has (xs ++ ys) x
Has-append_left [] ys x h = absurd h
Has-append_left (z ∷ zs) ys x (inl e) = inl e
Has-append_left (z ∷ zs) ys x (inr h) = inr (Has-append_left zs ys x h)

-- an element of the right part
pub Has-append_right : {A : Type 0} (xs ys : List A) (x : A) → Has ys x → Has (xs ++ ys) x
Has-append_right [] ys x h = h
Has-append_right (z ∷ zs) ys x h = inr (Has-append_right zs ys x h)

-- an element of two lists joined is in one of them
pub Has-append_cases : {A : Type 0} (xs ys : List A) (x : A) → Has (xs ++ ys) x → Has xs x ⊎ Has ys x
Has-append_cases [] ys x h = inr h
Has-append_cases (z ∷ zs) ys x (inl e) = inl (inl e)
Has-append_cases (z ∷ zs) ys x (inr h) =
    elim (Has-append_cases zs ys x h) [ inl k ↦ inl (inr k) | inr k ↦ inr k ]

-- `upto n` has the numbers below n alone
pub upto_below : (n k : ℕ) → Has (upto n) k → k < n
upto_below zero k h = absurd h
upto_below (suc n) k h =
    elim (Has-append_cases (upto n) (n ∷ []) k h) [
      | inl g ↦ let less : k < n = upto_below n k g in omega arith
      | inr g ↦ elim g [ inl e ↦ omega arith | inr z ↦ absurd z ]
    ]

-- below or at the last number
pub less_or_last : (n k : ℕ) → k < suc n → (k < n) ⊎ (k ≡ n)
less_or_last n k h = grind arith

-- `upto n` has every number below n
pub upto_has : (n k : ℕ) → k < n → Has (upto n) k
upto_has zero k h = absurd (omega arith)
upto_has (suc n) k h =
    elim (less_or_last n k h) [
      | inl less ↦ Has-append_left (upto n) (n ∷ []) k (upto_has n k less)
      | inr same ↦ Has-append_right (upto n) (n ∷ []) k (inl same)
    ]

-- what `first` finds is in the list and passes
pub first_has : {A : Type 0} (test : A → Bool) (xs : List A) (x : A) → first test xs ≡ Some x → Has xs x × (test x ≡ true)
first_has test [] x h = absurd cc
first_has test (y ∷ ys) x h =
    elim (cases_Bool (test y)) [
      | inl e ↦
          let found : Some y ≡ Some x = rw e at h in
          let same : y ≡ x = cc in
          (inl (sym same), subst (λ z. test z ≡ true) same e)
      | inr e ↦
          let found : first test ys ≡ Some x = rw e at h in
          let rest = first_has test ys x found in
          (inr rest.0, rest.1)
    ]

-- where `first` finds nothing, each element fails
pub first_none : {A : Type 0} (test : A → Bool) (xs : List A) (x : A) → first test xs ≡ None → Has xs x → test x ≡ false
first_none test [] x h k = absurd k
first_none test (y ∷ ys) x h k =
    elim (cases_Bool (test y)) [
      | inl e ↦ let found : Some y ≡ None = rw e at h in absurd cc
      | inr e ↦
          let none : first test ys ≡ None = rw e at h in
          elim k [ inl same ↦ subst (λ z. test z ≡ false) (sym same) e | inr there ↦ first_none test ys x none there ]
    ]

-- where an element passes, `first` finds one
pub first_there : {A : Type 0} (test : A → Bool) (xs : List A) (x : A) → Has xs x → test x ≡ true → (y : A) × (first test xs ≡ Some y)
first_there test [] x k p = absurd k
first_there test (y ∷ ys) x k p =
    elim (cases_Bool (test y)) [
      | inl e ↦ (y, rw e refl)
      | inr e ↦
          elim k [
            | inl same ↦ absurd (both_ways (test y) e (subst (λ z. test z ≡ true) same p))
            | inr there ↦ let rest = first_there test ys x there p in (rest.0, rw e rest.1)
          ]
    ]

-- where each element fails, `first` finds nothing
pub first_none_from : {A : Type 0} (test : A → Bool) (xs : List A) → ((x : A) → Has xs x → test x ≡ false) → first test xs ≡ None
first_none_from test [] h = refl
first_none_from test (y ∷ ys) h = rw (h y (inl refl)) (first_none_from test ys (λ x k. h x (inr k)))

-- what `first` finds in the left part
pub first-append_some : {A : Type 0} (test : A → Bool) (xs ys : List A) (x : A) → first test xs ≡ Some x → first test (xs ++ ys) ≡ Some x
first-append_some test [] ys x h = absurd cc
first-append_some test (z ∷ zs) ys x h =
    elim (cases_Bool (test z)) [
      | inl e ↦ let found : Some z ≡ Some x = rw e at h in rw e found
      | inr e ↦ let found : first test zs ≡ Some x = rw e at h in rw e (first-append_some test zs ys x found)
    ]

-- where it finds nothing there, it goes on to the right part
pub first-append_none : {A : Type 0} (test : A → Bool) (xs ys : List A) → first test xs ≡ None → first test (xs ++ ys) ≡ first test ys
first-append_none test [] ys h = refl
first-append_none test (z ∷ zs) ys h =
    elim (cases_Bool (test z)) [
      | inl e ↦ let found : Some z ≡ None = rw e at h in absurd cc
      | inr e ↦ let none : first test zs ≡ None = rw e at h in rw e (first-append_none test zs ys none)
    ]

-- the least number that passes is the first
pub first_upto : (test : ℕ → Bool) (n k : ℕ) → k < n → test k ≡ true → ((i : ℕ) → i < k → test i ≡ false) → first test (upto n) ≡ Some k
first_upto test zero k below passes fails = absurd (omega arith)
first_upto test (suc n) k below passes fails =
    elim (less_or_last n k below) [
      | inl less ↦ first-append_some test (upto n) (n ∷ []) k (first_upto test n k less passes fails)
      | inr same ↦
          let last : test n ≡ true = subst (λ z. test z ≡ true) same passes in
          first-append_none test (upto n) (n ∷ []) (first_none_from test (upto n) (λ i h. fails i (subst (λ z. i < z) (sym same) (upto_below n i h))))
          ∙ rw last (ap Some (sym same))
    ]

-- no number below the bound passes
pub first_upto_none : (test : ℕ → Bool) (n : ℕ) → ((i : ℕ) → i < n → test i ≡ false) → first test (upto n) ≡ None
first_upto_none test n fails = first_none_from test (upto n) (λ i h. fails i (upto_below n i h))

-- where `every` holds, each element passes
pub every_at : {A : Type 0} (test : A → Bool) (xs : List A) (x : A) → every test xs ≡ true → Has xs x → test x ≡ true
every_at test [] x h k = absurd k
every_at test (y ∷ ys) x h (inl same) = subst (λ z. test z ≡ true) (sym same) (and_parts (test y) (every test ys) h).0
every_at test (y ∷ ys) x h (inr there) = every_at test ys x (and_parts (test y) (every test ys) h).1 there

-- where each element passes, `every` holds
pub every_from : {A : Type 0} (test : A → Bool) (xs : List A) → ((x : A) → Has xs x → test x ≡ true) → every test xs ≡ true
every_from test [] h = refl
every_from test (y ∷ ys) h =
    and_from (test y) (every test ys) (h y (inl refl)) (every_from test ys (λ x k. h x (inr k)))

-- `&&` of three
and-assoc : (x y z : Bool) → (x && (y && z)) ≡ ((x && y) && z)
and-assoc true y z = refl
and-assoc false y z = refl

-- where `every` fails, an element fails
pub every_fails : {A : Type 0} (test : A → Bool) (xs : List A) → every test xs ≡ false → (x : A) × Has xs x × (test x ≡ false)
every_fails test [] h = absurd (true≢false h)
every_fails test (y ∷ ys) h =
    elim (and_cases (test y) (every test ys) h) [
      | inl e ↦ (y, inl refl, e)
      | inr e ↦ let rest = every_fails test ys e in (rest.0, inr rest.1, rest.2)
    ]

-- `every` of two lists joined
pub every-append : {A : Type 0} (test : A → Bool) (xs ys : List A) → every test (xs ++ ys) ≡ (every test xs && every test ys)
every-append test [] ys = refl
every-append test (z ∷ zs) ys = rw (every-append test zs ys) (and-assoc (test z) (every test zs) (every test ys))

-- `every` at the numbers below n
pub every_upto : (test : ℕ → Bool) (n : ℕ) → ((k : ℕ) → k < n → test k ≡ true) → every test (upto n) ≡ true
every_upto test n h = every_from test (upto n) (λ k there. h k (upto_below n k there))

-- and what it says of each of them
pub every_upto-at : (test : ℕ → Bool) (n k : ℕ) → every test (upto n) ≡ true → k < n → test k ≡ true
every_upto-at test n k h below = every_at test (upto n) k h (upto_has n k below)

-- a filter has each element that passes
pub Has-filter : {A : Type 0} (test : A → Bool) (xs : List A) (x : A) → Has xs x → test x ≡ true → Has (filter test xs) x
Has-filter test [] x k p = absurd k
Has-filter test (y ∷ ys) x k p =
    elim (cases_Bool (test y)) [
      | inl e ↦ rw e (elim k as (λ v. (x ≡ y) ⊎ Has (filter test ys) x) [ inl same ↦ inl same | inr there ↦ inr (Has-filter test ys x there p) ])
      | inr e ↦
          rw e (elim k as (λ v. Has (filter test ys) x) [
            | inl same ↦ absurd (both_ways (test y) e (subst (λ z. test z ≡ true) same p))
            | inr there ↦ Has-filter test ys x there p
          ])
    ]

-- what a filter has is in the list and passes
pub filter_has : {A : Type 0} (test : A → Bool) (xs : List A) (x : A) → Has (filter test xs) x → Has xs x × (test x ≡ true)
filter_has test [] x k = absurd k
filter_has test (y ∷ ys) x k =
    elim (cases_Bool (test y)) [
      | inl e ↦
          let k2 : (x ≡ y) ⊎ Has (filter test ys) x = rw e at k in
          elim k2 [
            | inl same ↦ (inl same, subst (λ z. test z ≡ true) (sym same) e)
            | inr there ↦ let rest = filter_has test ys x there in (inr rest.0, rest.1)
          ]
      | inr e ↦
          let k2 : Has (filter test ys) x = rw e at k in
          let rest = filter_has test ys x k2 in (inr rest.0, rest.1)
    ]

-- a map has the image of each element
pub Has-map : {A B : Type 0} (f : A → B) (xs : List A) (x : A) → Has xs x → Has (map f xs) (f x)
Has-map f [] x k = absurd k
Has-map f (y ∷ ys) x (inl same) = inl (ap f same)
Has-map f (y ∷ ys) x (inr there) = inr (Has-map f ys x there)

-- what a map has is the image of an element
pub map_has : {A B : Type 0} (f : A → B) (xs : List A) (y : B) → Has (map f xs) y → (x : A) × Has xs x × (y ≡ f x)
map_has f [] y k = absurd k
map_has f (x ∷ xs) y (inl same) = (x, inl refl, same)
map_has f (x ∷ xs) y (inr there) = let rest = map_has f xs y there in (rest.0, inr rest.1, rest.2)

-- a `flat_map` has what the list of one element has
pub Has-flat_map : {A B : Type 0} (f : A → List B) (xs : List A) (x : A) (y : B) → Has xs x → Has (f x) y → Has (flat_map f xs) y
Has-flat_map f [] x y k h = absurd k
Has-flat_map f (z ∷ zs) x y (inl same) h = Has-append_left (f z) (flat_map f zs) y (subst (λ v. Has (f v) y) same h)
Has-flat_map f (z ∷ zs) x y (inr there) h = Has-append_right (f z) (flat_map f zs) y (Has-flat_map f zs x y there h)

-- what a `flat_map` has is in the list of one element
pub flat_map_has : {A B : Type 0} (f : A → List B) (xs : List A) (y : B) → Has (flat_map f xs) y → (x : A) × Has xs x × Has (f x) y
flat_map_has f [] y k = absurd k
flat_map_has f (x ∷ xs) y k =
    elim (Has-append_cases (f x) (flat_map f xs) y k) [
      | inl here ↦ (x, inl refl, here)
      | inr there ↦ let rest = flat_map_has f xs y there in (rest.0, inr rest.1, rest.2)
    ]

-- a `filter_map` has what it makes of an element
pub Has-filter_map : {A B : Type 0} (f : A → Option B) (xs : List A) (x : A) (y : B) → Has xs x → f x ≡ Some y → Has (filter_map f xs) y
Has-filter_map f [] x y k h = absurd k
Has-filter_map f (z ∷ zs) x y (inl same) h =
    let at_z : f z ≡ Some y = subst (λ v. f v ≡ Some y) same h in rw at_z (inl refl)
Has-filter_map {B = B} f (z ∷ zs) x y (inr there) h = added (f z) (filter_map f zs) (Has-filter_map f zs x y there h)
  where
    added : (o : Option B) (ys : List B) → Has ys y → Has (cons_option o ys) y
    added None ys k = k
    added (Some w) ys k = inr k

-- what a `filter_map` has is made of an element
pub filter_map_has : {A B : Type 0} (f : A → Option B) (xs : List A) (y : B) → Has (filter_map f xs) y → (x : A) × Has xs x × (f x ≡ Some y)
filter_map_has f [] y k = absurd k
filter_map_has {B = B} f (x ∷ xs) y k =
    elim (cons_has (f x) (filter_map f xs) y k) [
      | inl e ↦ (x, inl refl, e)
      | inr there ↦ let rest = filter_map_has f xs y there in (rest.0, inr rest.1, rest.2)
    ]
  where
    cons_has : (o : Option B) (ys : List B) (y : B) → Has (cons_option o ys) y → (o ≡ Some y) ⊎ Has ys y
    cons_has None ys y k = inr k
    cons_has (Some w) ys y (inl same) = inl (ap Some (sym same))
    cons_has (Some w) ys y (inr there) = inr there

-- what `is_among` finds is there
pub is_among_has : (x : ℕ) (xs : List ℕ) → is_among x xs ≡ true → Has xs x
is_among_has x [] h = absurd (false≢true h)
is_among_has x (y ∷ ys) h =
    elim (or_cases (eqb x y) (is_among x ys) h) [ inl e ↦ inl (eqb-true x y e) | inr e ↦ inr (is_among_has x ys e) ]

-- `is_among` finds what is there
pub is_among_from : (x : ℕ) (xs : List ℕ) → Has xs x → is_among x xs ≡ true
is_among_from x [] k = absurd k
is_among_from x (y ∷ ys) (inl same) = or_left (eqb x y) (is_among x ys) (eq-eqb x y same)
is_among_from x (y ∷ ys) (inr there) = or_right (eqb x y) (is_among x ys) (is_among_from x ys there)

-- a term is at most the sum
pub le-sum_over : {A : Type 0} (f : A → ℕ) (xs : List A) (x : A) → Has xs x → f x ≤ sum_over f xs
le-sum_over f [] x k = absurd k
le-sum_over f (y ∷ ys) x (inl same) = rw same (omega arith)
le-sum_over f (y ∷ ys) x (inr there) = let rest : f x ≤ sum_over f ys = le-sum_over f ys x there in omega arith

-- equal terms have equal sums
pub sum_over_same : {A : Type 0} (f g : A → ℕ) (xs : List A) → ((x : A) → Has xs x → f x ≡ g x) → sum_over f xs ≡ sum_over g xs
sum_over_same f g [] h = refl
sum_over_same f g (y ∷ ys) h =
    let one : f y ≡ g y = h y (inl refl) in
    let rest : sum_over f ys ≡ sum_over g ys = sum_over_same f g ys (λ x k. h x (inr k)) in
    omega arith

-- the sum over two lists joined
pub sum_over-append : {A : Type 0} (f : A → ℕ) (xs ys : List A) → sum_over f (xs ++ ys) ≡ sum_over f xs + sum_over f ys
sum_over-append f [] ys = omega arith
sum_over-append f (z ∷ zs) ys = let rest : sum_over f (zs ++ ys) ≡ sum_over f zs + sum_over f ys = sum_over-append f zs ys in omega arith

-- the sum over the numbers below suc n
pub sum_over-upto : (f : ℕ → ℕ) (n : ℕ) → sum_over f (upto (suc n)) ≡ sum_over f (upto n) + f n
sum_over-upto f n = let both : sum_over f (upto n ++ n ∷ []) ≡ sum_over f (upto n) + sum_over f (n ∷ []) = sum_over-append f (upto n) (n ∷ []) in omega arith

-- how many numbers below n pass, as a filter and as a count
pub length-filter-upto : (test : ℕ → Bool) (n : ℕ) → length (filter test (upto n)) ≡ count_below test n
length-filter-upto test zero = refl
length-filter-upto test (suc n) =
    let rest : length (filter test (upto n)) ≡ count_below test n = length-filter-upto test n in
    elim (cases_Bool (test n)) [
      | inl e ↦ rw (filter-append test (upto n) (n ∷ []), length-append (filter test (upto n)) (filter test (n ∷ [])), e) (omega arith)
      | inr e ↦ rw (filter-append test (upto n) (n ∷ []), length-append (filter test (upto n)) (filter test (n ∷ [])), e) (omega arith)
    ]

-- `upto n` has n numbers
pub length-upto : (n : ℕ) → length (upto n) ≡ n
length-upto zero = refl
length-upto (suc n) = rw (length-append (upto n) (n ∷ []), length-upto n) (omega arith)

-- at most n numbers below n pass
pub length-filter-upto-le : (test : ℕ → Bool) (n : ℕ) → length (filter test (upto n)) ≤ n
length-filter-upto-le test n =
    let kept : length (filter test (upto n)) ≡ count_by test (upto n) = length-filter test (upto n) in
    let most : count_by test (upto n) ≤ length (upto n) = count_by-le-length test (upto n) in
    let all : length (upto n) ≡ n = length-upto n in
    omega arith

-- larger terms have a larger sum
pub sum_over-le : {A : Type 0} (f g : A → ℕ) (xs : List A) → ((x : A) → f x ≤ g x) → sum_over f xs ≤ sum_over g xs
sum_over-le f g [] h = omega arith
sum_over-le f g (y ∷ ys) h =
    let one : f y ≤ g y = h y in
    let rest : sum_over f ys ≤ sum_over g ys = sum_over-le f g ys h in
    omega arith

-- one element more before two filtered lists
length-cond-le : {A : Type 0} (s t : Bool) (y : A) (xs ys : List A) → (s ≡ true → t ≡ true) → length xs ≤ length ys → length (cond s (y ∷ xs) xs) ≤ length (cond t (y ∷ ys) ys)
length-cond-le true true y xs ys w h = omega arith
length-cond-le true false y xs ys w h = absurd (false≢true (w refl))
length-cond-le false true y xs ys w h = omega arith
length-cond-le false false y xs ys w h = h

-- a filter by a weaker test is no shorter
pub length-filter-le : {A : Type 0} (p q : A → Bool) (xs : List A) → ((x : A) → p x ≡ true → q x ≡ true) → length (filter p xs) ≤ length (filter q xs)
length-filter-le p q [] h = omega arith
length-filter-le p q (y ∷ ys) h =
    length-cond-le (p y) (q y) y (filter p ys) (filter q ys) (h y) (length-filter-le p q ys h)

-- the same where the test is weaker at the elements alone
pub length-filter-le_in : {A : Type 0} (p q : A → Bool) (xs : List A) → ((x : A) → Has xs x → p x ≡ true → q x ≡ true) → length (filter p xs) ≤ length (filter q xs)
length-filter-le_in p q [] h = omega arith
length-filter-le_in p q (y ∷ ys) h =
    length-cond-le (p y) (q y) y (filter p ys) (filter q ys) (h y (inl refl)) (length-filter-le_in p q ys (λ x k. h x (inr k)))

-- one element more before two filtered lists, the second longer
length-cond-lt : {A : Type 0} (s t : Bool) (y : A) (xs ys : List A) → (s ≡ true → t ≡ true) → length xs < length ys → length (cond s (y ∷ xs) xs) < length (cond t (y ∷ ys) ys)
length-cond-lt true true y xs ys w h = omega arith
length-cond-lt true false y xs ys w h = absurd (false≢true (w refl))
length-cond-lt false true y xs ys w h = omega arith
length-cond-lt false false y xs ys w h = h

-- a filter by a weaker test that passes one element more is longer
pub length-filter-lt : {A : Type 0} (p q : A → Bool) (xs : List A) (x : A) → ((y : A) → p y ≡ true → q y ≡ true) → Has xs x → p x ≡ false → q x ≡ true → length (filter p xs) < length (filter q xs)
length-filter-lt p q [] x h k out into = absurd k
length-filter-lt p q (y ∷ ys) x h (inl same) out into =
    let p_y : p y ≡ false = subst (λ z. p z ≡ false) same out in
    let q_y : q y ≡ true = subst (λ z. q z ≡ true) same into in
    let rest : length (filter p ys) ≤ length (filter q ys) = length-filter-le p q ys h in
    rw (p_y, q_y) (omega arith)
length-filter-lt p q (y ∷ ys) x h (inr there) out into =
    length-cond-lt (p y) (q y) y (filter p ys) (filter q ys) (h y) (length-filter-lt p q ys x h there out into)
