-- The first answer that the numbers below a bound give, and the first of several answers.
use Rattle.std.proofs.Common.{◌≡◌, sym, ap, ◌∙◌, subst, refl, ℕ, zero, suc, ◌<◌, Bool, true, false, Option, Some, None, List, [], ◌∷◌, ◌++◌, inl, inr, arith}
use Rattle.std.specs.Prelude.{◌⊎◌}
use Rattle.std.specs.Option.{option_or}
use Rattle.ale_declared.specs.Lists.{upto}
use Rattle.ale_hierarchy.specs.Faults.{when, first_answer}
use Rattle.ale_hierarchy.specs.Refusals.{IsBefore}
use Rattle.ale_declared.proofs.ListLemmas.{less_or_last}

pub or_assoc : {B : Type 0} (o p q : Option B) → option_or o (option_or p q) ≡ option_or (option_or o p) q
or_assoc None p q = refl
or_assoc (Some x) p q = refl

pub or_none : {B : Type 0} (o : Option B) → option_or o None ≡ o
or_none None = refl
or_none (Some x) = refl

-- what is found by one or the other is found by one of them
pub or_found : {B : Type 0} (o p : Option B) (y : B) → option_or o p ≡ Some y → (o ≡ Some y) ⊎ ((o ≡ None) × (p ≡ Some y))
or_found None p y h = inr (refl, h)
or_found (Some x) p y h = inl h

pub or_nothing : {B : Type 0} (o p : Option B) → option_or o p ≡ None → (o ≡ None) × (p ≡ None)
or_nothing None p h = (refl, h)
or_nothing (Some x) p h = absurd cc

-- after nothing, the rest is what is found
pub or_after : {B : Type 0} (o p : Option B) → o ≡ None → option_or o p ≡ p
or_after o p e = rw e refl

pub or_first : {B : Type 0} (o p : Option B) (y : B) → o ≡ Some y → option_or o p ≡ Some y
or_first o p y e = rw e refl

pub when_found : {B : Type 0} (b : Bool) (x y : B) → when b x ≡ Some y → (b ≡ true) × (x ≡ y)
when_found true x y h = (refl, some_same x y h)
  where
    some_same : {B : Type 0} (x y : B) → Some x ≡ Some y → x ≡ y
    some_same x y h = cc
when_found false x y h = absurd cc

pub when_nothing : {B : Type 0} (b : Bool) (x : B) → when b x ≡ None → b ≡ false
when_nothing true x h = absurd cc
when_nothing false x h = refl

pub when_true : {B : Type 0} (b : Bool) (x : B) → b ≡ true → when b x ≡ Some x
when_true b x e = rw e refl

pub when_false : {B : Type 0} (b : Bool) (x : B) → b ≡ false → when b x ≡ None
when_false b x e = rw e refl

first_answer-append : {B : Type 0} (f : ℕ → Option B) (xs ys : List ℕ) → first_answer f (xs ++ ys) ≡ option_or (first_answer f xs) (first_answer f ys)
first_answer-append f [] ys = refl
first_answer-append f (x ∷ xs) ys = ap (option_or (f x)) (first_answer-append f xs ys) ∙ or_assoc (f x) (first_answer f xs) (first_answer f ys)

pub first_answer-suc : {B : Type 0} (f : ℕ → Option B) (n : ℕ) → first_answer f (upto (suc n)) ≡ option_or (first_answer f (upto n)) (f n)
first_answer-suc f n = first_answer-append f (upto n) (n ∷ []) ∙ ap (option_or (first_answer f (upto n))) (or_none (f n))

-- no number below the bound answers
pub answer_none : {B : Type 0} (f : ℕ → Option B) (n : ℕ) → ((i : ℕ) → i < n → f i ≡ None) → first_answer f (upto n) ≡ None
answer_none f zero none = refl
answer_none f (suc n) none =
    first_answer-suc f n ∙ or_after (first_answer f (upto n)) (f n) (answer_none f n (λ i h. none i (omega arith))) ∙ none n (omega arith)

-- the least number that answers gives the first answer
pub answer_some : {B : Type 0} (f : ℕ → Option B) (n k : ℕ) (y : B) → k < n → f k ≡ Some y → ((i : ℕ) → i < k → f i ≡ None) → first_answer f (upto n) ≡ Some y
answer_some f zero k y below is none = absurd (omega arith)
answer_some f (suc n) k y below is none =
    elim (less_or_last n k below) [
      | inl less ↦ first_answer-suc f n ∙ or_first (first_answer f (upto n)) (f n) y (answer_some f n k y less is none)
      | inr same ↦
          first_answer-suc f n
          ∙ or_after (first_answer f (upto n)) (f n) (answer_none f n (λ i h. none i (subst (λ z. i < z) (sym same) h)))
          ∙ subst (λ z. f z ≡ Some y) same is
    ]

pub answer_none_at : {B : Type 0} (f : ℕ → Option B) (n k : ℕ) → first_answer f (upto n) ≡ None → k < n → f k ≡ None
answer_none_at f zero k h below = absurd (omega arith)
answer_none_at f (suc n) k h below =
    let parts = or_nothing (first_answer f (upto n)) (f n) (sym (first_answer-suc f n) ∙ h) in
    elim (less_or_last n k below) [
      | inl less ↦ answer_none_at f n k parts.0 less
      | inr same ↦ subst (λ z. f z ≡ None) (sym same) parts.1
    ]

-- a number that gives the first answer, and none before it answers
pub record GivesFirst {B : Type 0} (f : ℕ → Option B) (n : ℕ) (y : B) : Type 0 where
  pub number : ℕ
  pub below : number < n
  pub answer : f number ≡ Some y
  pub none_before : (i : ℕ) → i < number → f i ≡ None

pub answer_at : {B : Type 0} (f : ℕ → Option B) (n : ℕ) (y : B) → first_answer f (upto n) ≡ Some y → GivesFirst f n y
answer_at f zero y h = absurd cc
answer_at f (suc n) y h =
    elim (or_found (first_answer f (upto n)) (f n) y (sym (first_answer-suc f n) ∙ h)) [
      | inl found ↦
          let g = answer_at f n y found in
          let low = g.below in
          record { number = g.number; below = omega arith; answer = g.answer; none_before = g.none_before }
      | inr last ↦ record { number = n; below = omega arith; answer = last.1; none_before = λ i h. answer_none_at f n i last.0 h }
    ]

-- ---- of a test

pub test_clear : {B : Type 0} (test : ℕ → Bool) (make : ℕ → B) (n : ℕ) → ((i : ℕ) → i < n → test i ≡ false) → first_answer (λ t. when (test t) (make t)) (upto n) ≡ None
test_clear test make n none = answer_none (λ t. when (test t) (make t)) n (λ i h. when_false (test i) (make i) (none i h))

pub test_first : {B : Type 0} (test : ℕ → Bool) (make : ℕ → B) (n k : ℕ) → k < n → test k ≡ true → ((i : ℕ) → i < k → test i ≡ false) → first_answer (λ t. when (test t) (make t)) (upto n) ≡ Some (make k)
test_first test make n k below is none =
    answer_some (λ t. when (test t) (make t)) n k (make k) below (when_true (test k) (make k) is) (λ i h. when_false (test i) (make i) (none i h))

pub test_none_at : {B : Type 0} (test : ℕ → Bool) (make : ℕ → B) (n k : ℕ) → first_answer (λ t. when (test t) (make t)) (upto n) ≡ None → k < n → test k ≡ false
test_none_at test make n k h below = when_nothing (test k) (make k) (answer_none_at (λ t. when (test t) (make t)) n k h below)

-- the first number that passes, and what is made of it
pub record PassesFirst {B : Type 0} (test : ℕ → Bool) (make : ℕ → B) (n : ℕ) (y : B) : Type 0 where
  pub number : ℕ
  pub below : number < n
  pub passes : test number ≡ true
  pub none_before : (i : ℕ) → i < number → test i ≡ false
  pub made : make number ≡ y

pub test_at : {B : Type 0} (test : ℕ → Bool) (make : ℕ → B) (n : ℕ) (y : B) → first_answer (λ t. when (test t) (make t)) (upto n) ≡ Some y → PassesFirst test make n y
test_at test make n y h =
    let g = answer_at (λ t. when (test t) (make t)) n y h in
    let is = when_found (test g.number) (make g.number) y g.answer in
    record {
      number = g.number;
      below = g.below;
      passes = is.0;
      none_before = λ i k. when_nothing (test i) (make i) (g.none_before i k);
      made = is.1;
    }

-- ---- of a test of pairs

abbrev pub first_pair : {B : Type 0} → (ℕ → ℕ → Bool) → (ℕ → ℕ → B) → ℕ → ℕ → Option B
first_pair test make n m = first_answer (λ a. first_answer (λ b. when (test a b) (make a b)) (upto m)) (upto n)

pub pairs_clear : {B : Type 0} (test : ℕ → ℕ → Bool) (make : ℕ → ℕ → B) (n m : ℕ) → ((a b : ℕ) → a < n → b < m → test a b ≡ false) → first_pair test make n m ≡ None
pairs_clear test make n m none =
    answer_none (λ a. first_answer (λ b. when (test a b) (make a b)) (upto m)) n (λ a p. test_clear (λ b. test a b) (λ b. make a b) m (λ b q. none a b p q))

pub pairs_none_at : {B : Type 0} (test : ℕ → ℕ → Bool) (make : ℕ → ℕ → B) (n m a b : ℕ) → first_pair test make n m ≡ None → a < n → b < m → test a b ≡ false
pairs_none_at test make n m a b h p q =
    test_none_at (λ b. test a b) (λ b. make a b) m b (answer_none_at (λ a. first_answer (λ b. when (test a b) (make a b)) (upto m)) n a h p) q

pub pairs_first : {B : Type 0} (test : ℕ → ℕ → Bool) (make : ℕ → ℕ → B) (n m a b : ℕ) → a < n → b < m → test a b ≡ true → ((x y : ℕ) → x < n → y < m → IsBefore x y a b → test x y ≡ false) → first_pair test make n m ≡ Some (make a b)
pairs_first test make n m a b p q is none =
    answer_some (λ a. first_answer (λ b. when (test a b) (make a b)) (upto m)) n a (make a b) p
    (test_first (λ b. test a b) (λ b. make a b) m b q is (λ y h. none a y p (omega arith) (inr (refl, h))))
    (λ x h. test_clear (λ b. test x b) (λ b. make x b) m (λ y k. none x y (omega arith) k (inl h)))

-- the first pair that passes, and what is made of it
pub record PairPasses {B : Type 0} (test : ℕ → ℕ → Bool) (make : ℕ → ℕ → B) (n m : ℕ) (y : B) : Type 0 where
  pub one : ℕ
  pub other : ℕ
  pub one_below : one < n
  pub other_below : other < m
  pub passes : test one other ≡ true
  pub none_before : (u v : ℕ) → v < m → IsBefore u v one other → test u v ≡ false
  pub made : make one other ≡ y

pub pairs_at : {B : Type 0} (test : ℕ → ℕ → Bool) (make : ℕ → ℕ → B) (n m : ℕ) (y : B) → first_pair test make n m ≡ Some y → PairPasses test make n m y
pairs_at test make n m y h =
    let g = answer_at (λ a. first_answer (λ b. when (test a b) (make a b)) (upto m)) n y h in
    let k = test_at (λ b. test g.number b) (λ b. make g.number b) m y g.answer in
    record {
      one = g.number;
      other = k.number;
      one_below = g.below;
      other_below = k.below;
      passes = k.passes;
      none_before = λ u v inside before.
          elim before [
            | inl less ↦ test_none_at (λ b. test u b) (λ b. make u b) m v (g.none_before u less) inside
            | inr same ↦ subst (λ z. test z v ≡ false) (sym same.0) (k.none_before v same.1)
          ];
      made = k.made;
    }
