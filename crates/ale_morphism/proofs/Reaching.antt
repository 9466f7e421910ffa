-- What is visible of a structure: reaching adds nodes until nothing changes, so that values of visible nodes
-- are visible.
use Rattle.std.proofs.Common.{◌≡◌, ℕ, zero, suc, ◌+◌, ◌<◌, ◌≤◌, Bool, true, false, ◌&&◌, ◌||◌, List, [], ◌∷◌, length, ◌⊎◌, inl, inr, refl, sym, ap, ◌∙◌, subst, arith}
use Rattle.std.proofs.lemmas.Bool.{and_from}
use Rattle.ale_declared.specs.Lists.{Has, upto, every, sum_over}
use Rattle.ale_graph.specs.Structures.{Structure, count}
use Rattle.ale_morphism.specs.Visible.{some, is_value_of, is_reached, is_visible}
use Rattle.ale_graph.proofs.Lists.{has_upto, below_upto, length_upto, every_has, sum_drop}

or_left : (a b : Bool) → a ≡ true → (a || b) ≡ true
or_left a b e = subst (λ z. (z || b) ≡ true) (sym e) refl

or_right : (a b : Bool) → b ≡ true → (a || b) ≡ true
or_right true b e = refl
or_right false b e = e

or_same : (a b : Bool) → ((a || b) || b) ≡ (a || b)
or_same true b = refl
or_same false true = refl
or_same false false = refl

some_same : {A : Type 0} (f g : A → Bool) (xs : List A) → ((x : A) → Has xs x → f x ≡ g x) → some f xs ≡ some g xs
some_same f g [] all = refl
some_same f g (x ∷ xs) all =
    let first = all x (inl refl) in
    let rest = some_same f g xs (λ y p. all y (inr p)) in
    λ i. first i || rest i

pub some_from : {A : Type 0} (f : A → Bool) (xs : List A) (x : A) → Has xs x → f x ≡ true → some f xs ≡ true
some_from f [] x h e = absurd h
some_from f (y ∷ xs) x (inl q) e = or_left (f y) (some f xs) (ap f (sym q) ∙ e)
some_from f (y ∷ xs) x (inr h) e = or_right (f y) (some f xs) (some_from f xs x h e)

-- a test that not all pass fails somewhere
every_not : (test : ℕ → Bool) (xs : List ℕ) → every test xs ≡ false → (x : ℕ) × Has xs x × (test x ≡ false)
every_not test [] e = let bad : true ≡ false = e in absurd cc
every_not test (y ∷ xs) e = go (every_not test xs) (test y) refl e
  where
    go : (every test xs ≡ false → (x : ℕ) × Has xs x × (test x ≡ false)) → (t : Bool) → test y ≡ t → (t && every test xs) ≡ false → (x : ℕ) × Has (y ∷ xs) x × (test x ≡ false)
    go ih false is e = (y, inl refl, is)
    go ih true is e = let r = ih e in (r.0, inr r.1, r.2)

same_test : Bool → Bool → Bool
same_test true true = true
same_test true false = false
same_test false true = false
same_test false false = true

same_test_true : (a b : Bool) → same_test a b ≡ true → a ≡ b
unfolding same_test
same_test_true true true e = refl
same_test_true true false e = let bad : true ≡ false = sym e in absurd cc
same_test_true false true e = let bad : true ≡ false = sym e in absurd cc
same_test_true false false e = refl

module _ (s : Structure) where
  -- the next round reaches nothing more
  abbrev pub IsStable : ℕ → Type 0
  IsStable k = (n : ℕ) → n < count s → is_reached s (suc k) n ≡ is_reached s k n

  by_values : ℕ → ℕ → Bool
  by_values k n = some (λ m. is_reached s k m && is_value_of s n m) (upto (count s))

  pub stays : (k : ℕ) → IsStable k → IsStable (suc k)
  stays k same n lt =
      let e : some (λ m. is_reached s (suc k) m && is_value_of s n m) (upto (count s)) ≡ some (λ m. is_reached s k m && is_value_of s n m) (upto (count s)) =
      some_same (λ m. is_reached s (suc k) m && is_value_of s n m) (λ m. is_reached s k m && is_value_of s n m) (upto (count s)) (λ m p. ap (λ z. z && is_value_of s n m) (same m (below_upto (count s) m p))) in
      ap (λ z. is_reached s (suc k) n || z) e ∙ or_same (is_reached s k n) (some (λ m. is_reached s k m && is_value_of s n m) (upto (count s)))

  pub grows : (k n : ℕ) → is_reached s k n ≡ true → is_reached s (suc k) n ≡ true
  grows k n e = or_left (is_reached s k n) (some (λ m. is_reached s k m && is_value_of s n m) (upto (count s))) e

  one_if : Bool → ℕ
  one_if true = 1
  one_if false = 0

  -- how many nodes a round reaches
  size : ℕ → ℕ
  size k = sum_over (λ n. one_if (is_reached s k n)) (upto (count s))

  sum_small : (f : ℕ → ℕ) (xs : List ℕ) → ((x : ℕ) → f x ≤ 1) → sum_over f xs ≤ length xs
  sum_small f [] small = omega arith
  sum_small f (x ∷ xs) small = let a = small x in let b = sum_small f xs small in omega arith

  one_small : (b : Bool) → one_if b ≤ 1
  unfolding one_if
  one_small true = omega arith
  one_small false = omega arith

  size_small : (k : ℕ) → size k ≤ count s
  unfolding size
  size_small k = let a = sum_small (λ n. one_if (is_reached s k n)) (upto (count s)) (λ n. one_small (is_reached s k n)) in let b = length_upto (count s) in omega arith

  one_le : (a b : Bool) → (a ≡ true → b ≡ true) → one_if a ≤ one_if b
  unfolding one_if
  one_le true b up = subst (λ z. 1 ≤ one_if z) (sym (up refl)) (omega arith)
  one_le false b up = omega arith

  one_more : (a b : Bool) → (a ≡ true → b ≡ true) → same_test b a ≡ false → one_if a + 1 ≤ one_if b
  unfolding one_if same_test
  one_more true true up e = let bad : true ≡ false = e in absurd cc
  one_more true false up e = let bad : false ≡ true = up refl in absurd cc
  one_more false true up e = omega arith
  one_more false false up e = let bad : true ≡ false = e in absurd cc

  round : (k : ℕ) → IsStable k ⊎ (size k < size (suc k))
  unfolding size
  round k = go (every (λ n. same_test (is_reached s (suc k) n) (is_reached s k n)) (upto (count s))) refl
    where
      go : (t : Bool) → every (λ n. same_test (is_reached s (suc k) n) (is_reached s k n)) (upto (count s)) ≡ t → IsStable k ⊎ (size k < size (suc k))
      go true e = inl (λ n lt. same_test_true (is_reached s (suc k) n) (is_reached s k n) (every_has (λ n. same_test (is_reached s (suc k) n) (is_reached s k n)) (upto (count s)) n e (has_upto (count s) n lt)))
      go false e =
          let r = every_not (λ n. same_test (is_reached s (suc k) n) (is_reached s k n)) (upto (count s)) e in
          let drop = sum_drop (λ n. one_if (is_reached s k n)) (λ n. one_if (is_reached s (suc k) n)) (upto (count s)) r.0 1 (λ n p. one_le (is_reached s k n) (is_reached s (suc k) n) (grows k n)) r.1 (one_more (is_reached s k r.0) (is_reached s (suc k) r.0) (grows k r.0) r.2) in
          inr (omega arith)

  rounds : (k : ℕ) → IsStable k ⊎ (suc k ≤ size (suc k))
  rounds zero = go (round zero)
    where
      go : IsStable zero ⊎ (size zero < size 1) → IsStable zero ⊎ (1 ≤ size 1)
      go (inl q) = inl q
      go (inr l) = inr (omega arith)
  rounds (suc k) = go (rounds k) (round (suc k))
    where
      go : IsStable k ⊎ (suc k ≤ size (suc k)) → IsStable (suc k) ⊎ (size (suc k) < size (suc (suc k))) → IsStable (suc k) ⊎ (suc (suc k) ≤ size (suc (suc k)))
      go (inl q) o = inl (stays k q)
      go (inr l) (inl q) = inl q
      go (inr l) (inr m) = inr (omega arith)

  -- after as many rounds as there are nodes nothing more is reached
  pub all_reached : IsStable (count s)
  all_reached = go (rounds (count s))
    where
      go : IsStable (count s) ⊎ (suc (count s) ≤ size (suc (count s))) → IsStable (count s)
      go (inl q) = q
      go (inr l) = let m = size_small (suc (count s)) in absurd (omega arith)

  -- a value of a visible node is visible
  pub value_visible : (n m : ℕ) → n < count s → m < count s → is_visible s m ≡ true → is_value_of s n m ≡ true → is_visible s n ≡ true
  value_visible n m ln lm e v =
      sym (all_reached n ln)
      ∙ or_right (is_reached s (count s) n) (some (λ m. is_reached s (count s) m && is_value_of s n m) (upto (count s)))
      (some_from (λ m. is_reached s (count s) m && is_value_of s n m) (upto (count s)) m (has_upto (count s) m lm) (and_from (is_reached s (count s) m) (is_value_of s n m) e v))
