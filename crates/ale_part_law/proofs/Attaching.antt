-- What was cut off is added again: where the visible nodes of a structure go into another one, all of it goes into an
-- extension. All other nodes are put behind, and one that another node covers is dropped for that one, until none is.
use Rattle.std.proofs.Common.{◌≡◌, ◌≢◌, ℕ, zero, suc, ◌-◌, ◌<◌, ◌≤◌, Bool, true, false, eqb, ltb, ◌⊎◌, inl, inr, refl, sym, ap, ◌∙◌, arith, Some, if◌then◌else◌}
use Rattle.std.proofs.lemmas.Bool.{cases_lt, cases_eq, lt-ltb, le-ltb, eq-eqb, ne_eqb}
use Rattle.ale_declared.specs.Lists.{Has}
use Rattle.ale_hierarchy.specs.Hierarchy.{Hierarchy, Above}
use Rattle.ale_graph.specs.Structures.{Structure, count, type_of, value_of}
use Rattle.ale_graph.specs.Morphisms.{IsMorphismAside}
use Rattle.ale_graph.specs.Extensions.{Extends}

-- the nodes of g that are seen go into s
pub record Glued (h : Hierarchy) (g s : Structure) (seen : ℕ → Bool) (to : ℕ → ℕ) : Type 0 where
  pub closed : (n f m : ℕ) → n < count g → seen n ≡ true → value_of g n f ≡ Some m → seen m ≡ true
  pub into : (n : ℕ) → n < count g → seen n ≡ true → to n < count s
  pub types : (n : ℕ) → n < count g → seen n ≡ true → Above h (type_of g n) (type_of s (to n))
  pub values : (n f m : ℕ) → n < count g → seen n ≡ true → value_of g n f ≡ Some m → value_of s (to n) f ≡ Some (to m)
  pub pairs : (a b : ℕ) → Has g.differ (a, b) → (seen a ≡ true) × (seen b ≡ true) × (to a ≢ to b)
  pub low : (a b : ℕ) → Has g.differ (a, b) → (a < count g) × (b < count g)

-- all of g goes into an extension of s
pub record Attached (h : Hierarchy) (g s : Structure) (seen : ℕ → Bool) (to : ℕ → ℕ) : Type 0 where
  pub larger : Structure
  pub extends : Extends h s larger
  pub map_to : ℕ → ℕ
  pub is : IsMorphismAside h g larger map_to
  pub agrees : (n : ℕ) → n < count g → seen n ≡ true → map_to n ≡ to n
  pub added : (n : ℕ) → count s ≤ n → n < count larger → (m : ℕ) × (m < count g) × (map_to m ≡ n) × (type_of larger n ≡ type_of g m)

-- a test of pairs of numbers below n, with one that passes, or none
pub data Pairs (test : ℕ → ℕ → Bool) (n m : ℕ) : Type 0 where
  found : (u x : ℕ) → u < n → x < m → test u x ≡ true → Pairs test n m
  none : ((u x : ℕ) → u < n → x < m → test u x ≡ false) → Pairs test n m

row : (test : ℕ → ℕ → Bool) (u m : ℕ) → ((x : ℕ) × (x < m) × (test u x ≡ true)) ⊎ ((x : ℕ) → x < m → test u x ≡ false)
row test u zero = inr (λ x low. absurd (omega arith))
row test u (suc m) = go (row test u m) (test u m) refl
  where
    last : ((x : ℕ) → x < m → test u x ≡ false) → test u m ≡ false → (x : ℕ) → x < suc m → (x ≡ m) ⊎ (x ≡ m → ⊥) → test u x ≡ false
    last all e x low (inl is) = ap (test u) is ∙ e
    last all e x low (inr other) = all x (omega (arith, ne x m other low))
      where
        ne : (x m : ℕ) → (x ≡ m → ⊥) → x < suc m → x < m
        ne x m other low = elim (cases_lt x m) [ inl l ↦ l | inr r ↦ absurd (other (omega arith)) ]

    go : ((x : ℕ) × (x < m) × (test u x ≡ true)) ⊎ ((x : ℕ) → x < m → test u x ≡ false) → (b : Bool) → test u m ≡ b → ((x : ℕ) × (x < suc m) × (test u x ≡ true)) ⊎ ((x : ℕ) → x < suc m → test u x ≡ false)
    go (inl (x, low, e)) b is = inl (x, omega arith, e)
    go (inr all) true is = inl (m, omega arith, is)
    go (inr all) false is = inr (λ x low. last all is x low (cases_eq x m))

pub pairs : (test : ℕ → ℕ → Bool) (n m : ℕ) → Pairs test n m
pairs test zero m = none (λ u x low far. absurd (omega arith))
pairs test (suc n) m = go (pairs test n m) (row test n m)
  where
    go : Pairs test n m → ((x : ℕ) × (x < m) × (test n x ≡ true)) ⊎ ((x : ℕ) → x < m → test n x ≡ false) → Pairs test (suc n) m
    go (found u x low far e) r = found u x (omega arith) far e
    go (none all) (inl (x, far, e)) = found n x (omega arith) far e
    go (none all) (inr new) = none (λ u x low far. last u x low far (cases_lt u n))
      where
        last : (u x : ℕ) → u < suc n → x < m → (u < n) ⊎ (n ≤ u) → test u x ≡ false
        last u x low far (inl l) = all u x l far
        last u x low far (inr r) = let is : u ≡ n = omega arith in ap (λ z. test z x) is ∙ new x far

-- Numbers without u, where x stands for it.
module _ (u x : ℕ) (other : u ≡ x → ⊥) where
  abbrev pub lower : ℕ → ℕ
  lower k = if ltb k u then k else k - 1

  abbrev pub moved_to : ℕ → ℕ
  moved_to k = if eqb k u then lower x else lower k

  abbrev pub old_of : ℕ → ℕ
  old_of k = if ltb k u then k else suc k

  lower_low : (k : ℕ) → k < u → lower k ≡ k
  lower_low k low = go (ltb k u) (lt-ltb k u low)
    where
      go : (b : Bool) → b ≡ true → (if b then k else k - 1) ≡ k
      go true e = refl
      go false e = absurd cc

  lower_high : (k : ℕ) → u ≤ k → lower k ≡ k - 1
  lower_high k high = go (ltb k u) (le-ltb k u high)
    where
      go : (b : Bool) → b ≡ false → (if b then k else k - 1) ≡ k - 1
      go false e = refl
      go true e = absurd cc

  pub old_low : (k : ℕ) → k < u → old_of k ≡ k
  old_low k low = go (ltb k u) (lt-ltb k u low)
    where
      go : (b : Bool) → b ≡ true → (if b then k else suc k) ≡ k
      go true e = refl
      go false e = absurd cc

  pub old_high : (k : ℕ) → u ≤ k → old_of k ≡ suc k
  old_high k high = go (ltb k u) (le-ltb k u high)
    where
      go : (b : Bool) → b ≡ false → (if b then k else suc k) ≡ suc k
      go false e = refl
      go true e = absurd cc

  pub moved_other : (k : ℕ) → (k ≡ u → ⊥) → moved_to k ≡ lower k
  moved_other k ne = go (eqb k u) (ne_eqb k u ne)
    where
      go : (b : Bool) → b ≡ false → (if b then lower x else lower k) ≡ lower k
      go false e = refl
      go true e = absurd cc

  pub moved_self : (k : ℕ) → k ≡ u → moved_to k ≡ lower x
  moved_self k is = go (eqb k u) (eq-eqb k u is)
    where
      go : (b : Bool) → b ≡ true → (if b then lower x else lower k) ≡ lower x
      go true e = refl
      go false e = absurd cc

  pub moved_low : (k : ℕ) → k < u → moved_to k ≡ k
  moved_low k low = moved_other k (λ e. absurd (omega arith)) ∙ lower_low k low

  pub moved_old : (k : ℕ) → moved_to (old_of k) ≡ k
  moved_old k = go (cases_lt k u)
    where
      go : (k < u) ⊎ (u ≤ k) → moved_to (old_of k) ≡ k
      go (inl low) = ap moved_to (old_low k low) ∙ moved_low k low
      go (inr high) = ap moved_to (old_high k high) ∙ moved_other (suc k) (λ e. absurd (omega arith)) ∙ lower_high (suc k) (omega arith) ∙ omega arith

  pub old_lower : (k : ℕ) → (k ≡ u → ⊥) → old_of (lower k) ≡ k
  old_lower k ne = go (cases_lt k u)
    where
      go : (k < u) ⊎ (u ≤ k) → old_of (lower k) ≡ k
      go (inl low) = ap old_of (lower_low k low) ∙ old_low k low
      go (inr high) =
          let above : u < k = strict k high ne in
          let is : lower k ≡ k - 1 = lower_high k high in
          ap old_of is ∙ old_high (k - 1) (omega arith) ∙ omega arith
        where
          strict : (k : ℕ) → u ≤ k → (k ≡ u → ⊥) → u < k
          strict k high ne = elim (cases_lt u k) [ inl l ↦ l | inr r ↦ absurd (ne (omega arith)) ]

  lower_inside : (n k : ℕ) → u < n → k < n → (k ≡ u → ⊥) → suc (lower k) ≤ n - 1
  lower_inside n k low inside ne = go (cases_lt k u)
    where
      go : (k < u) ⊎ (u ≤ k) → suc (lower k) ≤ n - 1
      go (inl l) = let is = lower_low k l in omega arith
      go (inr high) =
          let above : u < k = strict k high ne in
          let is = lower_high k high in
          omega arith
        where
          strict : (k : ℕ) → u ≤ k → (k ≡ u → ⊥) → u < k
          strict k high ne = elim (cases_lt u k) [ inl l ↦ l | inr r ↦ absurd (ne (omega arith)) ]

  pub moved_inside : (n k : ℕ) → u < n → x < n → k < n → suc (moved_to k) ≤ n - 1
  moved_inside n k low far inside = go (cases_eq k u)
    where
      go : (k ≡ u) ⊎ (k ≡ u → ⊥) → suc (moved_to k) ≤ n - 1
      go (inl is) = let e = moved_self k is in let l = lower_inside n x low far (λ q. other (sym q)) in omega arith
      go (inr ne) = let e = moved_other k ne in let l = lower_inside n k low inside ne in omega arith
