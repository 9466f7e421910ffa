-- The two lowest-numbered of some types that no other of them is above: without one that is above them all there
-- are two at least, and the list of them in order begins with the lowest two.
use Rattle.std.proofs.Common.{◌≡◌, sym, ap, ◌∙◌, subst, refl, ℕ, zero, suc, ◌+◌, ◌<◌, Bool, true, false, None, List, [], ◌∷◌, ◌++◌, length, get_or, inl, inr, eqb, arith}
use Rattle.std.specs.Prelude.{◌⊎◌, ◌&&◌, ◌||◌, not}
use Rattle.std.specs.List.{filter}
use Rattle.std.proofs.lemmas.List.Elements.{filter-append}
use Rattle.std.proofs.lemmas.Bool.{cases_Bool, both_ways, and_parts, and_from, or_cases, or_left, or_right, not-true, not_from_false, true≢false, eqb-true, eq-eqb}
use Rattle.ale_declared.specs.Lists.{upto, first, every}
use Rattle.ale_declared.specs.Declarations.{Declared}
use Rattle.ale_declared.specs.Numbering.{IsWellNumbered}
use Rattle.ale_declared.proofs.ListLemmas.{less_or_last, upto_has, upto_below, Has-filter, filter_has, every_at, every_from, every_fails, first_none}
use Rattle.ale_hierarchy.specs.Order.{IsAbove, is_above, all_types, rank}
use Rattle.ale_hierarchy.specs.Faults.{no_higher, tops}
use Rattle.ale_hierarchy.specs.Refusals.{AreFirstTwo}
use Rattle.ale_hierarchy.proofs.PathLemmas.{HasNoCycle}
use Rattle.ale_hierarchy.proofs.OrderLemmas.{IsAbove-self, IsAbove-trans, is_above_to, is_above_from, rank-less, rank-le-types}

-- ---- numbers that pass a test, in order

-- a number below n that passes
pub record Passes (r : ℕ → Bool) (n k : ℕ) : Type 0 where
  pub below : k < n
  pub passes : r k ≡ true

-- what the list of those that pass begins with
data Counted (r : ℕ → Bool) (n : ℕ) : List ℕ → Type 0 where
  nothing : ((k : ℕ) → Passes r n k → ⊥) → Counted r n []
  single : (a : ℕ) → Passes r n a → ((k : ℕ) → Passes r n k → k ≡ a) → Counted r n (a ∷ [])
  several : (a b : ℕ) (rest : List ℕ) → AreFirstTwo (Passes r n) a b → Counted r n (a ∷ b ∷ rest)

-- a number that passes below n + 1 is n, or passes below n
older : (r : ℕ → Bool) (n k : ℕ) → Passes r (suc n) k → Passes r n k ⊎ (k ≡ n)
older r n k p =
    elim (less_or_last n k p.below) [
      | inl less ↦ inl (record { below = less; passes = p.passes })
      | inr same ↦ inr same
    ]

newer : (r : ℕ → Bool) (n k : ℕ) → Passes r n k → Passes r (suc n) k
newer r n k p = let low = p.below in record { below = omega arith; passes = p.passes }

-- the number n fails
older_of : (r : ℕ → Bool) (n k : ℕ) → r n ≡ false → Passes r (suc n) k → Passes r n k
older_of r n k e p =
    elim (older r n k p) [
      | inl less ↦ less
      | inr same ↦ absurd (both_ways (r n) e (subst (λ z. r z ≡ true) same p.passes))
    ]

fails : (r : ℕ → Bool) (n : ℕ) (xs : List ℕ) → r n ≡ false → Counted r n xs → Counted r (suc n) (xs ++ [])
fails r n _ e (nothing none) = nothing (λ k p. none k (older_of r n k e p))
fails r n _ e (single a is only) = single a (newer r n a is) (λ k p. only k (older_of r n k e p))
fails r n _ e (several a b rest two) = several a b (rest ++ []) (record {
  one = newer r n a two.one;
  other = newer r n b two.other;
  less = two.less;
  no_more = λ x less p. two.no_more x less (older_of r n x e p);
})

passes_too : (r : ℕ → Bool) (n : ℕ) (xs : List ℕ) → r n ≡ true → Counted r n xs → Counted r (suc n) (xs ++ n ∷ [])
passes_too r n _ e (nothing none) =
    single n (record { below = omega arith; passes = e }) (λ k p.
    elim (older r n k p) [ inl less ↦ absurd (none k less) | inr same ↦ same ])
passes_too r n _ e (single a is only) =
    let low = is.below in
    several a n [] (record {
      one = newer r n a is;
      other = record { below = omega arith; passes = e };
      less = is.below;
      no_more = λ x less p. only x (record { below = less; passes = p.passes });
    })
passes_too r n _ e (several a b rest two) =
    let low = two.other.below in
    several a b (rest ++ n ∷ []) (record {
      one = newer r n a two.one;
      other = newer r n b two.other;
      less = two.less;
      no_more = λ x less p. two.no_more x less (record { below = omega arith; passes = p.passes });
    })

counted : (r : ℕ → Bool) (n : ℕ) → Counted r n (filter r (upto n))
counted r zero = nothing (λ k p. let low = p.below in absurd (omega arith))
counted r (suc n) =
    elim (cases_Bool (r n)) [
      | inl e ↦ subst (λ xs. Counted r (suc n) xs) (sym (filter-append r (upto n) (n ∷ []) ∙ ap (λ xs. filter r (upto n) ++ xs) (kept r n e))) (passes_too r n (filter r (upto n)) e (counted r n))
      | inr e ↦ subst (λ xs. Counted r (suc n) xs) (sym (filter-append r (upto n) (n ∷ []) ∙ ap (λ xs. filter r (upto n) ++ xs) (dropped r n e))) (fails r n (filter r (upto n)) e (counted r n))
    ]
  where
    kept : (r : ℕ → Bool) (n : ℕ) → r n ≡ true → filter r (n ∷ []) ≡ n ∷ []
    kept r n e = rw e refl

    dropped : (r : ℕ → Bool) (n : ℕ) → r n ≡ false → filter r (n ∷ []) ≡ []
    dropped r n e = rw e refl

two_of : (r : ℕ → Bool) (n x y : ℕ) (xs : List ℕ) → Passes r n x → Passes r n y → (x ≡ y → ⊥) → Counted r n xs → AreFirstTwo (Passes r n) (get_or xs 0 0) (get_or xs 1 0)
two_of r n x y _ p q apart (nothing none) = absurd (none x p)
two_of r n x y _ p q apart (single a is only) = absurd (apart (only x p ∙ sym (only y q)))
two_of r n x y _ p q apart (several a b rest two) = two

-- where two numbers pass, the list begins with the lowest two
pub first_two : (r : ℕ → Bool) (n x y : ℕ) → Passes r n x → Passes r n y → (x ≡ y → ⊥) → AreFirstTwo (Passes r n) (get_or (filter r (upto n)) 0 0) (get_or (filter r (upto n)) 1 0)
first_two r n x y p q apart = two_of r n x y (filter r (upto n)) p q apart (counted r n)

-- the same of whatever is equivalent to passing
pub AreFirstTwo-as : (P Q : ℕ → Type 0) (a b : ℕ) → ((x : ℕ) → P x → Q x) → ((x : ℕ) → Q x → P x) → AreFirstTwo P a b → AreFirstTwo Q a b
AreFirstTwo-as P Q a b to from two = record {
  one = to a two.one;
  other = to b two.other;
  less = two.less;
  no_more = λ x less q. two.no_more x less (from x q);
}

-- there are no two pairs of lowest numbers
pub AreFirstTwo-one : (P : ℕ → Type 0) (a b x y : ℕ) → AreFirstTwo P a b → AreFirstTwo P x y → (a ≡ x) × (b ≡ y)
AreFirstTwo-one P a b x y two too =
    let less = two.less in
    let low = too.less in
    elim (order b y) [
      | inl below ↦
          let same_a = too.no_more a (omega arith) two.one in
          let same_b = too.no_more b below two.other in
          absurd (omega arith)
      | inr rest ↦
          elim rest [
            | inl above ↦
                let same_x = two.no_more x (omega arith) too.one in
                let same_y = two.no_more y above too.other in
                absurd (omega arith)
            | inr same ↦ (too.no_more a (omega arith) two.one, same)
          ]
    ]
  where
    order : (m n : ℕ) → (m < n) ⊎ ((n < m) ⊎ (m ≡ n))
    order m n = grind arith

-- ---- types that no other is above

pub filter_filter : (q p : ℕ → Bool) (xs : List ℕ) → filter p (filter q xs) ≡ filter (λ x. q x && p x) xs
filter_filter q p [] = refl
filter_filter q p (x ∷ xs) =
    elim (cases_Bool (q x)) [
      | inl e ↦
          elim (cases_Bool (p x)) [
            | inl f ↦ rw (e, f) (ap (λ ys. x ∷ ys) (filter_filter q p xs))
            | inr f ↦ rw (e, f) (filter_filter q p xs)
          ]
      | inr e ↦ rw e (filter_filter q p xs)
    ]

-- t is one of those that pass, and no other is above it
pub record IsHighest (d : Declared) (q : ℕ → Bool) (t : ℕ) : Type 0 where
  pub below : t < length d.types
  pub passes : q t ≡ true
  pub highest : (u : ℕ) → u < length d.types → q u ≡ true → is_above d u t ≡ true → u ≡ t

abbrev pub passing : Declared → (ℕ → Bool) → List ℕ
passing d q = filter q (all_types d)

highest_from : (d : Declared) (q : ℕ → Bool) (t : ℕ) → Passes (λ x. q x && no_higher d (passing d q) x) (length d.types) t → IsHighest d q t
unfolding no_higher
highest_from d q t p =
    let parts = and_parts (q t) (every (λ u. eqb u t || not (is_above d u t)) (passing d q)) p.passes in
    record {
      below = p.below;
      passes = parts.0;
      highest = λ u low is above.
          elim (or_cases (eqb u t) (not (is_above d u t)) (every_at (λ u. eqb u t || not (is_above d u t)) (passing d q) u parts.1 (Has-filter q (all_types d) u (upto_has (length d.types) u low) is))) [
            | inl e ↦ eqb-true u t e
            | inr e ↦ absurd (both_ways (is_above d u t) (not-true (is_above d u t) e) above)
          ];
    }

highest_to : (d : Declared) (q : ℕ → Bool) (t : ℕ) → IsHighest d q t → Passes (λ x. q x && no_higher d (passing d q) x) (length d.types) t
unfolding no_higher
highest_to d q t h = record {
  below = h.below;
  passes =
      and_from (q t) (every (λ u. eqb u t || not (is_above d u t)) (passing d q)) h.passes
      (every_from (λ u. eqb u t || not (is_above d u t)) (passing d q) (λ u k.
      let at = filter_has q (all_types d) u k in
      elim (cases_Bool (is_above d u t)) [
        | inl e ↦ or_left (eqb u t) (not (is_above d u t)) (eq-eqb u t (h.highest u (upto_below (length d.types) u at.0) at.1 e))
        | inr e ↦ or_right (eqb u t) (not (is_above d u t)) (not_from_false (is_above d u t) e)
      ]));
}

-- above each that passes there is a highest one
climb : (d : Declared) (q : ℕ → Bool) (k t : ℕ) → IsWellNumbered d → HasNoCycle d.edges → length d.types < rank d t + k → t < length d.types → q t ≡ true → (x : ℕ) × IsHighest d q x × IsAbove d x t
unfolding no_higher
climb d q zero t w free far low is = let most = rank-le-types d t in absurd (omega arith)
climb d q (suc k) t w free far low is =
    elim (cases_Bool (every (λ u. eqb u t || not (is_above d u t)) (passing d q))) [
      | inl e ↦ (t, highest_from d q t (record { below = low; passes = and_from (q t) (every (λ u. eqb u t || not (is_above d u t)) (passing d q)) is e }), IsAbove-self d t)
      | inr e ↦
          let other = every_fails (λ u. eqb u t || not (is_above d u t)) (passing d q) e in
          let at = filter_has q (all_types d) other.0 other.1 in
          let above : IsAbove d other.0 t = is_above_to d other.0 t (above_true (eqb other.0 t) (is_above d other.0 t) other.2) in
          let apart : other.0 ≡ t → ⊥ = λ same. both_ways (eqb other.0 t) (apart_false (eqb other.0 t) (is_above d other.0 t) other.2) (eq-eqb other.0 t same) in
          let more = rank-less d other.0 t w free above apart in
          let rest = climb d q k other.0 w free (omega arith) (upto_below (length d.types) other.0 at.0) at.1 in
          (rest.0, rest.1, IsAbove-trans d rest.0 other.0 t rest.2 above)
    ]
  where
    above_true : (s t : Bool) → (s || not t) ≡ false → t ≡ true
    above_true true t h = absurd (true≢false h)
    above_true false true h = refl
    above_true false false h = absurd (true≢false h)

    apart_false : (s t : Bool) → (s || not t) ≡ false → s ≡ false
    apart_false true t h = absurd (true≢false h)
    apart_false false t h = refl

-- a type that is above another is none that isn't
not_the_same : (d : Declared) (x y m : ℕ) → IsWellNumbered d → is_above d x m ≡ false → IsAbove d y m → x ≡ y → ⊥
not_the_same d x y m w not_above above same = both_ways (is_above d x m) not_above (is_above_from d x m w (subst (λ z. IsAbove d z m) (sym same) above))

-- where some pass and none is above all, the tops begin with the lowest two of the highest
pub two_tops : (d : Declared) (q : ℕ → Bool) (t : ℕ) → IsWellNumbered d → HasNoCycle d.edges → t < length d.types → q t ≡ true → first (λ t. every (λ u. is_above d t u) (passing d q)) (passing d q) ≡ None → AreFirstTwo (IsHighest d q) (get_or (tops d (passing d q)) 0 0) (get_or (tops d (passing d q)) 1 0)
unfolding no_higher
two_tops d q t w free low is none =
    let r : ℕ → Bool = λ x. q x && no_higher d (passing d q) x in
    let most = rank-le-types d t in
    let one = climb d q (suc (length d.types)) t w free (omega arith) low is in
    let x : ℕ = one.0 in
    let high : IsHighest d q x = one.1 in
    let listed = Has-filter q (all_types d) x (upto_has (length d.types) x high.below) high.passes in
    let missed = every_fails (λ u. is_above d x u) (passing d q) (first_none (λ t. every (λ u. is_above d t u) (passing d q)) (passing d q) x none listed) in
    let at = filter_has q (all_types d) missed.0 missed.1 in
    let two = climb d q (suc (length d.types)) missed.0 w free (omega arith) (upto_below (length d.types) missed.0 at.0) at.1 in
    let apart : x ≡ two.0 → ⊥ = λ same. not_the_same d x two.0 missed.0 w missed.2 two.2 same in
    let found = first_two r (length d.types) x two.0 (highest_to d q x high) (highest_to d q two.0 two.1) apart in
    let listed_so = filter_filter q (no_higher d (passing d q)) (all_types d) in
    AreFirstTwo-as (Passes r (length d.types)) (IsHighest d q) _ _ (highest_from d q) (highest_to d q)
    (subst (λ xs. AreFirstTwo (Passes r (length d.types)) (get_or xs 0 0) (get_or xs 1 0)) (sym listed_so) found)
