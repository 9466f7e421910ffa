-- The first common subtype of two types by falling rank is their join, where they have one.
use Rattle.std.proofs.Common.{◌≡◌, sym, ap, ◌∙◌, subst, refl, ℕ, zero, suc, ◌+◌, ◌-◌, ◌<◌, ◌≤◌, ◌⊎◌, Bool, true, false, cond, eqb, nat_lt, List, [], ◌∷◌, ◌++◌, length, get_or, inl, inr, arith, add-one, length-append}
use Rattle.std.specs.Prelude.{◌&&◌, not, ◌↔◌, IsTrue, ⊤}
use Rattle.std.specs.List.{filter}
use Rattle.std.proofs.lemmas.Bool.{cases_Bool, cases_eq, cases_lt, and_parts, and_from, not-true, not_from_false, both_ways, eqb-true, eq-eqb}
use Rattle.std.proofs.lemmas.Bool.Decides.{nat_tests, same_from_decides}
use Rattle.ale_relation.specs.Has.{Has}
use Rattle.ale_relation.specs.Rows.{Rows, holds, count_below, both_hold, both_but, HasNone, HasSome, IsFirst}
use Rattle.ale_declared.specs.Lists.{upto}
use Rattle.ale_declared.specs.Declarations.{Declared}
use Rattle.ale_declared.specs.Numbering.{IsWellNumbered}
use Rattle.ale_declared.proofs.ListLemmas.{Has-append_left, Has-append_right, Has-append_cases, Has-filter, filter_has, upto_has, upto_below, length-filter-upto}
use Rattle.ale_hierarchy.specs.Order.{IsAbove, IsJoin, is_above, rank}
use Rattle.ale_hierarchy.specs.Faults.{lacks_join}
use Rattle.ale_hierarchy.specs.Refusals.{LacksJoin}
use Rattle.ale_hierarchy.specs.Stages.{IsOrdered, tabulated}
use Rattle.ale_hierarchy.specs.Ranks.{IsByRank, IsRanked}
use Rattle.ale_hierarchy.proofs.LoopLemmas.{are_below-at, are_below-from}
use Rattle.ale_declared.proofs.TopLemmas.{Has-get_or}
use Rattle.ale_hierarchy.proofs.TabulatedLemmas.{length-tabulated, get_or-tabulated}
use Rattle.ale_hierarchy.proofs.OrderLemmas.{rank-less, rank-le-types, IsAbove_inside, is_above_to, is_above_from}
use Rattle.ale_hierarchy.proofs.FaultTests.{join_decides, refuting}

-- ---- numbers listed by a measure that falls

-- those below n with the measure r
abbrev pub of_measure : (ℕ → ℕ) → ℕ → ℕ → List ℕ
of_measure f n r = filter (λ t. eqb (f t) r) (upto n)

-- those with the m highest measures, from n down
abbrev pub listed : (ℕ → ℕ) → ℕ → ℕ → List ℕ
listed f n zero = []
listed f n (suc m) = listed f n m ++ of_measure f n (n - m)

count_split : (p q r : ℕ → Bool) (n : ℕ) → ((k : ℕ) → cond (p k) 1 0 ≡ cond (q k) 1 0 + cond (r k) 1 0) → count_below p n ≡ count_below q n + count_below r n
count_split p q r zero each = refl
count_split p q r (suc n) each =
    let rest : count_below p n ≡ count_below q n + count_below r n = count_split p q r n each in
    let one : cond (p n) 1 0 ≡ cond (q n) 1 0 + cond (r n) 1 0 = each n in
    omega arith

count_all : (p : ℕ → Bool) (n : ℕ) → ((k : ℕ) → p k ≡ true) → count_below p n ≡ n
count_all p zero each = refl
count_all p (suc n) each =
    let rest : count_below p n ≡ n = count_all p n each in rw (each n) (omega arith)

count_none : (p : ℕ → Bool) (n : ℕ) → ((k : ℕ) → p k ≡ false) → count_below p n ≡ 0
count_none p zero each = refl
count_none p (suc n) each =
    let rest : count_below p n ≡ 0 = count_none p n each in rw (each n) (omega arith)

-- above n - (m + 1) is at n - m, or above it
one_more : (n m x : ℕ) → m ≤ n → cond (nat_lt n (x + suc m)) 1 0 ≡ cond (nat_lt n (x + m)) 1 0 + cond (eqb x (n - m)) 1 0
one_more n m x few = grind (arith, nat_tests)

length-listed : (f : ℕ → ℕ) (n m : ℕ) → ((t : ℕ) → f t ≤ n) → m ≤ suc n → length (listed f n m) ≡ count_below (λ t. nat_lt n (f t + m)) n
length-listed f n zero most few = sym (count_none (λ t. nat_lt n (f t + 0)) n (λ t. let low : f t ≤ n = most t in grind (arith, nat_tests)))
length-listed f n (suc m) most few =
    length-append (listed f n m) (of_measure f n (n - m))
    ∙ ap (λ k. k + length (of_measure f n (n - m))) (length-listed f n m most (omega arith))
    ∙ ap (λ k. count_below (λ t. nat_lt n (f t + m)) n + k) (length-filter-upto (λ t. eqb (f t) (n - m)) n)
    ∙ sym (count_split (λ t. nat_lt n (f t + suc m)) (λ t. nat_lt n (f t + m)) (λ t. eqb (f t) (n - m)) n (λ t. one_more n m (f t) (omega arith)))

-- all are listed
length-listed_all : (f : ℕ → ℕ) (n : ℕ) → ((t : ℕ) → f t ≤ n) → length (listed f n (suc n)) ≡ n
length-listed_all f n most =
    length-listed f n (suc n) most (omega arith) ∙ count_all (λ t. nat_lt n (f t + suc n)) n (λ t. grind (arith, nat_tests))

-- what is listed is below n and has one of the measures
listed_has : (f : ℕ → ℕ) (n m t : ℕ) → m ≤ suc n → Has (listed f n m) t → (t < n) × (n < f t + m)
listed_has f n zero t few h = absurd h
listed_has f n (suc m) t few h =
    elim (Has-append_cases (listed f n m) (of_measure f n (n - m)) t h) [
      | inl k ↦ let rest = listed_has f n m t (omega arith) k in
          let high : n < f t + m = rest.1 in (rest.0, omega arith)
      | inr k ↦ let here = filter_has (λ t. eqb (f t) (n - m)) (upto n) t k in
          let is : f t ≡ n - m = eqb-true (f t) (n - m) here.1 in (upto_below n t here.0, omega arith)
    ]

-- and all such are listed
Has-listed : (f : ℕ → ℕ) (n m t : ℕ) → ((t : ℕ) → f t ≤ n) → m ≤ suc n → t < n → n < f t + m → Has (listed f n m) t
Has-listed f n zero t most few inside high = let low : f t ≤ n = most t in absurd (omega arith)
Has-listed f n (suc m) t most few inside high =
    elim (cases_eq (f t) (n - m)) [
      | inl is ↦ Has-append_right (listed f n m) (of_measure f n (n - m)) t (Has-filter (λ t. eqb (f t) (n - m)) (upto n) t (upto_has n t inside) (eq-eqb (f t) (n - m) is))
      | inr apart ↦ Has-append_left (listed f n m) (of_measure f n (n - m)) t (Has-listed f n m t most (omega arith) inside (omega arith))
    ]

-- the measure falls along the list
abbrev Falls : (ℕ → ℕ) → List ℕ → Type 0
Falls f [] = ⊤
Falls f (x ∷ xs) = ((y : ℕ) → Has xs y → f y ≤ f x) × Falls f xs

Falls-append : (f : ℕ → ℕ) (xs ys : List ℕ) → Falls f xs → Falls f ys → ((x y : ℕ) → Has xs x → Has ys y → f y ≤ f x) → Falls f (xs ++ ys)
Falls-append f [] ys p q across = q
Falls-append f (x ∷ xs) ys p q across = (
  λ y h. elim (Has-append_cases xs ys y h) [ inl k ↦ p.0 y k | inr k ↦ across x y (inl refl) k ],
  Falls-append f xs ys p.1 q (λ z y h k. across z y (inr h) k),
)

Falls-level : (f : ℕ → ℕ) (xs : List ℕ) (r : ℕ) → ((x : ℕ) → Has xs x → f x ≡ r) → Falls f xs
Falls-level f [] r level = tt
Falls-level f (x ∷ xs) r level = (
  λ y h. let at_y : f y ≡ r = level y (inr h) in let at_x : f x ≡ r = level x (inl refl) in omega arith,
  Falls-level f xs r (λ y h. level y (inr h)),
)

Falls-listed : (f : ℕ → ℕ) (n m : ℕ) → m ≤ suc n → Falls f (listed f n m)
Falls-listed f n zero few = tt
Falls-listed f n (suc m) few =
    Falls-append f (listed f n m) (of_measure f n (n - m)) (Falls-listed f n m (omega arith))
    (Falls-level f (of_measure f n (n - m)) (n - m) (λ x h. eqb-true (f x) (n - m) (filter_has (λ t. eqb (f t) (n - m)) (upto n) x h).1))
    (λ x y h k.
    let high : n < f x + m = (listed_has f n m x (omega arith) h).1 in
    let is : f y ≡ n - m = eqb-true (f y) (n - m) (filter_has (λ t. eqb (f t) (n - m)) (upto n) y k).1 in
    omega arith)

Falls-at : (f : ℕ → ℕ) (xs : List ℕ) (i j : ℕ) → Falls f xs → i < j → j < length xs → f (get_or xs j 0) ≤ f (get_or xs i 0)
Falls-at f [] i j h less inside = absurd (omega arith)
Falls-at f (x ∷ xs) i zero h less inside = absurd (omega arith)
Falls-at f (x ∷ xs) zero (suc j) h less inside = h.0 (get_or xs j 0) (Has-get_or xs j 0 (omega arith))
Falls-at f (x ∷ xs) (suc i) (suc j) h less inside = Falls-at f xs i j h.1 (omega arith) (omega arith)

-- the numbers with a measure, out of a list of the measures
pub of_measures : (f : ℕ → ℕ) (n r : ℕ) (fs : List ℕ) → fs ≡ tabulated f n → filter (λ t. eqb (get_or fs t 0) r) (upto (length fs)) ≡ of_measure f n r
of_measures f n r fs is =
    rw (is, length-tabulated f n) (filter_same_in (λ t. eqb (get_or (tabulated f n) t 0) r) (λ t. eqb (f t) r) (upto n) (λ t h. ap (λ x. eqb x r) (get_or-tabulated f n t 0 (upto_below n t h))))
  where
    filter_same_in : (p q : ℕ → Bool) (xs : List ℕ) → ((x : ℕ) → Has xs x → p x ≡ q x) → filter p xs ≡ filter q xs
    filter_same_in p q [] same = refl
    filter_same_in p q (x ∷ xs) same =
        elim (cases_Bool (q x)) [
          | inl e ↦ rw (same x (inl refl), e) (ap (λ ys. x ∷ ys) (filter_same_in p q xs (λ y h. same y (inr h))))
          | inr e ↦ rw (same x (inl refl), e) (filter_same_in p q xs (λ y h. same y (inr h)))
        ]

-- one step more of the listing
pub listed_more : (f : ℕ → ℕ) (n m : ℕ) (fs before now : List ℕ) → fs ≡ tabulated f n → before ≡ listed f n m → now ≡ before ++ filter (λ t. eqb (get_or fs t 0) (n - m)) (upto (length fs)) → now ≡ listed f n (m + 1)
listed_more f n m fs before now are so_far more =
    rw (add-one, ← so_far) (more ∙ ap (λ xs. before ++ xs) (of_measures f n (n - m) fs are))

-- the types by falling rank
pub IsByRank-listed : (d : Declared) (types : List ℕ) (m : ℕ) → m ≡ suc (length d.types) → types ≡ listed (rank d) (length d.types) m → IsByRank d types
IsByRank-listed d types m all is =
    rw (is, all) (record {
      count = length-listed_all (rank d) (length d.types) (rank-le-types d);
      within = are_below-from (length d.types) (listed (rank d) (length d.types) (suc (length d.types))) (λ t h. (listed_has (rank d) (length d.types) (suc (length d.types)) t (omega arith) h).0);
      all = λ t inside. Has-listed (rank d) (length d.types) (suc (length d.types)) t (rank-le-types d) (omega arith) inside (omega arith);
      falling = λ i j less inside. Falls-at (rank d) (listed (rank d) (length d.types) (suc (length d.types))) i j (Falls-listed (rank d) (length d.types) (suc (length d.types)) (omega arith)) less inside;
    })

-- ---- the first common subtype

-- what a list has is at a place
has_place : (xs : List ℕ) (x : ℕ) → Has xs x → (i : ℕ) × (i < length xs) × (get_or xs i 0 ≡ x)
has_place [] x h = absurd h
has_place (y ∷ ys) x (inl same) = (0, omega arith, sym same)
has_place (y ∷ ys) x (inr h) = let rest = has_place ys x h in (suc rest.0, omega arith, rest.2)

-- a type has a place, to which the types above it stand
pub record IsPlace (d : Declared) (types : List ℕ) (places : Rows) (t i : ℕ) : Type 0 where
  pub inside : i < length d.types
  pub at : get_or types i 0 ≡ t
  pub below : (a : ℕ) → a < length d.types → holds places a i ≡ is_above d a t

IsPlace-at : (d : Declared) (types : List ℕ) (places : Rows) (i : ℕ) → IsRanked d types places → i < length d.types → IsPlace d types places (get_or types i 0) i
IsPlace-at d types places i r inside = record {
  inside = inside;
  at = refl;
  below = λ a low. r.told.below a i low inside;
}

place_of : (d : Declared) (types : List ℕ) (places : Rows) (t : ℕ) → IsRanked d types places → t < length d.types → (i : ℕ) × IsPlace d types places t i
place_of d types places t r inside =
    let found = has_place types t (r.order.all t inside) in
    let long : length types ≡ length d.types = r.order.count in
    let low : found.0 < length d.types = omega arith in (
      found.0,
      record {
        inside = low;
        at = found.2;
        below = λ a below_a. r.told.below a found.0 below_a low ∙ ap (is_above d a) found.2;
      },
    )

type_inside : (d : Declared) (types : List ℕ) (places : Rows) (i : ℕ) → IsRanked d types places → i < length d.types → get_or types i 0 < length d.types
type_inside d types places i r inside =
    let long : length types ≡ length d.types = r.order.count in
    are_below-at (length d.types) types (get_or types i 0) r.order.within (Has-get_or types i 0 (omega arith))

-- what two types have in common, by places
both_are : (d : Declared) (types : List ℕ) (places : Rows) (a b t i : ℕ) → IsPlace d types places t i → a < length d.types → b < length d.types → both_hold places a b i ≡ (is_above d a t && is_above d b t)
both_are d types places a b t i at p q = rw (at.below a p, at.below b q) refl

-- a place of a common subtype
common_at : (d : Declared) (types : List ℕ) (places : Rows) (a b t i : ℕ) → IsPlace d types places t i → a < length d.types → b < length d.types → both_hold places a b i ≡ true → IsAbove d a t × IsAbove d b t
common_at d types places a b t i at p q h =
    let parts = and_parts (is_above d a t) (is_above d b t) (sym (both_are d types places a b t i at p q) ∙ h) in
    (is_above_to d a t parts.0, is_above_to d b t parts.1)

-- each common subtype has such a place
common_from : (d : Declared) (types : List ℕ) (places : Rows) (a b t i : ℕ) → IsWellNumbered d → IsPlace d types places t i → a < length d.types → b < length d.types → IsAbove d a t → IsAbove d b t → both_hold places a b i ≡ true
common_from d types places a b t i w at p q left right =
    both_are d types places a b t i at p q
    ∙ and_from (is_above d a t) (is_above d b t) (is_above_from d a t w left) (is_above_from d b t w right)

-- without a common place two types lack nothing
pub lacking_nothing : (d : Declared) (types : List ℕ) (places : Rows) (a b : ℕ) → IsOrdered d → IsRanked d types places → a < length d.types → b < length d.types → HasNone (both_hold places a b) 0 places.size → false ≡ lacks_join d a b
lacking_nothing d types places a b o r p q none =
    sym (refuting (lacks_join d a b) (join_decides d a b o.numbered o.no_cycle) (λ l.
    let found = place_of d types places l.common r l.inside in
    let size : places.size ≡ length d.types = r.told.size in
    let low = found.1.inside in
    both_ways (both_hold places a b found.0) (none found.0 (omega arith) (omega arith)) (common_from d types places a b l.common found.0 o.numbered found.1 p q l.left l.right)))

-- the first place of a common subtype
record IsFirstCommon (d : Declared) (types : List ℕ) (places : Rows) (a b c k : ℕ) : Type 0 where
  ordered : IsOrdered d
  ranked : IsRanked d types places
  a_in : a < length d.types
  b_in : b < length d.types
  at : IsPlace d types places c k
  is_first : IsFirst (both_hold places a b) 0 places.size k

-- a join is the first common subtype
join_first : (d : Declared) (types : List ℕ) (places : Rows) (a b c k j : ℕ) → IsFirstCommon d types places a b c k → c < length d.types → IsJoin d a b j → j ≡ c
join_first d types places a b c k j f inside is =
    let w = f.ordered.numbered in
    let common = common_at d types places a b c k f.at f.a_in f.b_in f.is_first.passed in
    let above : IsAbove d j c = is.least c common.0 common.1 in
    let found = place_of d types places j f.ranked (IsAbove_inside d a j w is.left f.a_in) in
    elim (cases_eq j c) [
      | inl same ↦ same
      | inr apart ↦
          let less : rank d c < rank d j = rank-less d j c w f.ordered.no_cycle above apart in
          absurd (not_before found.0 found.1 (cases_lt found.0 k) less)
    ]
  where
    later : (i : ℕ) → IsPlace d types places j i → k ≤ i → (i ≡ k) ⊎ (i ≡ k → ⊥) → rank d c < rank d j → ⊥
    later i at after (inl same) less =
        let one : j ≡ c = sym at.at ∙ ap (λ z. get_or types z 0) same ∙ f.at.at in
        let equal : rank d j ≡ rank d c = ap (rank d) one in
        absurd (omega arith)
    later i at after (inr apart) less =
        let long : length types ≡ length d.types = f.ranked.order.count in
        let low : i < length d.types = at.inside in
        let falls : rank d (get_or types i 0) ≤ rank d (get_or types k 0) = f.ranked.order.falling k i (omega arith) (omega arith) in
        let at_j : rank d (get_or types i 0) ≡ rank d j = ap (rank d) at.at in
        let at_c : rank d (get_or types k 0) ≡ rank d c = ap (rank d) f.at.at in
        absurd (omega arith)

    not_before : (i : ℕ) → IsPlace d types places j i → (i < k) ⊎ (k ≤ i) → rank d c < rank d j → ⊥
    not_before i at (inl before) less =
        both_ways (both_hold places a b i) (f.is_first.before i (omega arith) before) (common_from d types places a b j i f.ordered.numbered at f.a_in f.b_in is.left is.right)
    not_before i at (inr after) less = later i at after (cases_eq i k) less

-- a common subtype that is not below the first
lacks_from : (d : Declared) (types : List ℕ) (places : Rows) (a b c k : ℕ) → IsFirstCommon d types places a b c k → c < length d.types → HasSome (both_but places a b c) 0 places.size → LacksJoin d a b
lacks_from d types places a b c k f inside some =
    let size : places.size ≡ length d.types = f.ranked.told.size in
    let within : some.0 < places.size = some.2 in
    let low : some.0 < length d.types = omega arith in
    let u : ℕ = get_or types some.0 0 in
    let at = IsPlace-at d types places some.0 f.ranked low in
    let parts = and_parts (both_hold places a b some.0) (not (holds places c some.0)) some.3 in
    let common = common_at d types places a b u some.0 at f.a_in f.b_in parts.0 in
    let apart : holds places c some.0 ≡ false = not-true (holds places c some.0) parts.1 in
    record {
      common = u;
      left = common.0;
      right = common.1;
      inside = type_inside d types places some.0 f.ranked low;
      none = λ j is.
          let above : IsAbove d c u = subst (λ z. IsAbove d z u) (join_first d types places a b c k j f inside is) (is.least u common.0 common.1) in
          both_ways (holds places c some.0) apart (at.below c inside ∙ is_above_from d c u f.ordered.numbered above);
    }

-- where the first is above all others it is the join
join_is_first : (d : Declared) (types : List ℕ) (places : Rows) (a b c k : ℕ) → IsFirstCommon d types places a b c k → c < length d.types → (HasSome (both_but places a b c) 0 places.size → ⊥) → IsJoin d a b c
join_is_first d types places a b c k f inside none =
    let w = f.ordered.numbered in
    let size : places.size ≡ length d.types = f.ranked.told.size in
    let common = common_at d types places a b c k f.at f.a_in f.b_in f.is_first.passed in
    record {
      left = common.0;
      right = common.1;
      least = λ u left right.
          let found = place_of d types places u f.ranked (IsAbove_inside d a u w left f.a_in) in
          let low = found.1.inside in
          elim (cases_Bool (is_above d c u)) [
            | inl e ↦ is_above_to d c u e
            | inr e ↦ absurd (none (
              found.0,
              omega arith,
              omega arith,
              and_from (both_hold places a b found.0) (not (holds places c found.0))
                  (common_from d types places a b u found.0 w found.1 f.a_in f.b_in left right)
                  (not_from_false (holds places c found.0) (found.1.below c inside ∙ e)),
            ))
          ];
    }

-- two types with common subtypes lack a join where some of these are not below the first
pub lacking_outside : (d : Declared) (types : List ℕ) (places : Rows) (a b c k : ℕ) (r : Bool) → IsOrdered d → IsRanked d types places → a < length d.types → b < length d.types → c ≡ get_or types k 0 → IsFirst (both_hold places a b) 0 places.size k → IsTrue r ↔ HasSome (both_but places a b c) 0 places.size → r ≡ lacks_join d a b
lacking_outside d types places a b c k r o ranked p q is is_first tells =
    let size : places.size ≡ length d.types = ranked.told.size in
    let within : k < places.size = is_first.below in
    let low : k < length d.types = omega arith in
    let inside : c < length d.types = subst (λ z. z < length d.types) (sym is) (type_inside d types places k ranked low) in
    let f : IsFirstCommon d types places a b c k = record {
      ordered = o;
      ranked = ranked;
      a_in = p;
      b_in = q;
      at = subst (λ z. IsPlace d types places z k) (sym is) (IsPlace-at d types places k ranked low);
      is_first = is_first;
    } in
    same_from_decides r (lacks_join d a b) (
      λ e. lacks_from d types places a b c k f inside (tells.0 e),
      λ l. elim (cases_Bool r) [
        | inl e ↦ e
        | inr e ↦ absurd (l.none c (join_is_first d types places a b c k f inside (λ some. both_ways r e (tells.1 some))))
      ],
    ) (join_decides d a b o.numbered o.no_cycle)
