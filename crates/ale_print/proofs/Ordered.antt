-- Pairs in order, each once: what they are, and that sorting and leaving out repeats gives them.
use Rattle.std.proofs.Common.{◌≡◌, ℕ, suc, ◌<◌, Bool, true, false, ◌&&◌, ◌||◌, eqb, ltb, List, [], ◌∷◌, map, ◌⊎◌, inl, inr, refl, sym, ap, ◌∙◌, subst, arith, Ordering, Less, Equal, Greater, nat_cmp, IsPermutation}
use Rattle.std.specs.Prelude.{if◌then◌else◌}
use Rattle.std.specs.Ordering.{MatchOrdering, ordering_then, is_eq, eq_by_cmp}
use Rattle.std.specs.Cmp.{IsTotalOrder, IsEquivalence}
use Rattle.std.specs.List.{Contains, dedup, AllByRecursion}
use Rattle.std.specs.List.Sorted.{IsSorted, IsStrictlySortedBy}
use Rattle.std.proofs.lemmas.Cmp.{ranked, nat_cmp_total, on_total, then_total, eq_by_cmp_equiv}
use Rattle.std.proofs.lemmas.List.Kept.{Contains-dedup, Contains-from_dedup, IsStrictlySortedBy-dedup}
use Rattle.std.proofs.lemmas.List.Sorted.{Contains-permutation, IsPermutation-sym}
use Rattle.std.proofs.lemmas.Bool.{and_parts, eqb-true, eq-eqb, ne_eqb, ltb-true, lt-ltb}
use Rattle.ale_declared.specs.Lists.{Has, every}
use Rattle.ale_graph.proofs.Structures.{get_has}
use Rattle.ale_graph.proofs.Lists.{every_has, every_from}
use Rattle.ale_print.specs.Pairing.{lower_first, is_same, is_before, put, in_order}

abbrev pub Before : ℕ × ℕ → ℕ × ℕ → Type 0
Before p q = (p.0 < q.0) ⊎ ((p.0 ≡ q.0) × (p.1 < q.1))

-- each stands before all behind it
abbrev pub Rising : List (ℕ × ℕ) → Type 0
Rising [] = Unit {0}
Rising (p ∷ ps) = ((q : ℕ × ℕ) → Has ps q → Before p q) × Rising ps

before_itself : (p : ℕ × ℕ) → Before p p → ⊥
before_itself p (inl l) = absurd (omega arith)
before_itself p (inr l) = absurd (omega (arith, l.1))

before_both : (p q : ℕ × ℕ) → Before p q → Before q p → ⊥
before_both p q (inl l) (inl m) = absurd (omega arith)
before_both p q (inl l) (inr m) = absurd (omega (arith, m.0))
before_both p q (inr l) (inl m) = absurd (omega (arith, l.0))
before_both p q (inr l) (inr m) = absurd (omega (arith, l.1, m.1))

before_then : (p q r : ℕ × ℕ) → Before p q → Before q r → Before p r
before_then p q r (inl l) (inl m) = inl (omega arith)
before_then p q r (inl l) (inr m) = inl (omega (arith, m.0))
before_then p q r (inr l) (inl m) = inl (omega (arith, l.0))
before_then p q r (inr l) (inr m) = inr (l.0 ∙ m.0, omega (arith, l.1, m.1))

false_true : false ≡ true → ⊥
false_true e = absurd cc

same_pair : (p q : ℕ × ℕ) → is_same p q ≡ true → p ≡ q
same_pair p q e =
    let both = and_parts (eqb p.0 q.0) (eqb p.1 q.1) e in
    let first : p.0 ≡ q.0 = eqb-true p.0 q.0 both.0 in
    let second : p.1 ≡ q.1 = eqb-true p.1 q.1 both.1 in
    λ i. (first i, second i)

before_true : (p q : ℕ × ℕ) → is_before p q ≡ true → Before p q
before_true p q e = go (ltb p.0 q.0) refl e
  where
    go : (b : Bool) → ltb p.0 q.0 ≡ b → (b || (eqb p.0 q.0 && ltb p.1 q.1)) ≡ true → Before p q
    go true l h = inl (ltb-true p.0 q.0 l)
    go false l h = let both = and_parts (eqb p.0 q.0) (ltb p.1 q.1) h in inr (eqb-true p.0 q.0 both.0, ltb-true p.1 q.1 both.1)

before_false : (p q : ℕ × ℕ) → is_same p q ≡ false → is_before p q ≡ false → Before q p
before_false p q same before = go (grind arith)
  where
    tie : p.0 ≡ q.0 → (p.1 < q.1) ⊎ ((p.1 ≡ q.1) ⊎ (q.1 < p.1)) → Before q p
    tie e (inl l) =
        absurd (false_true (sym before ∙ ap (λ b. ltb p.0 q.0 || (b && ltb p.1 q.1)) (eq-eqb p.0 q.0 e) ∙ ap (λ b. ltb p.0 q.0 || b) (lt-ltb p.1 q.1 l) ∙ last (ltb p.0 q.0)))
      where
        last : (b : Bool) → (b || true) ≡ true
        last true = refl
        last false = refl
    tie e (inr (inl f)) = absurd (false_true (sym same ∙ ap (λ b. b && eqb p.1 q.1) (eq-eqb p.0 q.0 e) ∙ eq-eqb p.1 q.1 f))
    tie e (inr (inr l)) = inr (sym e, l)

    go : (p.0 < q.0) ⊎ ((p.0 ≡ q.0) ⊎ (q.0 < p.0)) → Before q p
    go (inl l) = absurd (false_true (sym before ∙ ap (λ b. b || (eqb p.0 q.0 && ltb p.1 q.1)) (lt-ltb p.0 q.0 l)))
    go (inr (inl e)) = tie e (grind arith)
    go (inr (inr l)) = inl l

-- what putting a pair in its place does

pub has_put : (p : ℕ × ℕ) (qs : List (ℕ × ℕ)) (r : ℕ × ℕ) → Has (put p qs) r → (r ≡ p) ⊎ Has qs r
has_put p [] r (inl e) = inl e
has_put p [] r (inr h) = absurd h
has_put p (q ∷ qs) r h = go (has_put p qs r) (is_same p q) (is_before p q) h
  where
    later : (Has (put p qs) r → (r ≡ p) ⊎ Has qs r) → Has (q ∷ put p qs) r → (r ≡ p) ⊎ Has (q ∷ qs) r
    later ih (inl e) = inr (inl e)
    later ih (inr k) = elim (ih k) [ inl e ↦ inl e | inr m ↦ inr (inr m) ]

    front : Has (p ∷ q ∷ qs) r → (r ≡ p) ⊎ Has (q ∷ qs) r
    front (inl e) = inl e
    front (inr k) = inr k

    go : (Has (put p qs) r → (r ≡ p) ⊎ Has qs r) → (a b : Bool) → Has (if a then q ∷ qs else if b then p ∷ q ∷ qs else q ∷ put p qs) r → (r ≡ p) ⊎ Has (q ∷ qs) r
    go ih true b k = inr k
    go ih false true k = front k
    go ih false false k = later ih k

pub put_has : (p : ℕ × ℕ) (qs : List (ℕ × ℕ)) (r : ℕ × ℕ) → (r ≡ p) ⊎ Has qs r → Has (put p qs) r
put_has p [] r (inl e) = inl e
put_has p [] r (inr h) = absurd h
put_has p (q ∷ qs) r h = go (is_same p q) (is_before p q) refl h (put_has p qs r)
  where
    go : (a b : Bool) → is_same p q ≡ a → (r ≡ p) ⊎ Has (q ∷ qs) r → ((r ≡ p) ⊎ Has qs r → Has (put p qs) r)
        → Has (if a then q ∷ qs else if b then p ∷ q ∷ qs else q ∷ put p qs) r
    go true b s (inl e) ih = inl (e ∙ same_pair p q s)
    go true b s (inr k) ih = k
    go false true s (inl e) ih = inl e
    go false true s (inr k) ih = inr k
    go false false s (inl e) ih = inr (ih (inl e))
    go false false s (inr (inl e)) ih = inl e
    go false false s (inr (inr k)) ih = inr (ih (inr k))

rising_put : (p : ℕ × ℕ) (qs : List (ℕ × ℕ)) → Rising qs → Rising (put p qs)
rising_put p [] h = (λ q k. absurd k, tt)
rising_put p (q ∷ qs) h = go (is_same p q) (is_before p q) refl refl (rising_put p qs h.1)
  where
    front : Before p q → (r : ℕ × ℕ) → Has (q ∷ qs) r → Before p r
    front l r (inl e) = subst (λ z. Before p z) (sym e) l
    front l r (inr k) = before_then p q r l (h.0 r k)

    later : Before q p → (r : ℕ × ℕ) → (r ≡ p) ⊎ Has qs r → Before q r
    later l r (inl e) = subst (λ z. Before q z) (sym e) l
    later l r (inr k) = h.0 r k

    go : (a b : Bool) → is_same p q ≡ a → is_before p q ≡ b → Rising (put p qs) → Rising (if a then q ∷ qs else if b then p ∷ q ∷ qs else q ∷ put p qs)
    go true b s t ih = h
    go false true s t ih = (front (before_true p q t), h)
    go false false s t ih = (λ r k. later (before_false p q s t) r (has_put p qs r k), ih)

pub rising_in_order : (ps : List (ℕ × ℕ)) → Rising (in_order ps)
rising_in_order [] = tt
rising_in_order (p ∷ ps) = rising_put (lower_first p) (in_order ps) (rising_in_order ps)

pub has_in_order : (ps : List (ℕ × ℕ)) (r : ℕ × ℕ) → Has (in_order ps) r → Has (map lower_first ps) r
has_in_order [] r h = h
has_in_order (p ∷ ps) r h = elim (has_put (lower_first p) (in_order ps) r h) [ inl e ↦ inl e | inr k ↦ inr (has_in_order ps r k) ]

pub in_order_has : (ps : List (ℕ × ℕ)) (r : ℕ × ℕ) → Has (map lower_first ps) r → Has (in_order ps) r
in_order_has [] r h = h
in_order_has (p ∷ ps) r (inl e) = put_has (lower_first p) (in_order ps) r (inl e)
in_order_has (p ∷ ps) r (inr k) = put_has (lower_first p) (in_order ps) r (inr (in_order_has ps r k))

-- rising lists of the same pairs are one

pub same_rising : (xs ys : List (ℕ × ℕ)) → Rising xs → Rising ys → ((r : ℕ × ℕ) → Has xs r → Has ys r) → ((r : ℕ × ℕ) → Has ys r → Has xs r) → xs ≡ ys
same_rising [] [] rx ry there back = refl
same_rising [] (y ∷ ys) rx ry there back = absurd (back y (inl refl))
same_rising (x ∷ xs) [] rx ry there back = absurd (there x (inl refl))
same_rising (x ∷ xs) (y ∷ ys) rx ry there back =
    λ i. heads i ∷ same_rising xs ys rx.1 ry.1 (λ r h. tail_there r h (there r (inr h))) (λ r h. tail_back r h (back r (inr h))) i
  where
    first : (x ≡ y) ⊎ Has ys x → (y ≡ x) ⊎ Has xs y → x ≡ y
    first (inl e) h = e
    first (inr k) (inl e) = sym e
    first (inr k) (inr m) = absurd (before_both x y (rx.0 y m) (ry.0 x k))

    heads : x ≡ y
    heads = first (there x (inl refl)) (back y (inl refl))

    tail_there : (r : ℕ × ℕ) → Has xs r → (r ≡ y) ⊎ Has ys r → Has ys r
    tail_there r h (inl e) = absurd (before_itself x (subst (λ z. Before x z) (e ∙ sym heads) (rx.0 r h)))
    tail_there r h (inr k) = k

    tail_back : (r : ℕ × ℕ) → Has ys r → (r ≡ x) ⊎ Has xs r → Has xs r
    tail_back r h (inl e) = absurd (before_itself y (subst (λ z. Before y z) (e ∙ heads) (ry.0 r h)))
    tail_back r h (inr k) = k

-- sorted, and without repeats

abbrev pub pair_cmp : ℕ × ℕ → ℕ × ℕ → Ordering
pair_cmp x y = ordering_then (nat_cmp x.0 y.0) (nat_cmp x.1 y.1)

pairs_total : IsTotalOrder pair_cmp
pairs_total = then_total (on_total (λ p. p.0) nat_cmp_total) (on_total (λ p. p.1) nat_cmp_total)

tie : (a c : ℕ) (o : Ordering) → MatchOrdering o (a < c) (a ≡ c) (c < a) → eqb a c ≡ is_eq o
tie a c Less h = ne_eqb a c (λ e. omega arith)
tie a c Equal h = eq-eqb a c h
tie a c Greater h = ne_eqb a c (λ e. omega arith)

tie_both : (o p : Ordering) → (is_eq o && is_eq p) ≡ is_eq (ordering_then o p)
tie_both Less p = refl
tie_both Equal p = refl
tie_both Greater p = refl

ties : (x y : ℕ × ℕ) → is_same x y ≡ eq_by_cmp pair_cmp x y
ties x y =
    ap (λ b. b && eqb x.1 y.1) (tie x.0 y.0 (nat_cmp x.0 y.0) (ranked x.0 y.0 (nat_cmp x.0 y.0) refl))
    ∙ ap (λ b. is_eq (nat_cmp x.0 y.0) && b) (tie x.1 y.1 (nat_cmp x.1 y.1) (ranked x.1 y.1 (nat_cmp x.1 y.1) refl))
    ∙ tie_both (nat_cmp x.0 y.0) (nat_cmp x.1 y.1)

same_equivalence : IsEquivalence is_same
same_equivalence = subst (λ (e : ℕ × ℕ → ℕ × ℕ → Bool). IsEquivalence e) (λ i x y. sym (ties x y) i) (eq_by_cmp_equiv pairs_total)

less_before : (x y : ℕ × ℕ) → pair_cmp x y ≡ Less → Before x y
less_before x y e = go (nat_cmp x.0 y.0) (nat_cmp x.1 y.1) (ranked x.0 y.0 (nat_cmp x.0 y.0) refl) (ranked x.1 y.1 (nat_cmp x.1 y.1) refl) e
  where
    go : (o p : Ordering) → MatchOrdering o (x.0 < y.0) (x.0 ≡ y.0) (y.0 < x.0) → MatchOrdering p (x.1 < y.1) (x.1 ≡ y.1) (y.1 < x.1) → ordering_then o p ≡ Less → Before x y
    go Less p h k e = inl h
    go Equal Less h k e = inr (h, k)
    go Equal Equal h k e = cc
    go Equal Greater h k e = cc
    go Greater p h k e = cc

all_before : (x : ℕ × ℕ) (xs : List (ℕ × ℕ)) → AllByRecursion (λ y. pair_cmp x y ≡ Less) xs → (q : ℕ × ℕ) → Has xs q → Before x q
all_before x [] h q k = absurd k
all_before x (y ∷ ys) h q (inl e) = subst (λ z. Before x z) (sym e) (less_before x y h.0)
all_before x (y ∷ ys) h q (inr k) = all_before x ys h.1 q k

rising_sorted : (xs : List (ℕ × ℕ)) → IsStrictlySortedBy pair_cmp xs → Rising xs
unfolding IsStrictlySortedBy
rising_sorted [] h = tt
rising_sorted (x ∷ xs) h = (all_before x xs h.0, rising_sorted xs h.1)

contains_has : (xs : List (ℕ × ℕ)) (x : ℕ × ℕ) → Contains xs x → Has xs x
contains_has xs x h = subst (λ z. Has xs z) h.2 (get_has xs h.0 x h.1)

has_contains : (xs : List (ℕ × ℕ)) (x : ℕ × ℕ) → Has xs x → Contains xs x
has_contains [] x h = absurd h
has_contains (y ∷ ys) x (inl e) = (0, omega arith, sym e)
has_contains (y ∷ ys) x (inr h) = let r = has_contains ys x h in (suc r.0, omega (arith, r.1), r.2)

pub sorted_is : (ps turned sorted kept : List (ℕ × ℕ)) → turned ≡ map lower_first ps → IsPermutation turned sorted → IsSorted pair_cmp sorted
    → kept ≡ dedup is_same sorted → kept ≡ in_order ps
sorted_is ps turned sorted kept e moved up is =
    let rises : Rising kept = subst (λ z. Rising z) (sym is) (rising_sorted (dedup is_same sorted) (IsStrictlySortedBy-dedup pairs_total ties sorted up)) in
    same_rising kept (in_order ps) rises (rising_in_order ps)
    (λ r h.
    in_order_has ps r
    (subst (λ z. Has z r) e
    (contains_has turned r
    (Contains-permutation sorted turned r (IsPermutation-sym turned sorted moved)
    (Contains-from_dedup is_same sorted r (has_contains (dedup is_same sorted) r (subst (λ z. Has z r) is h)))))))
    (λ r h.
    subst (λ z. Has z r) (sym is)
    (contains_has (dedup is_same sorted) r
    (Contains-dedup same_equivalence same_pair sorted r
    (Contains-permutation turned sorted r moved (has_contains turned r (subst (λ z. Has z r) (sym e) (has_in_order ps r h)))))))

-- a test that holds of both pairs turned round holds of all in order

pub every_put : (test : ℕ × ℕ → Bool) (p : ℕ × ℕ) (qs : List (ℕ × ℕ)) → test p ≡ true → every test qs ≡ true → every test (put p qs) ≡ true
every_put test p qs h k = every_from test (put p qs) (λ r has. go r (has_put p qs r has))
  where
    go : (r : ℕ × ℕ) → (r ≡ p) ⊎ Has qs r → test r ≡ true
    go r (inl e) = ap test e ∙ h
    go r (inr m) = every_has test qs r k m

pub every_in_order : (test : ℕ × ℕ → Bool) (ps : List (ℕ × ℕ)) → ((p : ℕ × ℕ) → test p ≡ true → test (lower_first p) ≡ true) → every test ps ≡ true → every test (in_order ps) ≡ true
every_in_order test [] turns h = refl
every_in_order test (p ∷ ps) turns h =
    let both = and_parts (test p) (every test ps) h in
    every_put test (lower_first p) (in_order ps) (turns p both.0) (every_in_order test ps turns both.1)
