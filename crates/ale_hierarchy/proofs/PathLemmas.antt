-- Paths along edges: the test `leads_through` finds exactly those whose inner nodes are below its bound.
use Rattle.std.proofs.Common.{◌≡◌, sym, ap, subst, ℕ, zero, suc, ◌<◌, true, eqb, List, [], ◌∷◌, length, inl, inr, ◌⊎◌, arith, ◌&&◌}
use Rattle.std.proofs.lemmas.Bool.{and_parts, and_from, or_cases, or_left, or_right, eqb-true, eq-eqb, false≢true, false_from_ne_true}
use Rattle.std.specs.Bool.{Decides}
use Rattle.std.specs.List.{filter}
use Rattle.ale_relation.specs.Has.{Has}
use Rattle.ale_relation.specs.Paths.{Reaches, here, along, Leads}
use Rattle.ale_relation.proofs.Paths.{reaches_trans, reaches_from_leads, reaches_split}
use Rattle.ale_declared.specs.Lists.{upto}
use Rattle.ale_declared.proofs.ListLemmas.{upto_has, length-filter-lt}
use Rattle.ale_hierarchy.specs.Order.{is_edge, leads_through}

-- no node leads back to itself
abbrev pub HasNoCycle : List (ℕ × ℕ) → Type 0
HasNoCycle edges = (t : ℕ) → Leads edges t t → ⊥

-- both ends of each edge are below n
abbrev pub EndsBelow : List (ℕ × ℕ) → ℕ → Type 0
EndsBelow edges n = (a b : ℕ) → Has edges (a, b) → (a < n) × (b < n)

-- a path of one edge
pub Reaches-edge : (edges : List (ℕ × ℕ)) (a b : ℕ) → Has edges (a, b) → Reaches edges a b
Reaches-edge edges a b e = along a b b e (here b)

-- a path on from the end of a path of one or more edges
pub Leads-reaches : (edges : List (ℕ × ℕ)) (a b c : ℕ) → Leads edges a b → Reaches edges b c → Leads edges a c
Leads-reaches edges a b c l r = (l.0, l.1, reaches_trans edges l.0 b c l.2 r)

-- a path leads from one of two different nodes to the other by an edge
pub Leads_apart : (edges : List (ℕ × ℕ)) (a b : ℕ) → Reaches edges a b → (a ≡ b → ⊥) → Leads edges a b
Leads_apart edges a b r apart = elim (reaches_split edges a b r) [ inl e ↦ absurd (apart e) | inr l ↦ l ]

-- without cycles two nodes that lead to each other are one
pub Reaches-antisym : (edges : List (ℕ × ℕ)) (a b : ℕ) → HasNoCycle edges → Reaches edges a b → Reaches edges b a → a ≡ b
Reaches-antisym edges a b free r s =
    elim (reaches_split edges a b r) [ inl e ↦ e | inr l ↦ absurd (free a (Leads-reaches edges a b a l s)) ]

-- a path ends below n where it begins there
pub Reaches_inside : (edges : List (ℕ × ℕ)) (n a b : ℕ) → EndsBelow edges n → Reaches edges a b → a < n → b < n
Reaches_inside edges n a b ends (here _) h = h
Reaches_inside edges n a b ends (along _ m _ e r) h = Reaches_inside edges n m b ends r (ends a m e).1

-- a path begins below n where it ends there
pub Reaches_from_inside : (edges : List (ℕ × ℕ)) (n a b : ℕ) → EndsBelow edges n → Reaches edges a b → b < n → a < n
Reaches_from_inside edges n a b ends (here _) h = h
Reaches_from_inside edges n a b ends (along _ m _ e r) h = (ends a m e).0

-- `is_edge` finds an edge
pub is_edge_has : (edges : List (ℕ × ℕ)) (a b : ℕ) → is_edge edges a b ≡ true → Has edges (a, b)
is_edge_has [] a b h = absurd (false≢true h)
is_edge_has ((x, y) ∷ es) a b h =
    elim (or_cases (eqb x a && eqb y b) (is_edge es a b) h) [
      | inl both ↦
          let parts = and_parts (eqb x a) (eqb y b) both in
          let left : x ≡ a = eqb-true x a parts.0 in
          let right : y ≡ b = eqb-true y b parts.1 in
          inl cc
      | inr rest ↦ inr (is_edge_has es a b rest)
    ]

-- each edge is found
pub is_edge_from : (edges : List (ℕ × ℕ)) (a b : ℕ) → Has edges (a, b) → is_edge edges a b ≡ true
is_edge_from [] a b h = absurd h
is_edge_from ((x, y) ∷ es) a b (inl same) =
    or_left (eqb x a && eqb y b) (is_edge es a b)
    (and_from (eqb x a) (eqb y b) (eq-eqb x a (sym (ap (λ p. p.0) same))) (eq-eqb y b (sym (ap (λ p. p.1) same))))
is_edge_from ((x, y) ∷ es) a b (inr there) =
    or_right (eqb x a && eqb y b) (is_edge es a b) (is_edge_from es a b there)

-- a path of one or more edges from a to b whose nodes between are below m
pub data Through (edges : List (ℕ × ℕ)) (m : ℕ) : ℕ → ℕ → Type 0 where
  edge : (a b : ℕ) → Has edges (a, b) → Through edges m a b
  step : (a k b : ℕ) → k < m → Has edges (a, k) → Through edges m k b → Through edges m a b

-- two such paths, where the node that joins them is below m
pub Through-append : (edges : List (ℕ × ℕ)) (m a k b : ℕ) → k < m → Through edges m a k → Through edges m k b → Through edges m a b
Through-append edges m a k b h (edge _ _ e) q = step a k b h e q
Through-append edges m a k b h (step _ j _ g e p) q = step a j b g e (Through-append edges m j k b h p q)

-- the bound may grow
pub Through_more : (edges : List (ℕ × ℕ)) (m a b : ℕ) → Through edges m a b → Through edges (suc m) a b
Through_more edges m a b (edge _ _ e) = edge a b e
Through_more edges m a b (step _ j _ g e p) = step a j b (omega arith) e (Through_more edges m j b p)

-- a path below suc m passes by m, or goes to m and on from there
pub Through_split : (edges : List (ℕ × ℕ)) (m a b : ℕ) → Through edges (suc m) a b → Through edges m a b ⊎ (Through edges m a m × Through edges m m b)
Through_split edges m a b (edge _ _ e) = inl (edge a b e)
Through_split edges m a b (step _ k _ h e p) = added (below_or_last m k h) (Through_split edges m k b p)
  where
    below_or_last : (m k : ℕ) → k < suc m → (k < m) ⊎ (k ≡ m)
    below_or_last m k h = grind arith

    added : (k < m) ⊎ (k ≡ m) → Through edges m k b ⊎ (Through edges m k m × Through edges m m b) → Through edges m a b ⊎ (Through edges m a m × Through edges m m b)
    added (inl g) (inl q) = inl (step a k b g e q)
    added (inl g) (inr (q, r)) = inr (step a k m g e q, r)
    added (inr g) (inl q) = inr (edge a m (subst (λ z. Has edges (a, z)) g e), subst (λ z. Through edges m z b) g q)
    added (inr g) (inr (q, r)) = inr (edge a m (subst (λ z. Has edges (a, z)) g e), r)

-- what `leads_through` finds is such a path
pub leads_through_to : (edges : List (ℕ × ℕ)) (m a b : ℕ) → leads_through edges m a b ≡ true → Through edges m a b
unfolding leads_through
leads_through_to edges zero a b h = edge a b (is_edge_has edges a b h)
leads_through_to edges (suc m) a b h =
    elim (or_cases (leads_through edges m a b) (leads_through edges m a m && leads_through edges m m b) h) [
      | inl e ↦ Through_more edges m a b (leads_through_to edges m a b e)
      | inr both ↦
          let parts = and_parts (leads_through edges m a m) (leads_through edges m m b) both in
          Through-append edges (suc m) a m b (omega arith)
          (Through_more edges m a m (leads_through_to edges m a m parts.0))
          (Through_more edges m m b (leads_through_to edges m m b parts.1))
    ]

-- `leads_through` finds each such path
pub leads_through_from : (edges : List (ℕ × ℕ)) (m a b : ℕ) → Through edges m a b → leads_through edges m a b ≡ true
unfolding leads_through
leads_through_from edges zero a b (edge _ _ e) = is_edge_from edges a b e
leads_through_from edges zero a b (step _ k _ h e p) = absurd (omega arith)
leads_through_from edges (suc m) a b p =
    elim (Through_split edges m a b p) [
      | inl q ↦ or_left (leads_through edges m a b) (leads_through edges m a m && leads_through edges m m b) (leads_through_from edges m a b q)
      | inr both ↦
          or_right (leads_through edges m a b) (leads_through edges m a m && leads_through edges m m b)
          (and_from (leads_through edges m a m) (leads_through edges m m b)
          (leads_through_from edges m a m both.0) (leads_through_from edges m m b both.1))
    ]

-- a path below some bound is a path
pub Leads_through : (edges : List (ℕ × ℕ)) (m a b : ℕ) → Through edges m a b → Leads edges a b
Leads_through edges m a b (edge _ _ e) = (b, e, here b)
Leads_through edges m a b (step _ k _ h e p) = (k, e, reaches_from_leads edges k b (Leads_through edges m k b p))

-- where the ends of all edges are below n, a path is one below n
pub Through_leads : (edges : List (ℕ × ℕ)) (n a b : ℕ) → EndsBelow edges n → Leads edges a b → Through edges n a b
Through_leads edges n a b ends l = on a l.0 b l.2 l.1
  where
    on : (a k b : ℕ) → Reaches edges k b → Has edges (a, k) → Through edges n a b
    on a k b (here _) e = edge a k e
    on a k b (along _ c _ g r) e = step a k b (ends a k e).1 e (on k c b r g)

-- `leads_through` decides whether edges lead from a to b, where the ends of all edges are below n
pub leads_through-Decides : (edges : List (ℕ × ℕ)) (n a b : ℕ) → EndsBelow edges n → Decides (leads_through edges n a b) (Leads edges a b)
leads_through-Decides edges n a b ends = (
  λ h. Leads_through edges n a b (leads_through_to edges n a b h),
  λ l. leads_through_from edges n a b (Through_leads edges n a b ends l),
)

-- to how many nodes edges lead from a node
abbrev pub led : List (ℕ × ℕ) → ℕ → ℕ → ℕ
led edges n a = length (filter (λ u. leads_through edges n a u) (upto n))

-- without cycles edges lead to fewer nodes from the end of an edge
pub led-less : (edges : List (ℕ × ℕ)) (n a b : ℕ) → EndsBelow edges n → HasNoCycle edges → Has edges (a, b) → led edges n b < led edges n a
led-less edges n a b ends free e =
    length-filter-lt (λ u. leads_through edges n b u) (λ u. leads_through edges n a u) (upto n) b
    (λ u h.
    let on = (leads_through-Decides edges n b u ends).0 h in
    (leads_through-Decides edges n a u ends).1 (b, e, reaches_from_leads edges b u on))
    (upto_has n b (ends a b e).1)
    (false_from_ne_true (leads_through edges n b b) (λ h. free b ((leads_through-Decides edges n b b ends).0 h)))
    ((leads_through-Decides edges n a b ends).1 (b, e, here b))
