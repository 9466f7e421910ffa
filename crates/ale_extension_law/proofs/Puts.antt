-- The facts of a structure that is put among others, and the morphism by which it goes.
use Rattle.std.proofs.Common.{◌≡◌, ◌≢◌, ℕ, zero, suc, ◌+◌, ◌<◌, Bool, true, false, eqb, ltb, IsTrue, List, [], ◌∷◌, length, get_or, ◌⊎◌, inl, inr, refl, sym, ap, ◌∙◌, subst, arith, Some, if◌then◌else◌}
use Rattle.std.proofs.lemmas.Bool.{and_parts, eqb-true, eq-eqb, ltb-true}
use Rattle.ale_declared.specs.Lists.{Has, every}
use Rattle.ale_hierarchy.specs.Hierarchy.{Hierarchy, Above}
use Rattle.ale_graph.specs.declared.fact.Fact.TheVariants.{OfType, Value, Differ}
use Rattle.ale_graph.specs.declared.node.Node.{Node}
use Rattle.ale_graph.specs.Structures.{Structure, count, type_of, value_in, value_of, is_rising, is_node, is_formed}
use Rattle.ale_graph.specs.Facts.{HoldsFact, Holds}
use Rattle.ale_graph.specs.Morphisms.{IsMorphismAside}
use Rattle.ale_graph.proofs.Lists.{some_one, none_some, has_left, has_right, has_either, every_has}
use Rattle.ale_graph.proofs.Structures.{get_has}
use Rattle.ale_logic.specs.Putting.{value_facts, node_facts, pair_facts, graph_facts}
use Rattle.ale_logic.specs.PutLaws.{PutLaws}

abbrev pub past : Node
past = record { of = 0; values = [] }

module _ (by : ℕ) where
  value_told : (n : ℕ) (vs : List (ℕ × ℕ)) (f m : ℕ) → value_in vs f ≡ Some m → Has (value_facts by n vs) (Value (by + n) f (by + m))
  value_told n [] f m e = absurd (none_some e)
  value_told n (v ∷ vs) f m e = go (value_told n vs f m) (eqb v.0 f) refl e
    where
      Told : Type 0
      Told = Has (Value (by + n) v.0 (by + v.1) ∷ value_facts by n vs) (Value (by + n) f (by + m))

      go : (value_in vs f ≡ Some m → Has (value_facts by n vs) (Value (by + n) f (by + m))) → (t : Bool) → eqb v.0 f ≡ t → (if t then Some v.1 else value_in vs f) ≡ Some m → Told
      go ih true same e =
          let first : v.0 ≡ f = eqb-true v.0 f same in
          let second : v.1 ≡ m = some_one e in
          inl (sym (ap (λ a. Value (by + n) a (by + v.1)) first ∙ ap (λ b. Value (by + n) f (by + b)) second))
      go ih false other e = inr (ih e)

  pair_told : (ps : List (ℕ × ℕ)) (a b : ℕ) → Has ps (a, b) → Has (pair_facts by ps) (Differ (by + a) (by + b))
  pair_told [] a b k = absurd k
  pair_told (p ∷ ps) a b (inl e) = inl (ap (λ (q : ℕ × ℕ). Differ (by + q.0) (by + q.1)) e)
  pair_told (p ∷ ps) a b (inr k) = inr (pair_told ps a b k)

  module _ (h : Hierarchy) (t : Structure) (to : ℕ → ℕ) where
    types_down : (xs : List Node) (n : ℕ) → Holds h t to (node_facts by n xs) → (j : ℕ) → j < length xs → Above h (get_or xs j past).of (type_of t (to (by + (n + j))))
    types_down [] n k j low = absurd (omega arith)
    types_down (x ∷ xs) n k zero low =
        let same : n ≡ n + zero = omega arith in
        subst (λ i. Above h x.of (type_of t (to (by + i)))) same (k (OfType (by + n) x.of) (inl refl))
    types_down (x ∷ xs) n k (suc j) low =
        let same : suc n + j ≡ n + suc j = omega arith in
        subst (λ i. Above h (get_or xs j past).of (type_of t (to (by + i)))) same
        (types_down xs (suc n) (λ y there. k y (has_right (OfType (by + n) x.of ∷ value_facts by n x.values) (node_facts by (suc n) xs) y there)) j (omega arith))

    values_down : (xs : List Node) (n : ℕ) → Holds h t to (node_facts by n xs) → (j f m : ℕ) → value_in (get_or xs j past).values f ≡ Some m → value_of t (to (by + (n + j))) f ≡ Some (to (by + m))
    values_down [] n k j f m e = absurd (none_some e)
    values_down (x ∷ xs) n k zero f m e =
        let same : n ≡ n + zero = omega arith in
        subst (λ i. value_of t (to (by + i)) f ≡ Some (to (by + m))) same
        (k (Value (by + n) f (by + m)) (inr (has_left (value_facts by n x.values) (node_facts by (suc n) xs) (Value (by + n) f (by + m)) (value_told n x.values f m e))))
    values_down (x ∷ xs) n k (suc j) f m e =
        let same : suc n + j ≡ n + suc j = omega arith in
        subst (λ i. value_of t (to (by + i)) f ≡ Some (to (by + m))) same
        (values_down xs (suc n) (λ y there. k y (has_right (OfType (by + n) x.of ∷ value_facts by n x.values) (node_facts by (suc n) xs) y there)) j f m e)

    down : (g : Structure) → ((n : ℕ) → n < count g → to (by + n) < count t) → Holds h t to (graph_facts by g) → IsMorphismAside h g t (λ n. to (by + n))
    down g into k = record {
      into = into;
      types = λ n low. from_zero n (λ i. Above h (type_of g n) (type_of t (to (by + i)))) (types_down g.nodes 0 nodes n low);
      values = λ n f m e. from_zero n (λ i. value_of t (to (by + i)) f ≡ Some (to (by + m))) (values_down g.nodes 0 nodes n f m e);
      differs = λ a b there. k (Differ (by + a) (by + b)) (has_right (node_facts by 0 g.nodes) (pair_facts by g.differ) (Differ (by + a) (by + b)) (pair_told g.differ a b there));
    }
      where
        nodes : Holds h t to (node_facts by 0 g.nodes)
        nodes x there = k x (has_left (node_facts by 0 g.nodes) (pair_facts by g.differ) x there)

        from_zero : (n : ℕ) (P : ℕ → Type 0) → P (0 + n) → P n
        from_zero n P p = let same : 0 + n ≡ n = omega arith in subst P same p

    -- in rising values each one is the value by its feature
    pub value_there : (vs : List (ℕ × ℕ)) → is_rising vs ≡ true → (v : ℕ × ℕ) → Has vs v → value_in vs v.0 ≡ Some v.1
    value_there [] rising v k = absurd k
    value_there (w ∷ vs) rising v k = go (value_there vs (and_parts (every (λ u. ltb w.0 u.0) vs) (is_rising vs) rising).1 v) k
      where
        first : (b : Bool) → b ≡ true → (if b then Some w.1 else value_in vs w.0) ≡ Some w.1
        first true e = refl
        first false e = absurd cc

        later : (b : Bool) → b ≡ eqb w.0 v.0 → w.0 < v.0 → value_in vs v.0 ≡ Some v.1 → (if b then Some w.1 else value_in vs v.0) ≡ Some v.1
        later true e less there = let same : w.0 ≡ v.0 = eqb-true w.0 v.0 (sym e) in absurd (omega arith)
        later false e less there = there

        go : (Has vs v → value_in vs v.0 ≡ Some v.1) → (v ≡ w) ⊎ Has vs v → value_in (w ∷ vs) v.0 ≡ Some v.1
        go ih (inl e) = subst (λ (u : ℕ × ℕ). value_in (w ∷ vs) u.0 ≡ Some u.1) (sym e) (first (eqb w.0 w.0) (eq-eqb w.0 w.0 refl))
        go ih (inr there) =
            let less : w.0 < v.0 = ltb-true w.0 v.0 (every_has (λ (u : ℕ × ℕ). ltb w.0 u.0) vs v (and_parts (every (λ u. ltb w.0 u.0) vs) (is_rising vs) rising).0 there) in
            later (eqb w.0 v.0) refl less (ih there)

    values_up : (n : ℕ) (vs ws : List (ℕ × ℕ)) → ((v : ℕ × ℕ) → Has vs v → value_in ws v.0 ≡ Some v.1) → ((f m : ℕ) → value_in ws f ≡ Some m → value_of t (to (by + n)) f ≡ Some (to (by + m))) →
        Holds h t to (value_facts by n vs)
    values_up n [] ws among on x k = absurd k
    values_up n (v ∷ vs) ws among on x (inl e) = subst (HoldsFact h t to) (sym e) (on v.0 v.1 (among v (inl refl)))
    values_up n (v ∷ vs) ws among on x (inr k) = values_up n vs ws (λ u there. among u (inr there)) on x k

    nodes_up : (xs : List Node) (n : ℕ) → ((j : ℕ) → j < length xs → is_rising (get_or xs j past).values ≡ true) →
        ((j : ℕ) → j < length xs → Above h (get_or xs j past).of (type_of t (to (by + (n + j))))) →
        ((j f m : ℕ) → value_in (get_or xs j past).values f ≡ Some m → value_of t (to (by + (n + j))) f ≡ Some (to (by + m))) →
        Holds h t to (node_facts by n xs)
    nodes_up [] n rising types values x k = absurd k
    nodes_up (y ∷ xs) n rising types values x k = go
        (nodes_up xs (suc n) (λ j low. rising (suc j) (omega arith))
        (λ j low. on j (λ i. Above h (get_or xs j past).of (type_of t (to (by + i)))) (types (suc j) (omega arith)))
        (λ j f m e. on j (λ i. value_of t (to (by + i)) f ≡ Some (to (by + m))) (values (suc j) f m e)))
        (has_either (OfType (by + n) y.of ∷ value_facts by n y.values) (node_facts by (suc n) xs) x k)
      where
        back : (P : ℕ → Type 0) → P (n + zero) → P n
        back P p = let same : n + zero ≡ n = omega arith in subst P same p

        on : (j : ℕ) (P : ℕ → Type 0) → P (n + suc j) → P (suc n + j)
        on j P p = let same : n + suc j ≡ suc n + j = omega arith in subst P same p

        go : Holds h t to (node_facts by (suc n) xs) → Has (OfType (by + n) y.of ∷ value_facts by n y.values) x ⊎ Has (node_facts by (suc n) xs) x → HoldsFact h t to x
        go rest (inl (inl e)) = subst (HoldsFact h t to) (sym e) (back (λ i. Above h y.of (type_of t (to (by + i)))) (types zero (omega arith)))
        go rest (inl (inr there)) =
            values_up n y.values y.values (value_there y.values (rising zero (omega arith)))
            (λ f m e. back (λ i. value_of t (to (by + i)) f ≡ Some (to (by + m))) (values zero f m e)) x there
        go rest (inr there) = rest x there

    pairs_up : (ps : List (ℕ × ℕ)) → ((a b : ℕ) → Has ps (a, b) → to (by + a) ≢ to (by + b)) → Holds h t to (pair_facts by ps)
    pairs_up [] apart x k = absurd k
    pairs_up (p ∷ ps) apart x (inl e) = subst (HoldsFact h t to) (sym e) (apart p.0 p.1 (inl refl))
    pairs_up (p ∷ ps) apart x (inr k) = pairs_up ps (λ a b there. apart a b (inr there)) x k

    up : (g : Structure) → IsTrue (is_formed g) → IsMorphismAside h g t (λ n. to (by + n)) → Holds h t to (graph_facts by g)
    up g formed m x k = go (has_either (node_facts by 0 g.nodes) (pair_facts by g.differ) x k)
      where
        rising : (j : ℕ) → j < count g → is_rising (get_or g.nodes j past).values ≡ true
        rising j low =
            let nodes : every (is_node (count g)) g.nodes ≡ true = (and_parts (every (is_node (count g)) g.nodes) _ formed).0 in
            let node : is_node (count g) (get_or g.nodes j past) ≡ true = every_has (is_node (count g)) g.nodes (get_or g.nodes j past) nodes (get_has g.nodes j past low) in
            (and_parts (every (λ (v : ℕ × ℕ). ltb v.1 (count g)) (get_or g.nodes j past).values) (is_rising (get_or g.nodes j past).values) node).1

        to_zero : (n : ℕ) (P : ℕ → Type 0) → P n → P (0 + n)
        to_zero n P p = let same : n ≡ 0 + n = omega arith in subst P same p

        go : Has (node_facts by 0 g.nodes) x ⊎ Has (pair_facts by g.differ) x → HoldsFact h t to x
        go (inl there) = nodes_up g.nodes 0 rising
            (λ j low. to_zero j (λ i. Above h (type_of g j) (type_of t (to (by + i)))) (m.types j low))
            (λ j f v e. to_zero j (λ i. value_of t (to (by + i)) f ≡ Some (to (by + v))) (m.values j f v e)) x there
        go (inr there) = pairs_up g.differ m.differs x there

pub put_law : PutLaws
put_law h t to by g = record { down = down by h t to g; up = up by h t to g }
