-- The test of a morphism decides whether there is one.
use Rattle.std.proofs.Common.{◌≡◌, ◌↔◌, ℕ, zero, suc, ◌<◌, Bool, true, false, ◌&&◌, not, eqb, ltb, IsTrue, List, [], ◌∷◌, get_or, drop, ◌⊎◌, inl, inr, refl, sym, ap, ◌∙◌, subst, arith, Option, Some, None}
use Rattle.std.proofs.lemmas.Bool.{and_parts, and_from, eq-eqb, ne_eqb, ltb-true, lt-ltb}
use Rattle.ale_declared.specs.Lists.{Has, upto, every}
use Rattle.ale_hierarchy.specs.Hierarchy.{Hierarchy, Above}
use Rattle.ale_graph.specs.Structures.{Structure, count, node_at, type_of, value_in, value_of, is_rising, is_node, is_formed}
use Rattle.ale_graph.specs.Collapsing.{same_option}
use Rattle.ale_graph.specs.Morphisms.{IsMorphism}
use Rattle.ale_morphism.specs.MorphismTest.{keeps_values, keeps_node, keeps_nodes, keeps_apart, keeps_root, keeps_roots, is_morphism}
use Rattle.ale_graph.proofs.Lists.{some_one, none_some, has_upto, below_upto, every_has, every_from}
use Rattle.ale_graph.proofs.Structures.{get_has, value_from}
use Rattle.ale_graph.proofs.Collapsing.{same_option_true, true_same_option}
use Rattle.ale_graph.proofs.Entries.{value_front, value_behind, same_or_not}

pub every_false : {A : Type 0} (test : A → Bool) (xs : List A) (x : A) → Has xs x → test x ≡ false → every test xs ≡ false
every_false test xs x h e = go (every test xs) refl
  where
    go : (t : Bool) → every test xs ≡ t → t ≡ false
    go true q = let bad : true ≡ false = sym (every_has test xs x q h) ∙ e in absurd cc
    go false q = refl

-- a value by a feature is an entry of the list
pub entry_of : (vs : List (ℕ × ℕ)) (f m : ℕ) → value_in vs f ≡ Some m → Has vs (f, m)
entry_of [] f m e = absurd (none_some e)
entry_of (v ∷ vs) f m e = go (entry_of vs f m) (same_or_not v.0 f)
  where
    go : (value_in vs f ≡ Some m → Has vs (f, m)) → (v.0 ≡ f) ⊎ (v.0 ≡ f → ⊥) → Has (v ∷ vs) (f, m)
    go ih (inl q) =
        let value : v.1 ≡ m = some_one (sym (value_front v vs f q) ∙ e) in
        inl (λ i. (sym q i, sym value i))
    go ih (inr n) = inr (ih (sym (value_behind v vs f n) ∙ e))

-- in a rising list an entry is the value by its feature
pub entry_value : (vs : List (ℕ × ℕ)) (v : ℕ × ℕ) → is_rising vs ≡ true → Has vs v → value_in vs v.0 ≡ Some v.1
entry_value [] v r h = absurd h
entry_value (w ∷ vs) v r (inl e) = value_front w vs v.0 (ap (λ (z : ℕ × ℕ). z.0) (sym e)) ∙ ap (λ (z : ℕ × ℕ). Some z.1) (sym e)
entry_value (w ∷ vs) v r (inr h) =
    let both = and_parts (every (λ (u : ℕ × ℕ). ltb w.0 u.0) vs) (is_rising vs) r in
    let lt = ltb-true w.0 v.0 (every_has (λ (u : ℕ × ℕ). ltb w.0 u.0) vs v both.0 h) in
    value_behind w vs v.0 (λ q. absurd (omega arith)) ∙ entry_value vs v both.1 h

pub first_dropped : (ts : List (Option ℕ)) (i : ℕ) → get_or (drop 1 ts) i None ≡ get_or ts (suc i) None
first_dropped [] i = refl
first_dropped (t ∷ ts) i = refl

roots_to : (at : ℕ → ℕ) (rs ts : List (Option ℕ)) → keeps_roots at rs ts ≡ true → (i n : ℕ) → get_or rs i None ≡ Some n → get_or ts i None ≡ Some (at n)
roots_to at [] ts e i n q = absurd (none_some q)
roots_to at (r ∷ rs) ts e zero n q =
    let both = and_parts (keeps_root at r (get_or ts 0 None)) (keeps_roots at rs (drop 1 ts)) e in
    same_option_true (get_or ts 0 None) (Some (at n)) (subst (λ o. keeps_root at o (get_or ts 0 None) ≡ true) q both.0)
roots_to at (r ∷ rs) ts e (suc i) n q =
    let both = and_parts (keeps_root at r (get_or ts 0 None)) (keeps_roots at rs (drop 1 ts)) e in
    sym (first_dropped ts i) ∙ roots_to at rs (drop 1 ts) both.1 i n q

roots_from : (at : ℕ → ℕ) (rs ts : List (Option ℕ)) → ((i n : ℕ) → get_or rs i None ≡ Some n → get_or ts i None ≡ Some (at n)) → keeps_roots at rs ts ≡ true
roots_from at [] ts all = refl
roots_from at (r ∷ rs) ts all =
    and_from (keeps_root at r (get_or ts 0 None)) (keeps_roots at rs (drop 1 ts)) (front r (λ n q. all 0 n q))
    (roots_from at rs (drop 1 ts) (λ i n q. first_dropped ts i ∙ all (suc i) n q))
  where
    front : (o : Option ℕ) → ((n : ℕ) → o ≡ Some n → get_or ts 0 None ≡ Some (at n)) → keeps_root at o (get_or ts 0 None) ≡ true
    front None k = refl
    front (Some n) k = true_same_option (get_or ts 0 None) (Some (at n)) (k n refl)

module _ (h : Hierarchy) (s t : Structure) (at : ℕ → ℕ) where
  -- what the test of a node says
  node_parts : (n : ℕ) → keeps_node h s t at n ≡ true → (at n < count t) × Above h (type_of s n) (type_of t (at n)) × (keeps_values t at (at n) (node_at s n).values ≡ true)
  node_parts n e =
      let one = and_parts (ltb (at n) (count t)) (h.is_above (type_of s n) (type_of t (at n)) && keeps_values t at (at n) (node_at s n).values) e in
      let two = and_parts (h.is_above (type_of s n) (type_of t (at n))) (keeps_values t at (at n) (node_at s n).values) one.1 in
      (ltb-true (at n) (count t) one.0, two.0, two.1)

  test_to : is_morphism h s t at ≡ true → IsMorphism h s t at
  test_to e = record {
    aside = record {
      into = λ n lt. (node_parts n (node n lt)).0;
      types = λ n lt. (node_parts n (node n lt)).1;
      values = λ n f m q. same_option_true (value_of t (at n) f) (Some (at m)) (every_has (λ (v : ℕ × ℕ). same_option (value_of t (at n) v.0) (Some (at v.1))) (node_at s n).values (f, m) (node_parts n (node n (value_from s n f m q))).2 (entry_of (node_at s n).values f m q));
      differs = λ a b p q. (let keep = every_has (λ (p : ℕ × ℕ). not (eqb (at p.0) (at p.1))) s.differ (a, b) two.0 p in let bad : false ≡ true = sym (ap not (eq-eqb (at a) (at b) q)) ∙ keep in absurd cc);
    };
    roots = roots_to at s.roots t.roots two.1;
  }
    where
      one : (keeps_nodes h s t at ≡ true) × ((keeps_apart at s.differ && keeps_roots at s.roots t.roots) ≡ true)
      one = and_parts (keeps_nodes h s t at) (keeps_apart at s.differ && keeps_roots at s.roots t.roots) e

      two : (keeps_apart at s.differ ≡ true) × (keeps_roots at s.roots t.roots ≡ true)
      two = and_parts (keeps_apart at s.differ) (keeps_roots at s.roots t.roots) one.1

      node : (n : ℕ) → n < count s → keeps_node h s t at n ≡ true
      node n lt = every_has (keeps_node h s t at) (upto (count s)) n one.0 (has_upto (count s) n lt)

  test_from : IsTrue (is_formed s) → IsMorphism h s t at → is_morphism h s t at ≡ true
  test_from formed m =
      and_from (keeps_nodes h s t at) (keeps_apart at s.differ && keeps_roots at s.roots t.roots)
      (every_from (keeps_node h s t at) (upto (count s)) (λ n p. node n (below_upto (count s) n p)))
      (and_from (keeps_apart at s.differ) (keeps_roots at s.roots t.roots)
      (every_from (λ (p : ℕ × ℕ). not (eqb (at p.0) (at p.1))) s.differ (λ p q. ap not (ne_eqb (at p.0) (at p.1) (m.aside.differs p.0 p.1 q))))
      (roots_from at s.roots t.roots m.roots))
    where
      rises : (n : ℕ) → n < count s → is_rising (node_at s n).values ≡ true
      rises n lt =
          let nodes : every (is_node (count s)) s.nodes ≡ true = (and_parts (every (is_node (count s)) s.nodes) _ formed).0 in
          let node = every_has (is_node (count s)) s.nodes (node_at s n) nodes (get_has s.nodes n (record { of = 0; values = [] }) lt) in
          (and_parts (every (λ (v : ℕ × ℕ). ltb v.1 (count s)) (node_at s n).values) (is_rising (node_at s n).values) node).1

      node : (n : ℕ) → n < count s → keeps_node h s t at n ≡ true
      node n lt =
          and_from (ltb (at n) (count t)) (h.is_above (type_of s n) (type_of t (at n)) && keeps_values t at (at n) (node_at s n).values)
          (lt-ltb (at n) (count t) (m.aside.into n lt))
          (and_from (h.is_above (type_of s n) (type_of t (at n))) (keeps_values t at (at n) (node_at s n).values) (m.aside.types n lt)
          (every_from (λ (v : ℕ × ℕ). same_option (value_of t (at n) v.0) (Some (at v.1))) (node_at s n).values
          (λ v p. true_same_option (value_of t (at n) v.0) (Some (at v.1)) (m.aside.values n v.0 v.1 (entry_value (node_at s n).values v (rises n lt) p)))))

  pub test_decides : IsTrue (is_formed s) → (r : Bool) → r ≡ is_morphism h s t at → IsTrue r ↔ IsMorphism h s t at
  test_decides formed r e = (λ q. test_to (sym e ∙ q), λ m. e ∙ test_from formed m)
