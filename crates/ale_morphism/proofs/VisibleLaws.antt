-- What the visible part of a structure is.
use Rattle.std.proofs.Common.{◌≡◌, ℕ, zero, suc, ◌<◌, ◌≤◌, Bool, true, false, ◌&&◌, ◌||◌, eqb, IsTrue, List, [], ◌∷◌, ◌++◌, map, length, get_or, option_map, ◌⊎◌, inl, inr, refl, sym, ap, ◌∙◌, subst, arith, Option, Some, None, if◌then◌else◌}
use Rattle.std.proofs.lemmas.Bool.{and_parts, eqb-true, eq-eqb, ne_eqb}
use Rattle.std.proofs.lemmas.List.{length-map, same_lists, get_or_default}
use Rattle.ale_declared.specs.Lists.{Has, upto}
use Rattle.ale_hierarchy.specs.Hierarchy.{Hierarchy, Above}
use Rattle.ale_graph.specs.declared.node.Node.{Node}
use Rattle.ale_graph.specs.Structures.{Structure, count, node_at, type_of, value_in, value_of, root_at, is_formed}
use Rattle.ale_graph.specs.Morphisms.{IsMorphism}
use Rattle.ale_graph.specs.Closure.{classes_below, place}
use Rattle.ale_morphism.specs.Rooted.{FromRoots}
use Rattle.ale_morphism.specs.Visible.{Visible, some, is_bound_to, is_start, is_value_of, is_reached, is_visible, visible_below, renumbered, origin, visible_node, visible}
use Rattle.ale_morphism.specs.VisibleLaws.{IsPart, VisibleLaw, VisibleTwice, VisibleRooted, VisibleSubsumes}
use Rattle.ale_graph.proofs.Lists.{some_one, none_some, has_map, below_upto, length_upto, get_upto}
use Rattle.ale_graph.proofs.Structures.{get_has, get_past, value_from, value_inside}
use Rattle.ale_graph.proofs.Vectors.{get_map}
use Rattle.ale_graph.proofs.Mapped.{mapped_value}
use Rattle.ale_graph.proofs.Places.{stands, has_class}
use Rattle.ale_morphism.proofs.MorphismSteps.{entry_of, entry_value}
use Rattle.ale_morphism.proofs.Reaching.{some_from, value_visible}
use Rattle.ale_morphism.proofs.ReachSteps.{node_parts, value_inside as value_below, pair_inside, root_inside, root_below, root_visible, pair_visible, number_below, total, visible_formed}

-- where some element passes a test, it is one of the list
some_has : {A : Type 0} (test : A → Bool) (xs : List A) → some test xs ≡ true → (x : A) × Has xs x × (test x ≡ true)
some_has test [] e = let bad : false ≡ true = e in absurd cc
some_has test (x ∷ xs) e = go (some_has test xs) (test x) refl e
  where
    go : (some test xs ≡ true → (y : _) × Has xs y × (test y ≡ true)) → (t : Bool) → test x ≡ t → (t || some test xs) ≡ true → (y : _) × Has (x ∷ xs) y × (test y ≡ true)
    go ih true is e = (x, inl refl, is)
    go ih false is e = let r = ih e in (r.0, inr r.1, r.2)

either_true : (a b : Bool) → (a || b) ≡ true → (a ≡ true) ⊎ (b ≡ true)
either_true true b e = inl refl
either_true false b e = inr e

-- what is in a list stands at a place
has_place : {A : Type 0} (xs : List A) (x d : A) → Has xs x → (i : ℕ) × (i < length xs) × (get_or xs i d ≡ x)
has_place [] x d h = absurd h
has_place (y ∷ xs) x d (inl e) = (0, omega arith, sym e)
has_place (y ∷ xs) x d (inr h) = let r = has_place xs x d h in let l = r.1 in (suc r.0, omega arith, r.2)

pub has_mapped : {A B : Type 0} (f : A → B) (xs : List A) (x : A) → Has xs x → Has (map f xs) (f x)
has_mapped f [] x h = absurd h
has_mapped f (y ∷ xs) x (inl e) = inl (ap f e)
has_mapped f (y ∷ xs) x (inr h) = inr (has_mapped f xs x h)

map_same : {A : Type 0} (f : A → A) (xs : List A) → ((x : A) → Has xs x → f x ≡ x) → map f xs ≡ xs
map_same f [] all = refl
map_same f (x ∷ xs) all =
    let first = all x (inl refl) in
    let rest = map_same f xs (λ y p. all y (inr p)) in
    λ i. first i ∷ rest i

module _ (s : Structure) (formed : IsTrue (is_formed s)) where
  -- what is reached is visible
  bound_root : (n : ℕ) (o : Option ℕ) → is_bound_to n o ≡ true → o ≡ Some n
  bound_root n None e = let bad : false ≡ true = e in absurd cc
  bound_root n (Some m) e = ap (λ (z : ℕ). Some z) (sym (eqb-true n m e))

  start_is : (n : ℕ) → is_start s n ≡ true → Visible s n
  start_is n e = go (either_true (some (is_bound_to n) s.roots) (some (λ (p : ℕ × ℕ). eqb n p.0 || eqb n p.1) s.differ) e)
    where
      pair : (p : ℕ × ℕ) → Has s.differ p → (eqb n p.0 ≡ true) ⊎ (eqb n p.1 ≡ true) → Visible s n
      pair p h (inl q) = subst (Visible s) (sym (eqb-true n p.0 q)) (Visible.differs_first p.0 p.1 h)
      pair p h (inr q) = subst (Visible s) (sym (eqb-true n p.1 q)) (Visible.differs_second p.0 p.1 h)

      go : (some (is_bound_to n) s.roots ≡ true) ⊎ (some (λ (p : ℕ × ℕ). eqb n p.0 || eqb n p.1) s.differ ≡ true) → Visible s n
      go (inl q) =
          let r = some_has (is_bound_to n) s.roots q in
          let i = has_place s.roots r.0 None r.1 in
          Visible.root i.0 n (i.2 ∙ bound_root n r.0 r.2)
      go (inr q) =
          let r = some_has (λ (p : ℕ × ℕ). eqb n p.0 || eqb n p.1) s.differ q in
          pair r.0 r.1 (either_true (eqb n r.0.0) (eqb n r.0.1) r.2)

  value_is : (n m : ℕ) → m < count s → is_value_of s n m ≡ true → Visible s m → Visible s n
  value_is n m lt e v =
      let r = some_has (λ (v : ℕ × ℕ). eqb n v.1) (node_at s m).values e in
      let q = entry_value (node_at s m).values r.0 (node_parts s formed m lt).1 r.1 in
      subst (Visible s) (sym (eqb-true n r.0.1 r.2)) (Visible.value m r.0.0 r.0.1 v q)

  reached_is : (k n : ℕ) → is_reached s k n ≡ true → Visible s n
  reached_is zero n e = start_is n e
  reached_is (suc k) n e = go (reached_is k) (either_true (is_reached s k n) (some (λ m. is_reached s k m && is_value_of s n m) (upto (count s))) e)
    where
      go : ((m : ℕ) → is_reached s k m ≡ true → Visible s m) → (is_reached s k n ≡ true) ⊎ (some (λ m. is_reached s k m && is_value_of s n m) (upto (count s)) ≡ true) → Visible s n
      go ih (inl q) = ih n q
      go ih (inr q) =
          let r = some_has (λ m. is_reached s k m && is_value_of s n m) (upto (count s)) q in
          let both = and_parts (is_reached s k r.0) (is_value_of s n r.0) r.2 in
          value_is n r.0 (below_upto (count s) r.0 r.1) both.1 (ih r.0 both.0)

  -- what is visible is reached
  pub visible_reached : (n : ℕ) → Visible s n → (n < count s) × (is_visible s n ≡ true)
  visible_reached n (Visible.root i _ e) = (root_below s formed i n e, root_visible s formed n (go (grind arith)))
    where
      go : (i < length s.roots) ⊎ (length s.roots ≤ i) → Has s.roots (Some n)
      go (inl lt) = subst (Has s.roots) e (get_has s.roots i None lt)
      go (inr le) = absurd (none_some (sym (get_past s.roots i None le) ∙ e))
  visible_reached n (Visible.differs_first _ b h) = ((pair_inside s formed (n, b) h).0, (pair_visible s formed (n, b) h).0)
  visible_reached n (Visible.differs_second a _ h) = ((pair_inside s formed (a, n) h).1, (pair_visible s formed (a, n) h).1)
  visible_reached n (Visible.value m f _ v e) =
      let r = visible_reached m v in
      let below : n < count s = value_inside s formed m f n e in
      let entry : is_value_of s n m ≡ true = some_from (λ (v : ℕ × ℕ). eqb n v.1) (node_at s m).values (f, n) (entry_of (node_at s m).values f n e) (eq-eqb n n refl) in
      (below, value_visible s n m below r.0 r.1 entry)

  -- the visible nodes as classes of their own, by which they stand at their numbers
  seen : ℕ → ℕ
  seen n = if is_visible s n then n else suc n

  seen_test : (n : ℕ) → eqb (seen n) n ≡ is_visible s n
  unfolding seen
  seen_test n = go (is_visible s n)
    where
      go : (t : Bool) → eqb (if t then n else suc n) n ≡ t
      go true = eq-eqb n n refl
      go false = ne_eqb (suc n) n (λ e. absurd (omega arith))

  own : (n : ℕ) → is_visible s n ≡ true → seen n ≡ n
  own n e = eqb-true (seen n) n (seen_test n ∙ e)

  below_is : (c : ℕ) → classes_below seen c ≡ visible_below s c
  below_is zero = refl
  below_is (suc c) =
      ap (λ t. if t then classes_below seen c ++ c ∷ [] else classes_below seen c) (seen_test c)
      ∙ ap (λ (z : List ℕ). if is_visible s c then z ++ c ∷ [] else z) (below_is c)

  place_is : (c : ℕ) → place seen c ≡ renumbered s c
  place_is c = ap (λ (z : List ℕ). length z) (below_is c)

  origin_is : (n : ℕ) → n < count s → is_visible s n ≡ true → origin s (renumbered s n) ≡ n
  origin_is n lt e =
      let st = stands seen (count s) n lt (own n e) in
      sym (ap (λ (z : List ℕ). get_or z (renumbered s n) 0) (below_is (count s))) ∙ ap (λ z. get_or (classes_below seen (count s)) z 0) (sym (place_is n)) ∙ st.is

  -- the node that has a number
  record IsOrigin (k : ℕ) : Type 0 where
    node : ℕ
    below : node < count s
    seen_is : is_visible s node ≡ true
    number_is : renumbered s node ≡ k

  has_origin : (k : ℕ) → k < count (visible s) → IsOrigin k
  has_origin k lt =
      let c = has_class seen (count s) k (subst (λ z. k < z) (total s formed ∙ sym (place_is (count s))) lt) in
      record { node = c.class; below = c.below; seen_is = sym (seen_test c.class) ∙ eq-eqb (seen c.class) c.class c.own; number_is = sym (place_is c.class) ∙ c.place_is }

  -- the origin of a number
  pub record Stems (k : ℕ) : Type 0 where
    pub below : origin s k < count s
    pub seen_is : is_visible s (origin s k) ≡ true
    pub number_is : renumbered s (origin s k) ≡ k

  pub stems : (k : ℕ) → k < count (visible s) → Stems k
  stems k lt =
      let o = has_origin k lt in
      let e : origin s k ≡ o.node = ap (origin s) (sym o.number_is) ∙ origin_is o.node o.below o.seen_is in
      record { below = subst (λ z. z < count s) (sym e) o.below; seen_is = ap (is_visible s) e ∙ o.seen_is; number_is = ap (renumbered s) e ∙ o.number_is }

  pub node_is : (k : ℕ) → k < count (visible s) → node_at (visible s) k ≡ visible_node s (origin s k)
  unfolding visible
  node_is k lt = get_map (visible_node s) (visible_below s (count s)) k 0 (record { of = 0; values = [] }) (subst (λ z. k < z) (total s formed) lt)

  pub value_is_of : (k f : ℕ) → k < count (visible s) → value_of (visible s) k f ≡ option_map (renumbered s) (value_of s (origin s k) f)
  value_is_of k f lt = ap (λ (x : Node). value_in x.values f) (node_is k lt) ∙ mapped_value (renumbered s) (node_at s (origin s k)).values f

  roots_are : (i : ℕ) → root_at (visible s) i ≡ option_map (renumbered s) (root_at s i)
  unfolding visible
  roots_are i = go (grind arith)
    where
      go : (i < length s.roots) ⊎ (length s.roots ≤ i) → get_or (map (option_map (renumbered s)) s.roots) i None ≡ option_map (renumbered s) (get_or s.roots i None)
      go (inl lt) = get_map (option_map (renumbered s)) s.roots i None None lt
      go (inr le) =
          let len = length-map s.roots (option_map (renumbered s)) in
          get_past (map (option_map (renumbered s)) s.roots) i None (omega arith) ∙ sym (ap (option_map (renumbered s)) (get_past s.roots i None le))

  number_in_part : (n : ℕ) → n < count s → is_visible s n ≡ true → renumbered s n < count (visible s)
  number_in_part n lt e = subst (λ z. renumbered s n < z) (sym (total s formed)) (number_below s (count s) n lt e)

  pub is_part : IsPart s (visible s)
  unfolding visible
  is_part = record {
    tested = λ n lt. (λ e. reached_is (count s) n e, λ v. (visible_reached n v).1);
    inside = λ k lt. (stems k lt).below;
    from = λ k lt. reached_is (count s) (origin s k) (stems k lt).seen_is;
    number = λ k lt. (stems k lt).number_is;
    onto = λ n v. (let r = visible_reached n v in number_in_part n r.0 r.1);
    back = λ n v. (let r = visible_reached n v in origin_is n r.0 r.1);
    order = λ a b v lt. number_below s b a lt (visible_reached a v).1;
    types = λ k lt. ap (λ (x : Node). x.of) (node_is k lt);
    values = value_is_of;
    differ = refl;
    roots = refl;
  }

  -- the values of a node of the visible part are those of its origin
  value_stems : (k f m : ℕ) → value_of (visible s) k f ≡ Some m → value_of s (origin s k) f ≡ Some (origin s m)
  value_stems k f m e = go (value_of s (origin s k) f) refl
    where
      lt : k < count (visible s)
      lt = value_from (visible s) k f m e

      go : (o : Option ℕ) → value_of s (origin s k) f ≡ o → value_of s (origin s k) f ≡ Some (origin s m)
      go None q = absurd (none_some (sym (value_is_of k f lt ∙ ap (option_map (renumbered s)) q) ∙ e))
      go (Some n) q =
          let number : renumbered s n ≡ m = some_one (sym (value_is_of k f lt ∙ ap (option_map (renumbered s)) q) ∙ e) in
          let v = visible_reached n (Visible.value (origin s k) f n (reached_is (count s) (origin s k) (stems k lt).seen_is) q) in
          q ∙ ap (λ (z : ℕ). Some z) (sym (origin_is n v.0 v.1) ∙ ap (origin s) number)

  root_stems : (i k : ℕ) → root_at (visible s) i ≡ Some k → root_at s i ≡ Some (origin s k)
  root_stems i k e = go (root_at s i) refl
    where
      go : (o : Option ℕ) → root_at s i ≡ o → root_at s i ≡ Some (origin s k)
      go None q = absurd (none_some (sym (roots_are i ∙ ap (option_map (renumbered s)) q) ∙ e))
      go (Some n) q =
          let number : renumbered s n ≡ k = some_one (sym (roots_are i ∙ ap (option_map (renumbered s)) q) ∙ e) in
          let v = visible_reached n (Visible.root i n q) in
          q ∙ ap (λ (z : ℕ). Some z) (sym (origin_is n v.0 v.1) ∙ ap (origin s) number)

  pair_stems : (a b : ℕ) → Has (visible s).differ (a, b) → Has s.differ (origin s a, origin s b)
  unfolding visible
  pair_stems a b h =
      let r = has_map (λ (p : ℕ × ℕ). (renumbered s p.0, renumbered s p.1)) s.differ (a, b) h in
      let first : a ≡ renumbered s r.0.0 = ap (λ (z : ℕ × ℕ). z.0) r.2 in
      let second : b ≡ renumbered s r.0.1 = ap (λ (z : ℕ × ℕ). z.1) r.2 in
      let v = visible_reached r.0.0 (Visible.differs_first r.0.0 r.0.1 r.1) in
      let w = visible_reached r.0.1 (Visible.differs_second r.0.0 r.0.1 r.1) in
      let one : r.0.0 ≡ origin s a = sym (ap (origin s) first ∙ origin_is r.0.0 v.0 v.1) in
      let two : r.0.1 ≡ origin s b = sym (ap (origin s) second ∙ origin_is r.0.1 w.0 w.1) in
      subst (λ (z : ℕ × ℕ). Has s.differ z) (λ i. (one i, two i)) r.1

  pub kept_to_visible : (h : Hierarchy) (t : Structure) (at : ℕ → ℕ) → IsMorphism h s t at → IsMorphism h (visible s) t (λ k. at (origin s k))
  kept_to_visible h t at m = record {
    aside = record {
      into = λ k lt. m.aside.into (origin s k) (stems k lt).below;
      types = λ k lt. subst (λ z. Above h z (type_of t (at (origin s k)))) (sym (ap (λ (x : Node). x.of) (node_is k lt))) (m.aside.types (origin s k) (stems k lt).below);
      values = λ k f v e. m.aside.values (origin s k) f (origin s v) (value_stems k f v e);
      differs = λ a b p. m.aside.differs (origin s a) (origin s b) (pair_stems a b p);
    };
    roots = λ i k e. m.roots i (origin s k) (root_stems i k e);
  }

  -- what is visible is visible in the visible part too
  pub visible_still : (n : ℕ) → Visible s n → Visible (visible s) (renumbered s n)
  unfolding visible
  visible_still n (Visible.root i _ e) = Visible.root i (renumbered s n) (roots_are i ∙ ap (option_map (renumbered s)) e)
  visible_still n (Visible.differs_first _ b h) = Visible.differs_first (renumbered s n) (renumbered s b) (has_mapped (λ (p : ℕ × ℕ). (renumbered s p.0, renumbered s p.1)) s.differ (n, b) h)
  visible_still n (Visible.differs_second a _ h) = Visible.differs_second (renumbered s a) (renumbered s n) (has_mapped (λ (p : ℕ × ℕ). (renumbered s p.0, renumbered s p.1)) s.differ (a, n) h)
  visible_still n (Visible.value m f _ v e) =
      let r = visible_reached m v in
      let there : value_of (visible s) (renumbered s m) f ≡ Some (renumbered s n) = value_is_of (renumbered s m) f (number_in_part m r.0 r.1) ∙ ap (λ z. option_map (renumbered s) (value_of s z f)) (origin_is m r.0 r.1) ∙ ap (option_map (renumbered s)) e in
      Visible.value (renumbered s m) f (renumbered s n) (visible_still m v) there

  -- each node of the visible part is visible in it
  pub all_visible : (k : ℕ) → k < count (visible s) → Visible (visible s) k
  all_visible k lt = subst (Visible (visible s)) (stems k lt).number_is (visible_still (origin s k) (reached_is (count s) (origin s k) (stems k lt).seen_is))

-- a structure all of whose nodes are visible is its own visible part
module _ (s : Structure) (formed : IsTrue (is_formed s)) (all : (n : ℕ) → n < count s → is_visible s n ≡ true) where
  all_below : (c : ℕ) → c ≤ count s → visible_below s c ≡ upto c
  all_below zero le = refl
  all_below (suc c) le = ap (λ t. if t then visible_below s c ++ c ∷ [] else visible_below s c) (all c (omega arith)) ∙ ap (λ (z : List ℕ). z ++ c ∷ []) (all_below c (omega arith))

  number_same : (n : ℕ) → n ≤ count s → renumbered s n ≡ n
  number_same n le = ap (λ (z : List ℕ). length z) (all_below n le) ∙ length_upto n

  number_kept : (n : ℕ) → n < count s → renumbered s n ≡ n
  number_kept n lt = number_same n (omega arith)

  node_same : (n : ℕ) → n < count s → visible_node s n ≡ node_at s n
  node_same n lt =
      let values = map_same (λ (v : ℕ × ℕ). (v.0, renumbered s v.1)) (node_at s n).values (λ v p. (let q = number_kept v.1 (value_below s formed n lt v p) in λ i. (v.0, q i))) in
      λ i. record { of = (node_at s n).of; values = values i }

  nodes_same : map (visible_node s) (visible_below s (count s)) ≡ s.nodes
  nodes_same =
      ap (map (visible_node s)) (all_below (count s) (omega arith))
      ∙ same_lists (map (visible_node s) (upto (count s))) s.nodes (length-map (upto (count s)) (visible_node s) ∙ length_upto (count s)) (λ k d lt. at k d lt)
    where
      at : (k : ℕ) (d : Node) → k < length (map (visible_node s) (upto (count s))) → get_or (map (visible_node s) (upto (count s))) k d ≡ get_or s.nodes k d
      at k d lt =
          let len = length-map (upto (count s)) (visible_node s) in
          let all = length_upto (count s) in
          let below : k < count s = omega arith in
          get_map (visible_node s) (upto (count s)) k 0 d (omega arith) ∙ ap (visible_node s) (get_upto (count s) k 0 below) ∙ node_same k below
          ∙ get_or_default s.nodes k (record { of = 0; values = [] }) d below

  pub same_part : visible s ≡ s
  unfolding visible
  same_part =
      let differ = map_same (λ (p : ℕ × ℕ). (renumbered s p.0, renumbered s p.1)) s.differ (λ p q. (let i = pair_inside s formed p q in let a = number_kept p.0 i.0 in let b = number_kept p.1 i.1 in λ j. (a j, b j))) in
      let roots = map_same (option_map (renumbered s)) s.roots root in
      λ i. record { nodes = nodes_same i; differ = differ i; roots = roots i }
    where
      root : (o : Option ℕ) → Has s.roots o → option_map (renumbered s) o ≡ o
      root None h = refl
      root (Some m) h = ap (λ (z : ℕ). Some z) (number_kept m (root_inside s formed m h))

-- without differing pairs only the roots reach
pub rooted_is : (s : Structure) → s.differ ≡ [] → (n : ℕ) → Visible s n → FromRoots s n
rooted_is s none n (Visible.root i _ e) = FromRoots.root i n e
rooted_is s none n (Visible.differs_first _ b h) = absurd (subst (λ (z : List (ℕ × ℕ)). Has z (n, b)) none h)
rooted_is s none n (Visible.differs_second a _ h) = absurd (subst (λ (z : List (ℕ × ℕ)). Has z (a, n)) none h)
rooted_is s none n (Visible.value m f _ v e) = FromRoots.value m f n (rooted_is s none m v) e

pub visible_rooted : VisibleRooted
unfolding visible
visible_rooted s formed none n lt =
    rooted_is (visible s) (ap (map (λ (p : ℕ × ℕ). (renumbered s p.0, renumbered s p.1))) none) n (all_visible s formed n lt)

pub visible_law : VisibleLaw
visible_law = is_part

pub visible_twice : VisibleTwice
visible_twice s formed =
    same_part (visible s) (visible_formed s formed) (λ n lt. (visible_reached (visible s) (visible_formed s formed) n (all_visible s formed n lt)).1)

pub visible_subsumes : VisibleSubsumes
visible_subsumes h s t at formed = kept_to_visible s formed h t at
