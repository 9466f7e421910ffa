-- An extension adds nothing visible: no node of the structure leads to an added one.
use Rattle.std.proofs.Common.{◌≡◌, ℕ, zero, suc, ◌+◌, ◌-◌, ◌<◌, ◌≤◌, Bool, true, false, ◌&&◌, ltb, IsTrue, ◌↔◌, List, [], ◌∷◌, ◌++◌, map, length, get_or, inl, inr, refl, sym, ap, ◌∙◌, subst, arith, Option, Some, None, if◌then◌else◌}
use Rattle.std.specs.Prelude.{option_map}
use Rattle.std.proofs.lemmas.Bool.{and_parts, and_from, ltb-true, lt-ltb}
use Rattle.ale_declared.specs.Lists.{Has, every}
use Rattle.ale_hierarchy.specs.Hierarchy.{Hierarchy}
use Rattle.ale_graph.specs.declared.node.Node.{Node}
use Rattle.ale_graph.specs.Structures.{Structure, count, node_at, value_in, is_node, is_rising, is_root, is_formed}
use Rattle.ale_graph.specs.Extensions.{Extends}
use Rattle.ale_graph.proofs.Lists.{every_has, has_either}
use Rattle.ale_graph.proofs.Structures.{get_has, value_inside}
use Rattle.ale_morphism.specs.Visible.{Visible, root, differs_first, differs_second, value, is_visible, visible_below, renumbered, visible_node, visible}
use Rattle.ale_morphism.specs.VisibleLaws.{VisibleLaw}
use Rattle.ale_logic.specs.Growing.{rooted, VisibleStays}
use Rattle.ale_extension_law.proofs.Stays as stays

abbrev pair_by : (ℕ → ℕ) → ℕ × ℕ → ℕ × ℕ
pair_by f p = (f p.0, f p.1)

map_alike : {A B : Type 0} (f g : A → B) (xs : List A) → ((x : A) → Has xs x → f x ≡ g x) → map f xs ≡ map g xs
map_alike f g [] alike = refl
map_alike f g (x ∷ xs) alike = ap (λ y. y ∷ map f xs) (alike x (inl refl)) ∙ ap (λ ys. g x ∷ ys) (map_alike f g xs (λ y k. alike y (inr k)))

same_bool : (P : Type 0) (a b : Bool) → (IsTrue a ↔ P) → (IsTrue b ↔ P) → a ≡ b
same_bool P true true i j = refl
same_bool P true false i j = absurd (no (j.1 (i.0 refl)))
  where
    no : IsTrue false → ⊥
    no e = absurd cc
same_bool P false true i j = absurd (no (i.1 (j.0 refl)))
  where
    no : IsTrue false → ⊥
    no e = absurd cc
same_bool P false false i j = refl

root_has : (roots : List (Option ℕ)) (i n : ℕ) → get_or roots i None ≡ Some n → Has roots (Some n)
root_has [] i n e = absurd cc
root_has (r ∷ roots) zero n e = inl (sym e)
root_has (r ∷ roots) (suc i) n e = inr (root_has roots i n e)

roots_in : (n : ℕ) (roots : List (Option ℕ)) → ((m : ℕ) → Has roots (Some m) → m < n) → every (is_root n) roots ≡ true
roots_in n [] low = refl
roots_in n (None ∷ roots) low = roots_in n roots (λ m k. low m (inr k))
roots_in n (Some m ∷ roots) low = and_from (ltb m n) (every (is_root n) roots) (lt-ltb m n (low m (inl refl))) (roots_in n roots (λ k there. low k (inr there)))

formed_with : (s : Structure) (roots : List (Option ℕ)) → IsTrue (is_formed s) → ((n : ℕ) → Has roots (Some n) → n < count s) → IsTrue (is_formed (rooted s roots))
formed_with s roots formed low =
    let parts = and_parts (every (is_node (count s)) s.nodes) _ formed in
    let more = and_parts (every (λ (p : ℕ × ℕ). ltb p.0 (count s) && ltb p.1 (count s)) s.differ) (every (is_root (count s)) s.roots) parts.1 in
    and_from (every (is_node (count s)) s.nodes) _ parts.0 (and_from (every (λ (p : ℕ × ℕ). ltb p.0 (count s) && ltb p.1 (count s)) s.differ) (every (is_root (count s)) roots) more.0 (roots_in (count s) roots low))

pub pair_inside : (s : Structure) → IsTrue (is_formed s) → (p : ℕ × ℕ) → Has s.differ p → (p.0 < count s) × (p.1 < count s)
pair_inside s formed p has =
    let parts = and_parts (every (is_node (count s)) s.nodes) _ formed in
    let more = and_parts (every (λ (q : ℕ × ℕ). ltb q.0 (count s) && ltb q.1 (count s)) s.differ) (every (is_root (count s)) s.roots) parts.1 in
    let both = and_parts (ltb p.0 (count s)) (ltb p.1 (count s)) (every_has (λ (q : ℕ × ℕ). ltb q.0 (count s) && ltb q.1 (count s)) s.differ p more.0 has) in
    (ltb-true p.0 (count s) both.0, ltb-true p.1 (count s) both.1)

below_inside : (s : Structure) (k n : ℕ) → Has (visible_below s k) n → n < k
below_inside s zero n has = absurd has
below_inside s (suc k) n has = go (below_inside s k n) (is_visible s k) has
  where
    go : (Has (visible_below s k) n → n < k) → (b : Bool) → Has (if b then visible_below s k ++ k ∷ [] else visible_below s k) n → n < suc k
    go ih true has = elim (has_either (visible_below s k) (k ∷ []) n has) [
      | inl there ↦ let low = ih there in omega arith
      | inr last ↦ elim last [ inl e ↦ omega arith | inr none ↦ absurd none ]
    ]
    go ih false has = let low = ih has in omega arith

module _ (law : VisibleLaw) (h : Hierarchy) (s t : Structure) (roots : List (Option ℕ)) (ext : Extends h s t) (low : (n : ℕ) → Has roots (Some n) → n < count s) where
  abbrev small : Structure
  small = rooted s roots

  abbrev large : Structure
  large = rooted t roots

  larger : count s ≤ count t
  larger = stays.larger h s t ext

  up : (n : ℕ) → Visible small n → Visible large n
  up _ (root i n e) = root i n e
  up _ (differs_first a b has) = differs_first a b (subst (λ ps. Has ps (a, b)) (sym ext.differ) has)
  up _ (differs_second a b has) = differs_second a b (subst (λ ps. Has ps (a, b)) (sym ext.differ) has)
  up _ (value n f m v e) = value n f m (up n v) (stays.value_stays h s t ext n f m e)

  inside : (n : ℕ) → Visible small n → n < count s
  inside _ (root i n e) = low n (root_has roots i n e)
  inside _ (differs_first a b has) = (pair_inside s ext.smaller.formed (a, b) has).0
  inside _ (differs_second a b has) = (pair_inside s ext.smaller.formed (a, b) has).1
  inside _ (value n f m v e) = value_inside s ext.smaller.formed n f m e

  down : (n : ℕ) → Visible large n → Visible small n
  down _ (root i n e) = root i n e
  down _ (differs_first a b has) = differs_first a b (subst (λ ps. Has ps (a, b)) ext.differ has)
  down _ (differs_second a b has) = differs_second a b (subst (λ ps. Has ps (a, b)) ext.differ has)
  down _ (value n f m v e) =
      let first = down n v in
      value n f m first (sym (ap (λ (x : Node). value_in x.values f) (stays.node_stays h s t ext n (inside n first))) ∙ e)

  wider : (n : ℕ) → n < count s → n < count t
  wider n k = let l = larger in omega arith

  small_is : (n : ℕ) → n < count s → IsTrue (is_visible small n) ↔ Visible small n
  small_is n k = (law small (formed_with s roots ext.smaller.formed low)).tested n k

  large_is : (n : ℕ) → n < count t → IsTrue (is_visible large n) ↔ Visible large n
  large_is n k = (law large (formed_with t roots ext.larger.formed (λ m there. wider m (low m there)))).tested n k

  same_visible : (n : ℕ) → n < count s → is_visible large n ≡ is_visible small n
  same_visible n k =
      let a = small_is n k in
      let b = large_is n (wider n k) in
      same_bool (Visible small n) (is_visible large n) (is_visible small n) (λ e. down n (b.0 e), λ v. b.1 (up n v)) a

  not_visible : (n : ℕ) → count s ≤ n → n < count t → is_visible large n ≡ false
  not_visible n high k = go (is_visible large n) (large_is n k)
    where
      go : (b : Bool) → (IsTrue b ↔ Visible large n) → b ≡ false
      go true i = let there = inside n (down n (i.0 refl)) in absurd (omega arith)
      go false i = refl

  same_below : (k : ℕ) → k ≤ count s → visible_below large k ≡ visible_below small k
  same_below zero le = refl
  same_below (suc k) le =
      ap (λ b. if b then visible_below large k ++ k ∷ [] else visible_below large k) (same_visible k (omega arith))
      ∙ ap (λ xs. if is_visible small k then xs ++ k ∷ [] else xs) (same_below k (omega arith))

  beyond : (k : ℕ) → count s + k ≤ count t → visible_below large (count s + k) ≡ visible_below small (count s)
  beyond zero le = let e : count s + zero ≡ count s = omega arith in ap (visible_below large) e ∙ same_below (count s) (omega arith)
  beyond (suc k) le =
      let e : count s + suc k ≡ suc (count s + k) = omega arith in
      ap (visible_below large) e
      ∙ ap (λ b. if b then visible_below large (count s + k) ++ (count s + k) ∷ [] else visible_below large (count s + k)) (not_visible (count s + k) (omega arith) (omega arith))
      ∙ beyond k (omega arith)

  all_below : visible_below large (count t) ≡ visible_below small (count s)
  all_below =
      let l = larger in
      let e : count t ≡ count s + (count t - count s) = omega arith in
      ap (visible_below large) e ∙ beyond (count t - count s) (omega arith)

  same_number : (n : ℕ) → n < count s → renumbered large n ≡ renumbered small n
  same_number n k = ap length (same_below n (omega arith))

  values_inside : (n : ℕ) → n < count s → (v : ℕ × ℕ) → Has (node_at s n).values v → v.1 < count s
  values_inside n k v has =
      let nodes : every (is_node (count s)) s.nodes ≡ true = (and_parts (every (is_node (count s)) s.nodes) _ ext.smaller.formed).0 in
      let node : is_node (count s) (node_at s n) ≡ true = every_has (is_node (count s)) s.nodes (node_at s n) nodes (get_has s.nodes n (record { of = 0; values = [] }) k) in
      let values = (and_parts (every (λ (w : ℕ × ℕ). ltb w.1 (count s)) (node_at s n).values) (is_rising (node_at s n).values) node).0 in
      ltb-true v.1 (count s) (every_has (λ (w : ℕ × ℕ). ltb w.1 (count s)) (node_at s n).values v values has)

  same_node : (n : ℕ) → n < count s → visible_node large n ≡ visible_node small n
  same_node n k =
      ap (λ (x : Node). made x.of (map (λ (v : ℕ × ℕ). (v.0, renumbered large v.1)) x.values)) (stays.node_stays h s t ext n k)
      ∙ ap (made (node_at s n).of) (map_alike (λ (v : ℕ × ℕ). (v.0, renumbered large v.1)) (λ (v : ℕ × ℕ). (v.0, renumbered small v.1)) (node_at s n).values (λ v has. ap (λ i. (v.0, i)) (same_number v.1 (values_inside n k v has))))
    where
      made : ℕ → List (ℕ × ℕ) → Node
      made of values = record { of = of; values = values }

  same_nodes : map (visible_node large) (visible_below large (count t)) ≡ map (visible_node small) (visible_below small (count s))
  same_nodes =
      ap (map (visible_node large)) all_below
      ∙ map_alike (visible_node large) (visible_node small) (visible_below small (count s)) (λ n has. same_node n (below_inside small (count s) n has))

  same_pairs : map (pair_by (renumbered large)) t.differ ≡ map (pair_by (renumbered small)) s.differ
  same_pairs =
      ap (map (pair_by (renumbered large))) ext.differ
      ∙ map_alike (pair_by (renumbered large)) (pair_by (renumbered small)) s.differ
      (λ p has. one p (pair_inside s ext.smaller.formed p has))
    where
      one : (p : ℕ × ℕ) → (p.0 < count s) × (p.1 < count s) → pair_by (renumbered large) p ≡ pair_by (renumbered small) p
      one p both = ap (λ i. made i (renumbered large p.1)) (same_number p.0 both.0) ∙ ap (made (renumbered small p.0)) (same_number p.1 both.1)
        where
          made : ℕ → ℕ → ℕ × ℕ
          made a b = (a, b)

  same_roots : map (option_map (renumbered large)) roots ≡ map (option_map (renumbered small)) roots
  same_roots = map_alike (option_map (renumbered large)) (option_map (renumbered small)) roots (λ r has. one r has)
    where
      one : (r : Option ℕ) → Has roots r → option_map (renumbered large) r ≡ option_map (renumbered small) r
      one None has = refl
      one (Some n) has = ap Some (same_number n (low n has))

  same_part : visible large ≡ visible small
  unfolding visible
  same_part =
      ap (λ ns. structure ns (map (pair_by (renumbered large)) t.differ) (map (option_map (renumbered large)) roots)) same_nodes
      ∙ ap (λ ps. structure (map (visible_node small) (visible_below small (count s))) ps (map (option_map (renumbered large)) roots)) same_pairs
      ∙ ap (λ rs. structure (map (visible_node small) (visible_below small (count s))) (map (pair_by (renumbered small)) s.differ) rs) same_roots
    where
      structure : List Node → List (ℕ × ℕ) → List (Option ℕ) → Structure
      structure ns ps rs = record { nodes = ns; differ = ps; roots = rs }

pub visible_stays : VisibleLaw → VisibleStays
visible_stays law h s t roots ext low = same_part law h s t roots ext low
