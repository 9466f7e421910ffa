-- The map that the walk ends with is the morphism, or there is none.
use Rattle.std.proofs.Common.{◌≡◌, ℕ, ◌<◌, Bool, true, false, IsTrue, ◌↔◌, List, length, get_or, map, sym, ap, ◌∙◌, subst, Option, Some, None}
use Rattle.std.proofs.lemmas.List.{length-map}
use Rattle.ale_hierarchy.specs.Hierarchy.{Hierarchy, Above}
use Rattle.ale_graph.specs.Structures.{Structure, count, type_of, value_of, is_formed}
use Rattle.ale_graph.specs.Morphisms.{IsMorphism}
use Rattle.ale_graph.specs.Universal.{Agree}
use Rattle.ale_morphism.specs.Maps.{image}
use Rattle.ale_morphism.specs.Matched.{IsMatched}
use Rattle.ale_morphism.specs.Walking.{target, targets}
use Rattle.ale_graph.proofs.Structures.{value_from, value_inside}
use Rattle.ale_graph.proofs.Vectors.{get_map}
use Rattle.ale_morphism.proofs.ReachSteps.{pair_inside, root_below}

-- what a map does beyond the nodes doesn't matter
pub morphism_along : (h : Hierarchy) (s t : Structure) → IsTrue (is_formed s) → (f g : ℕ → ℕ) → Agree (count s) f g → IsMorphism h s t f → IsMorphism h s t g
morphism_along h s t formed f g same m = record {
  aside = record {
    into = λ n lt. subst (λ z. z < count t) (same n lt) (m.aside.into n lt);
    types = λ n lt. subst (λ z. Above h (type_of s n) (type_of t z)) (same n lt) (m.aside.types n lt);
    values = λ n x v e. ap (λ z. value_of t z x) (sym (same n (value_from s n x v e))) ∙ m.aside.values n x v e ∙ ap (λ (z : ℕ). Some z) (same v (value_inside s formed n x v e));
    differs = λ a b p q. (let i = pair_inside s formed (a, b) p in m.aside.differs a b p (same a i.0 ∙ q ∙ sym (same b i.1)));
  };
  roots = λ i n e. m.roots i n e ∙ ap (λ (z : ℕ). Some z) (same n (root_below s formed i n e));
}

module _ (s t : Structure) (images : List (Option ℕ)) (k : IsMatched s t images) where
  image_is : (n m : ℕ) → n < count s → get_or images n None ≡ Some m → image (targets t images) t n ≡ m
  image_is n m lt e = get_map (target t) images n None (count t) (subst (λ z. n < z) (sym k.covers) lt) ∙ ap (target t) e

  pub agrees : (h : Hierarchy) (at : ℕ → ℕ) → IsMorphism h s t at → Agree (count s) at (image (targets t images) t)
  agrees h at m n lt = let i = k.all n lt in k.must h at m n i.0 i.1 ∙ sym (image_is n i.0 lt i.1)

  -- of the map that the code makes, and the test of it
  pub map_agrees : (map : List ℕ) → map ≡ targets t images → (h : Hierarchy) (at : ℕ → ℕ) → IsMorphism h s t at → Agree (count s) at (image map t)
  map_agrees map e h at m = subst (λ (z : List ℕ). Agree (count s) at (image z t)) (sym e) (agrees h at m)

  pub map_covers : (map : List ℕ) → map ≡ targets t images → length map ≡ count s
  map_covers map e = ap (λ (z : List ℕ). length z) e ∙ length-map images (target t) ∙ k.covers

  pub none_from : IsTrue (is_formed s) → (map : List ℕ) → map ≡ targets t images → (h : Hierarchy) (b : Bool) → (IsTrue b ↔ IsMorphism h s t (image map t)) → b ≡ false → (at : ℕ → ℕ) → IsMorphism h s t at → ⊥
  none_from formed map e h b decides no-one at m =
      let bad : b ≡ true = decides.1 (morphism_along h s t formed at (image map t) (map_agrees map e h at m) m) in
      (let q : true ≡ false = sym bad ∙ no-one in absurd cc)
