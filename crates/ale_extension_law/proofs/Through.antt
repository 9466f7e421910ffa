-- Extensions of extensions, and maps that agree with a morphism on the nodes.
use Rattle.std.proofs.Common.{◌≡◌, ℕ, ◌<◌, List, ◌++◌, append_assoc, sym, ap, ◌∙◌, subst, Some}
use Rattle.ale_hierarchy.specs.Hierarchy.{Hierarchy, Above}
use Rattle.ale_graph.specs.declared.node.Node.{Node}
use Rattle.ale_graph.specs.Structures.{Structure, IsStructure, count, type_of, value_of}
use Rattle.ale_graph.specs.Morphisms.{IsMorphismAside}
use Rattle.ale_graph.specs.Extensions.{Extends}
use Rattle.ale_graph.proofs.Structures.{value_from, value_inside}
use Rattle.ale_extension_law.proofs.Visible.{pair_inside}

pub extends_through : (h : Hierarchy) (s t u : Structure) → Extends h s t → Extends h t u → Extends h s u
extends_through h s t u a b = record {
  smaller = a.smaller;
  larger = b.larger;
  nodes = (a.nodes.0 ++ b.nodes.0, b.nodes.1 ∙ ap (λ (xs : List Node). xs ++ b.nodes.0) a.nodes.1 ∙ append_assoc s.nodes a.nodes.0 b.nodes.0);
  differ = b.differ ∙ a.differ;
  roots = b.roots ∙ a.roots;
}

-- a map that is a morphism's on the nodes is one
pub along_nodes : (h : Hierarchy) (s t : Structure) (map to : ℕ → ℕ) → IsStructure h s → IsMorphismAside h s t map → ((n : ℕ) → n < count s → to n ≡ map n) → IsMorphismAside h s t to
along_nodes h s t map to str m same = record {
  into = λ n low. subst (λ z. z < count t) (sym (same n low)) (m.into n low);
  types = λ n low. subst (λ z. Above h (type_of s n) (type_of t z)) (sym (same n low)) (m.types n low);
  values = λ n f k e.
      let low = value_from s n f k e in
      let inside = value_inside s str.formed n f k e in
      ap (λ z. value_of t z f) (same n low) ∙ m.values n f k e ∙ ap (λ z. Some z) (sym (same k inside));
  differs = λ a b has e.
      let both = pair_inside s str.formed (a, b) has in
      m.differs a b has (sym (same a both.0) ∙ e ∙ same b both.1);
}
