-- When one structure extends another: by more nodes, behind those that it has. This project's own notion,
-- for structures in which a derivation finds the nodes that it needs.
use Rattle.std.specs.Prelude.{◌≡◌, List, ◌++◌}
use Rattle.ale_hierarchy.specs.Hierarchy.{Hierarchy}
use Rattle.ale_graph.specs.declared.node.Node.{Node}
use Rattle.ale_graph.specs.Structures.{Structure, IsStructure}

-- t has the nodes of s first, with their types and values, and its roots and differing pairs
pub record Extends (h : Hierarchy) (s t : Structure) : Type 0 where
  pub smaller : IsStructure h s
  pub larger : IsStructure h t
  pub nodes : (more : List Node) × (t.nodes ≡ s.nodes ++ more)
  pub differ : t.differ ≡ s.differ
  pub roots : t.roots ≡ s.roots
