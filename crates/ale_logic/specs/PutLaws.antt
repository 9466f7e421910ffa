-- The facts of a structure that is put among others hold exactly where it goes by a morphism.
-- Source: this project's own.
use Rattle.std.specs.Prelude.{ℕ, ◌+◌, ◌<◌, IsTrue}
use Rattle.ale_hierarchy.specs.Hierarchy.{Hierarchy}
use Rattle.ale_graph.specs.Structures.{Structure, count, is_formed}
use Rattle.ale_graph.specs.Facts.{Holds}
use Rattle.ale_graph.specs.Morphisms.{IsMorphismAside}
use Rattle.ale_logic.specs.Putting.{graph_facts}

-- its nodes take the numbers from `by` on
pub record PutLaw (h : Hierarchy) (t : Structure) (to : ℕ → ℕ) (by : ℕ) (g : Structure) : Type 0 where
  pub down : ((n : ℕ) → n < count g → to (by + n) < count t) → Holds h t to (graph_facts by g) → IsMorphismAside h g t (λ n. to (by + n))
  pub up : IsTrue (is_formed g) → IsMorphismAside h g t (λ n. to (by + n)) → Holds h t to (graph_facts by g)

abbrev pub PutLaws : Type 0
PutLaws = (h : Hierarchy) (t : Structure) (to : ℕ → ℕ) (by : ℕ) (g : Structure) → PutLaw h t to by g
