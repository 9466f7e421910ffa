-- Most general satisfiers of a description where a program says nothing of types: then what is written of an answer is a
-- satisfier itself. Source: most general satisfiers, Carpenter 1992, chapter 4.
use Rattle.std.specs.Prelude.{◌≡◌, ℕ, Some, [], ◌∷◌}
use Rattle.ale_hierarchy.specs.Hierarchy.{Hierarchy}
use Rattle.ale_graph.specs.Structures.{Structure}
use Rattle.ale_logic.specs.Descriptions.{Description}
use Rattle.ale_logic.specs.Inequations.{HasNoInequation}
use Rattle.ale_logic.specs.Programs.{Program}
use Rattle.ale_logic.specs.Solutions.{SolvesDescription}

-- a model with one root, at which the description holds
pub record IsSatisfier (h : Hierarchy) (program : Program) (d : Description) (s : Structure) : Type 0 where
  pub root : ℕ
  pub root_is : s.roots ≡ Some root ∷ []
  pub solves : SolvesDescription h program d s root

-- no constraint and no inequation speaks of what a description doesn't reach
pub record IsBare (program : Program) (d : Description) : Type 0 where
  pub constraints : program.constraints ≡ []
  pub inequations : HasNoInequation d
