-- Models of a program: feature structures in which every node meets the constraints of its type.
-- Source: constraints on types, Carpenter 1992, chapter 15.
use Rattle.std.specs.Prelude.{◌≡◌, ℕ, ◌<◌, Option, Some, None, get_or, map}
use Rattle.ale_hierarchy.specs.Hierarchy.{Hierarchy, Above}
use Rattle.ale_graph.specs.Structures.{Structure, IsStructure, count, type_of}
use Rattle.ale_logic.specs.Descriptions.{HoldsAt, IsAssignment}
use Rattle.ale_logic.specs.Programs.{Constraint, Program, goal_of}
use Rattle.ale_logic.specs.Derivations.{Derivable}

-- under some assignment the constraint's description holds at the node, and its goal can be derived
pub record MeetsConstraint (h : Hierarchy) (program : Program) (s : Structure) (c : Constraint) (n : ℕ) : Type 0 where
  pub assign : ℕ → ℕ
  pub nodes : IsAssignment s assign
  pub holds : HoldsAt h s assign c.desc n
  pub derived : Derivable h program s assign (goal_of c.goal)

-- the constraint with this number, where there is one
abbrev pub constraint_at : Program → ℕ → Option Constraint
constraint_at program k = get_or (map Some program.constraints) k None

-- the node meets the constraint with this number
abbrev pub MeetsAt : Hierarchy → Program → Structure → ℕ → ℕ → Type 0
MeetsAt h program s k n = (c : Constraint) → constraint_at program k ≡ Some c → MeetsConstraint h program s c n

pub record IsModel (h : Hierarchy) (program : Program) (s : Structure) : Type 0 where
  pub structure : IsStructure h s
  pub some_node : 0 < count s
  pub meets : (n k : ℕ) (c : Constraint) → n < count s → constraint_at program k ≡ Some c → Above h c.of (type_of s n) → MeetsConstraint h program s c n
