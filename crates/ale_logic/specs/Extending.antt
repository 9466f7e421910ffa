-- Extensions of a structure in which what a kept structure asks for is met. This project's own notion: what is dropped
-- from a kept structure is found again in an extension.
use Rattle.std.specs.Prelude.{◌≡◌, ℕ, ◌<◌, ◌≤◌, Some}
use Rattle.ale_declared.specs.Lists.{Has}
use Rattle.ale_hierarchy.specs.Hierarchy.{Hierarchy, Above}
use Rattle.ale_graph.specs.Structures.{Structure, count, type_of}
use Rattle.ale_graph.specs.Extensions.{Extends}
use Rattle.ale_logic.specs.Programs.{Constraint, Program}
use Rattle.ale_logic.specs.Models.{MeetsConstraint, MeetsAt, constraint_at}
use Rattle.ale_logic.specs.Words.{Kept}

-- each node of t behind those of s meets all constraints above its type
abbrev pub AddedMeet : Hierarchy → Program → Structure → Structure → Type 0
AddedMeet h program s t =
    (n k : ℕ) (c : Constraint) → count s ≤ n → n < count t → constraint_at program k ≡ Some c → Above h c.of (type_of t n) → MeetsConstraint h program t c n

-- The extension t of s is sound for a kept structure that goes into s: each added node meets all constraints above
-- its type, the image of each kept node those above the type that the node is kept with, and what was imposed is met.
pub record IsSoundFor (h : Hierarchy) (program : Program) (kept : Kept) (s t : Structure) (map : ℕ → ℕ) : Type 0 where
  pub added : AddedMeet h program s t
  pub images : (n k : ℕ) (c : Constraint) → n < count kept.graph → constraint_at program k ≡ Some c → Above h c.of (type_of kept.graph n) → MeetsConstraint h program t c (map n)
  pub imposed : (n k : ℕ) → Has kept.imposed (n, k) → MeetsAt h program t k (map n)

-- some extension of s is sound for the kept structure, and has what is said of it
pub record HasSoundExtension (h : Hierarchy) (program : Program) (kept : Kept) (s : Structure) (map : ℕ → ℕ) (Says : Structure → Type 0) : Type 0 where
  pub larger : Structure
  pub extends : Extends h s larger
  pub sound : IsSoundFor h program kept s larger map
  pub says : Says larger

-- no constraint is owed: each one above the type of a node was imposed on it
abbrev pub OwesNothing : Hierarchy → Program → Kept → Type 0
OwesNothing h program kept =
    (n k : ℕ) (c : Constraint) → n < count kept.graph → constraint_at program k ≡ Some c → Above h c.of (type_of kept.graph n) → Has kept.imposed (n, k)
