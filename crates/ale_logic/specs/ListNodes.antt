-- Nodes that are lists: the empty one, and one with a first member and the others.
-- Source: lists of B. Carpenter and G. Penn, ALE 3.2 User's Guide.
use Rattle.std.specs.Prelude.{◌≡◌, ℕ, Option, Some, None}
use Rattle.ale_hierarchy.specs.Hierarchy.{Hierarchy, Above}
use Rattle.ale_graph.specs.Structures.{Structure, type_of, value_of}
use Rattle.ale_logic.specs.Programs.{ListTypes, Program}

-- a list's first member and the list of the others, where they are there
abbrev pub hd_of : Option ListTypes → Structure → ℕ → Option ℕ
hd_of None s m = None
hd_of (Some l) s m = value_of s m l.hd

abbrev pub tl_of : Option ListTypes → Structure → ℕ → Option ℕ
tl_of None s m = None
tl_of (Some l) s m = value_of s m l.tl

abbrev pub IsHd : Program → Structure → ℕ → ℕ → Type 0
IsHd program s m hd = hd_of program.lists s m ≡ Some hd

abbrev pub IsTl : Program → Structure → ℕ → ℕ → Type 0
IsTl program s m tl = tl_of program.lists s m ≡ Some tl

-- the node is the empty list
abbrev pub IsEmptyListOf : Hierarchy → Option ListTypes → Structure → ℕ → Type 0
IsEmptyListOf h None s m = ⊥
IsEmptyListOf h (Some l) s m = Above h l.e_list (type_of s m)

-- the node is a list with members
abbrev pub IsNonEmptyListOf : Hierarchy → Option ListTypes → Structure → ℕ → Type 0
IsNonEmptyListOf h None s m = ⊥
IsNonEmptyListOf h (Some l) s m = Above h l.ne_list (type_of s m)

abbrev pub IsEmptyList : Hierarchy → Program → Structure → ℕ → Type 0
IsEmptyList h program s m = IsEmptyListOf h program.lists s m

abbrev pub IsNonEmptyList : Hierarchy → Program → Structure → ℕ → Type 0
IsNonEmptyList h program s m = IsNonEmptyListOf h program.lists s m

-- a list with members, of which `hd` is the first, and `tl` the list of the others
pub record IsCell (h : Hierarchy) (program : Program) (s : Structure) (m hd tl : ℕ) : Type 0 where
  pub is_list : IsNonEmptyList h program s m
  pub hd_is : IsHd program s m hd
  pub tl_is : IsTl program s m tl
