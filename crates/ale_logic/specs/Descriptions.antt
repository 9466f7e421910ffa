-- Descriptions of nodes, and when one holds at a node of a feature structure.
-- Source: the description language and its satisfaction, Carpenter 1992, chapter 4.
use Rattle.std.specs.Prelude.{◌≡◌, ◌≢◌, ℕ, suc, ◌+◌, ◌<◌, ◌⊎◌, Some, List, [], ◌∷◌, length}
use Rattle.ale_hierarchy.specs.Hierarchy.{Hierarchy, Above}
use Rattle.ale_graph.specs.Structures.{Structure, count, type_of, value_of}
use Rattle.ale_logic.specs.declared.desc.Desc.{Desc, fold-Desc}
use Rattle.ale_logic.specs.declared.desc.Desc.TheOpen.{Desc-F}

-- as plain data: a type, a variable by its slot, a feature and what its value is, several that all hold,
-- several of which one holds, one that holds at some other node, or two paths that end at one node
mutual
  pub data Description : Type 0 where
    of_type : ℕ → Description
    slot : ℕ → Description
    at : ℕ → Description → Description
    all : Descriptions → Description
    any : Descriptions → Description
    differs : Description → Description
    path_equation : List ℕ → List ℕ → Description

  pub data Descriptions : Type 0 where
    none : Descriptions
    more : Description → Descriptions → Descriptions

abbrev pub how_many : Descriptions → ℕ
how_many none = 0
how_many (more d ds) = suc (how_many ds)

abbrev pub descriptions_of : List Description → Descriptions
descriptions_of [] = none
descriptions_of (d ∷ ds) = more d (descriptions_of ds)

abbrev pub description_step : Desc-F Description → Description
description_step (Desc-F.OfType t) = of_type t
description_step (Desc-F.Slot v) = slot v
description_step (Desc-F.At f d) = at f d
description_step (Desc-F.All ds) = all (descriptions_of ds)
description_step (Desc-F.Any ds) = any (descriptions_of ds)
description_step (Desc-F.Differs d) = differs d
description_step (Desc-F.Meet p q) = path_equation p q

-- the plain data of a description of the program
abbrev pub description : Desc → Description
description = fold-Desc Description description_step

-- the path of features leads from node n to node m
abbrev pub LeadsTo : Structure → ℕ → List ℕ → ℕ → Type 0
LeadsTo s n [] m = n ≡ m
LeadsTo s n (f ∷ path) m = (k : ℕ) × (value_of s n f ≡ Some k) × LeadsTo s k path m

-- the paths, from a and from b, are there and end at one node
abbrev pub EndTogether : Structure → ℕ → List ℕ → ℕ → List ℕ → Type 0
EndTogether s a p b q = (m : ℕ) × LeadsTo s a p m × LeadsTo s b q m

-- the description holds at node n of s, where each variable stands for the node that `assign` gives its slot
abbrev mutual
  pub HoldsAt : Hierarchy → Structure → (ℕ → ℕ) → Description → ℕ → Type 0
  HoldsAt h s assign (of_type t) n = Above h t (type_of s n)
  HoldsAt h s assign (slot v) n = assign v ≡ n
  HoldsAt h s assign (at f d) n = (m : ℕ) × (value_of s n f ≡ Some m) × HoldsAt h s assign d m
  HoldsAt h s assign (all ds) n = AllHoldAt h s assign ds n
  HoldsAt h s assign (any ds) n = SomeHoldsAt h s assign ds n
  HoldsAt h s assign (differs d) n = (m : ℕ) × (m < count s) × (n ≢ m) × HoldsAt h s assign d m
  HoldsAt h s assign (path_equation p q) n = EndTogether s n p n q

  pub AllHoldAt : Hierarchy → Structure → (ℕ → ℕ) → Descriptions → ℕ → Type 0
  AllHoldAt h s assign none n = Unit {0}
  AllHoldAt h s assign (more d ds) n = HoldsAt h s assign d n × AllHoldAt h s assign ds n

  pub SomeHoldsAt : Hierarchy → Structure → (ℕ → ℕ) → Descriptions → ℕ → Type 0
  SomeHoldsAt h s assign none n = ⊥
  SomeHoldsAt h s assign (more d ds) n = HoldsAt h s assign d n ⊎ SomeHoldsAt h s assign ds n

-- a node of the structure for each variable
abbrev pub IsAssignment : Structure → (ℕ → ℕ) → Type 0
IsAssignment s assign = (v : ℕ) → assign v < count s

-- the description holds at the node, under some assignment
pub record Describes (h : Hierarchy) (s : Structure) (d : Description) (n : ℕ) : Type 0 where
  pub assign : ℕ → ℕ
  pub nodes : IsAssignment s assign
  pub holds : HoldsAt h s assign d n

-- the features of a path are ones of the signature
abbrev pub FitsPath : Hierarchy → List ℕ → Type 0
FitsPath h [] = Unit {0}
FitsPath h (f ∷ path) = (f < h.features) × FitsPath h path

-- its types and features are ones of the signature, and its variables have slots among so many
abbrev mutual
  pub FitsDescription : Hierarchy → ℕ → Description → Type 0
  FitsDescription h slots (of_type t) = t < h.types
  FitsDescription h slots (slot v) = v < slots
  FitsDescription h slots (at f d) = (f < h.features) × FitsDescription h slots d
  FitsDescription h slots (all ds) = FitDescriptions h slots ds
  FitsDescription h slots (any ds) = FitDescriptions h slots ds
  FitsDescription h slots (differs d) = FitsDescription h slots d
  FitsDescription h slots (path_equation p q) = FitsPath h p × FitsPath h q

  pub FitDescriptions : Hierarchy → ℕ → Descriptions → Type 0
  FitDescriptions h slots none = Unit {0}
  FitDescriptions h slots (more d ds) = FitsDescription h slots d × FitDescriptions h slots ds

-- no disjunction stands in it
abbrev mutual
  pub HasNoChoice : Description → Type 0
  HasNoChoice (of_type t) = Unit {0}
  HasNoChoice (slot v) = Unit {0}
  HasNoChoice (at f d) = HasNoChoice d
  HasNoChoice (all ds) = HaveNoChoice ds
  HasNoChoice (any ds) = ⊥
  HasNoChoice (differs d) = HasNoChoice d
  HasNoChoice (path_equation p q) = Unit {0}

  pub HaveNoChoice : Descriptions → Type 0
  HaveNoChoice none = Unit {0}
  HaveNoChoice (more d ds) = HasNoChoice d × HaveNoChoice ds

-- how many parts it has: each type, variable, feature, conjunction, disjunction and inequation is one, and two paths
-- are one and one more for each of their features
abbrev mutual
  pub parts : Description → ℕ
  parts (of_type t) = 1
  parts (slot v) = 1
  parts (at f d) = suc (parts d)
  parts (all ds) = suc (parts_of_all ds)
  parts (any ds) = suc (parts_of_all ds)
  parts (differs d) = suc (parts d)
  parts (path_equation p q) = suc (length p + length q)

  pub parts_of_all : Descriptions → ℕ
  parts_of_all none = 0
  parts_of_all (more d ds) = parts d + parts_of_all ds
