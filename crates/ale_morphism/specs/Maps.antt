-- What the calls on morphisms ask of structures, and how a map of nodes is held.
-- Source: typed feature structures and subsumption, Carpenter 1992, chapters 2 and 3.
use Rattle.std.specs.Prelude.{ℕ, ◌<◌, List, get_or}
use Rattle.ale_hierarchy.specs.Hierarchy.{Hierarchy}
use Rattle.ale_graph.specs.Structures.{Structure, count, type_of}

-- each node's type is one of the signature
abbrev pub TypesInside : Hierarchy → Structure → Type 0
TypesInside h s = (n : ℕ) → n < count s → type_of s n < h.types

-- where a map of nodes that is held as a list takes a node; past the list's end, to no node of the structure
abbrev pub image : List ℕ → Structure → ℕ → ℕ
image map t n = get_or map n (count t)
