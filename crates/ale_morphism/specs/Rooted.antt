-- The nodes that a structure's roots reach by features, and structures that have no other nodes.
-- Source: feature structures as rooted graphs, Carpenter 1992, chapter 2.
use Rattle.std.specs.Prelude.{◌≡◌, ℕ, ◌<◌, Some}
use Rattle.ale_graph.specs.Structures.{Structure, count, value_of, root_at}

-- the node is a bound root, or a value of a node that the roots reach
pub data FromRoots (s : Structure) : ℕ → Type 0 where
  root : (i n : ℕ) → root_at s i ≡ Some n → FromRoots s n
  value : (n f m : ℕ) → FromRoots s n → value_of s n f ≡ Some m → FromRoots s m

-- the roots reach each node
abbrev pub IsRooted : Structure → Type 0
IsRooted s = (n : ℕ) → n < count s → FromRoots s n
