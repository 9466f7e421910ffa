-- Typed feature structures: nodes with a type and a value by each of their features, pairs of nodes that
-- differ, and roots; and what makes one total, well typed and extensional. Source: Carpenter 1992, chapters 2, 6, 8.
use Rattle.std.specs.Prelude.{◌≡◌, ◌≢◌, ℕ, ◌<◌, Bool, true, ◌&&◌, IsTrue, ltb, eqb, Option, Some, None, List, [], ◌∷◌, length, get_or, if◌then◌else◌}
use Rattle.ale_declared.specs.Lists.{Has, every}
use Rattle.ale_hierarchy.specs.Hierarchy.{Hierarchy, Above}
use Rattle.ale_graph.specs.declared.node.Node.{Node}

pub record Structure : Type 0 where
  pub nodes : List Node
  -- pairs of nodes that are two
  pub differ : List (ℕ × ℕ)
  -- a root is bound to a node, or unbound
  pub roots : List (Option ℕ)

abbrev pub count : Structure → ℕ
count s = length s.nodes

-- the node with this number; past the last one, a node without values
abbrev pub node_at : Structure → ℕ → Node
node_at s n = get_or s.nodes n (record { of = 0; values = [] })

abbrev pub type_of : Structure → ℕ → ℕ
type_of s n = (node_at s n).of

-- the value by a feature in a list of values
abbrev pub value_in : List (ℕ × ℕ) → ℕ → Option ℕ
value_in [] f = None
value_in (v ∷ vs) f = if eqb v.0 f then Some v.1 else value_in vs f

abbrev pub value_of : Structure → ℕ → ℕ → Option ℕ
value_of s n f = value_in (node_at s n).values f

abbrev pub root_at : Structure → ℕ → Option ℕ
root_at s i = get_or s.roots i None

-- each value stands before those by higher features
abbrev pub is_rising : List (ℕ × ℕ) → Bool
is_rising [] = true
is_rising (v ∷ vs) = every (λ w. ltb v.0 w.0) vs && is_rising vs

-- an unbound root, or one of the first n nodes
abbrev pub is_root : ℕ → Option ℕ → Bool
is_root n None = true
is_root n (Some m) = ltb m n

-- the values are among the first n nodes, and stand in rising feature order, one per feature
abbrev pub is_node : ℕ → Node → Bool
is_node n x = every (λ v. ltb v.1 n) x.values && is_rising x.values

-- every node number is one of a node, and every node's values are in order
abbrev pub is_formed : Structure → Bool
is_formed s =
    every (is_node (count s)) s.nodes
    && (every (λ p. ltb p.0 (count s) && ltb p.1 (count s)) s.differ && every (is_root (count s)) s.roots)

-- Each node has a type of the signature, and exactly the features appropriate to it, with values of at
-- least the restricting types.
pub record IsTotal (h : Hierarchy) (s : Structure) : Type 0 where
  pub types : (n : ℕ) → n < count s → type_of s n < h.types
  pub there : (n f r : ℕ) → n < count s → h.approp f (type_of s n) ≡ Some r → (m : ℕ) × (value_of s n f ≡ Some m)
  pub only : (n f m : ℕ) → value_of s n f ≡ Some m → (r : ℕ) × (h.approp f (type_of s n) ≡ Some r) × Above h r (type_of s m)

-- no two nodes have one extensional type and, feature by feature, the same values
abbrev pub IsExtensional : Hierarchy → Structure → Type 0
IsExtensional h s =
    (a b : ℕ) → a < count s → b < count s → type_of s a ≡ type_of s b → h.is_ext (type_of s a) ≡ true → ((f : ℕ) → value_of s a f ≡ value_of s b f) → a ≡ b

-- the two nodes of a differing pair are two
abbrev pub IsApart : Structure → Type 0
IsApart s = (a b : ℕ) → Has s.differ (a, b) → a ≢ b

pub record IsStructure (h : Hierarchy) (s : Structure) : Type 0 where
  pub formed : IsTrue (is_formed s)
  pub total : IsTotal h s
  pub extensional : IsExtensional h s
  pub apart : IsApart s
