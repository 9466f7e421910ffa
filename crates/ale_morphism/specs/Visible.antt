-- The visible part of a structure: what is reached from a bound root or a node of a differing pair,
-- renumbered in order. Source: feature structures as rooted graphs, Carpenter 1992, chapter 2.
use Rattle.std.specs.Prelude.{◌≡◌, ℕ, zero, suc, Bool, false, ◌&&◌, ◌||◌, eqb, Option, Some, None, List, [], ◌∷◌, ◌++◌, map, length, get_or, option_map, if◌then◌else◌}
use Rattle.ale_declared.specs.Lists.{Has, upto}
use Rattle.ale_graph.specs.declared.node.Node.{Node}
use Rattle.ale_graph.specs.Structures.{Structure, count, node_at, value_of, root_at}

-- the node is visible
pub data Visible (s : Structure) : ℕ → Type 0 where
  root : (i n : ℕ) → root_at s i ≡ Some n → Visible s n
  differs_first : (a b : ℕ) → Has s.differ (a, b) → Visible s a
  differs_second : (a b : ℕ) → Has s.differ (a, b) → Visible s b
  value : (n f m : ℕ) → Visible s n → value_of s n f ≡ Some m → Visible s m

abbrev pub some : {A : Type 0} → (A → Bool) → List A → Bool
some test [] = false
some test (x ∷ xs) = test x || some test xs

abbrev pub is_bound_to : ℕ → Option ℕ → Bool
is_bound_to n None = false
is_bound_to n (Some m) = eqb n m

-- a root, or a node of a differing pair
abbrev pub is_start : Structure → ℕ → Bool
is_start s n = some (is_bound_to n) s.roots || some (λ p. eqb n p.0 || eqb n p.1) s.differ

abbrev pub is_value_of : Structure → ℕ → ℕ → Bool
is_value_of s n m = some (λ v. eqb n v.1) (node_at s m).values

-- reached in at most k steps
abbrev pub is_reached : Structure → ℕ → ℕ → Bool
is_reached s zero n = is_start s n
is_reached s (suc k) n = is_reached s k n || some (λ m. is_reached s k m && is_value_of s n m) (upto (count s))

abbrev pub is_visible : Structure → ℕ → Bool
is_visible s n = is_reached s (count s) n

-- the visible nodes below n, in order
abbrev pub visible_below : Structure → ℕ → List ℕ
visible_below s zero = []
visible_below s (suc n) = if is_visible s n then visible_below s n ++ n ∷ [] else visible_below s n

-- the number of a visible node: how many are below it
abbrev pub renumbered : Structure → ℕ → ℕ
renumbered s n = length (visible_below s n)

-- the node that has a number in the visible part
abbrev pub origin : Structure → ℕ → ℕ
origin s k = get_or (visible_below s (count s)) k 0

abbrev pub visible_node : Structure → ℕ → Node
visible_node s n = record { of = (node_at s n).of; values = map (λ v. (v.0, renumbered s v.1)) (node_at s n).values }

unfoldable pub visible : Structure → Structure
visible s = record {
  nodes = map (visible_node s) (visible_below s (count s));
  differ = map (λ p. (renumbered s p.0, renumbered s p.1)) s.differ;
  roots = map (option_map (renumbered s)) s.roots;
}
