-- What the visible part of a structure is: its nodes are those that are reached, in order, with their types
-- and values; it is its own visible part; and it subsumes whatever the structure subsumes.
-- Source: feature structures as rooted graphs, Carpenter 1992, chapter 2.
use Rattle.std.specs.Prelude.{◌≡◌, ◌↔◌, ℕ, ◌<◌, IsTrue, [], map, option_map}
use Rattle.ale_hierarchy.specs.Hierarchy.{Hierarchy}
use Rattle.ale_graph.specs.Structures.{Structure, count, type_of, value_of, is_formed}
use Rattle.ale_graph.specs.Morphisms.{IsMorphism}
use Rattle.ale_morphism.specs.Rooted.{IsRooted}
use Rattle.ale_morphism.specs.Visible.{Visible, is_visible, renumbered, origin, visible}

pub record IsPart (s v : Structure) : Type 0 where
  pub tested : (n : ℕ) → n < count s → IsTrue (is_visible s n) ↔ Visible s n
  -- the nodes are those that are visible, in order
  pub inside : (k : ℕ) → k < count v → origin s k < count s
  pub from : (k : ℕ) → k < count v → Visible s (origin s k)
  pub number : (k : ℕ) → k < count v → renumbered s (origin s k) ≡ k
  pub onto : (n : ℕ) → Visible s n → renumbered s n < count v
  pub back : (n : ℕ) → Visible s n → origin s (renumbered s n) ≡ n
  pub order : (a b : ℕ) → Visible s a → a < b → renumbered s a < renumbered s b
  -- with their types and values, the differing pairs and the roots
  pub types : (k : ℕ) → k < count v → type_of v k ≡ type_of s (origin s k)
  pub values : (k f : ℕ) → k < count v → value_of v k f ≡ option_map (renumbered s) (value_of s (origin s k) f)
  pub differ : v.differ ≡ map (λ p. (renumbered s p.0, renumbered s p.1)) s.differ
  pub roots : v.roots ≡ map (option_map (renumbered s)) s.roots

abbrev pub VisibleLaw : Type 0
VisibleLaw = (s : Structure) → IsTrue (is_formed s) → IsPart s (visible s)

abbrev pub VisibleTwice : Type 0
VisibleTwice = (s : Structure) → IsTrue (is_formed s) → visible (visible s) ≡ visible s

-- without differing pairs the roots reach all of it
abbrev pub VisibleRooted : Type 0
VisibleRooted = (s : Structure) → IsTrue (is_formed s) → s.differ ≡ [] → IsRooted (visible s)

-- a morphism, kept to the visible part, is one
abbrev pub VisibleSubsumes : Type 0
VisibleSubsumes =
    (h : Hierarchy) (s t : Structure) (at : ℕ → ℕ) → IsTrue (is_formed s) → IsMorphism h s t at → IsMorphism h (visible s) t (λ k. at (origin s k))
