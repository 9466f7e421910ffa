-- Morphisms between typed feature structures, by which one subsumes another: maps of nodes that keep types,
-- features, differing pairs and roots. Source: subsumption, Carpenter 1992, chapters 2 and 3.
use Rattle.std.specs.Prelude.{◌≡◌, ◌≢◌, ℕ, ◌<◌, Some}
use Rattle.ale_declared.specs.Lists.{Has}
use Rattle.ale_hierarchy.specs.Hierarchy.{Hierarchy, Above}
use Rattle.ale_graph.specs.Structures.{Structure, count, type_of, value_of, root_at}

-- the roots of both left aside
pub record IsMorphismAside (h : Hierarchy) (s t : Structure) (map : ℕ → ℕ) : Type 0 where
  pub into : (n : ℕ) → n < count s → map n < count t
  pub types : (n : ℕ) → n < count s → Above h (type_of s n) (type_of t (map n))
  pub values : (n f m : ℕ) → value_of s n f ≡ Some m → value_of t (map n) f ≡ Some (map m)
  pub differs : (a b : ℕ) → Has s.differ (a, b) → map a ≢ map b

pub record IsMorphism (h : Hierarchy) (s t : Structure) (map : ℕ → ℕ) : Type 0 where
  pub aside : IsMorphismAside h s t map
  pub roots : (i n : ℕ) → root_at s i ≡ Some n → root_at t i ≡ Some (map n)

pub record Subsumes (h : Hierarchy) (s t : Structure) : Type 0 where
  pub map : ℕ → ℕ
  pub is : IsMorphism h s t map
