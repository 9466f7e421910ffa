-- What the walk from the roots ends with: it is known of each node where it must go, whatever the morphism.
-- This project's own representation.
use Rattle.std.specs.Prelude.{◌≡◌, ℕ, ◌<◌, Option, Some, None, List, length, get_or}
use Rattle.ale_hierarchy.specs.Hierarchy.{Hierarchy}
use Rattle.ale_graph.specs.Structures.{Structure, count}
use Rattle.ale_graph.specs.Morphisms.{IsMorphism}

abbrev pub HasNoMorphism : Structure → Structure → Type 0
HasNoMorphism s t = (h : Hierarchy) (at : ℕ → ℕ) → IsMorphism h s t at → ⊥

pub record IsMatched (s t : Structure) (images : List (Option ℕ)) : Type 0 where
  pub covers : length images ≡ count s
  pub all : (n : ℕ) → n < count s → (k : ℕ) × (get_or images n None ≡ Some k)
  pub must : (h : Hierarchy) (at : ℕ → ℕ) → IsMorphism h s t at → (n k : ℕ) → get_or images n None ≡ Some k → at n ≡ k
