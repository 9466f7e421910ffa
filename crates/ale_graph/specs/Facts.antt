-- When facts about nodes hold in a structure, under a map from their nodes to nodes of the structure; and
-- which facts speak of known nodes, types and features. Source: satisfaction, Carpenter 1992, chapter 4.
use Rattle.std.specs.Prelude.{◌≡◌, ◌≢◌, ℕ, ◌<◌, Some, List}
use Rattle.ale_declared.specs.Lists.{Has}
use Rattle.ale_hierarchy.specs.Hierarchy.{Hierarchy, Above}
use Rattle.ale_graph.specs.declared.fact.Fact.{Fact}
use Rattle.ale_graph.specs.declared.fact.Fact.TheVariants.{OfType, Value, Same, Differ}
use Rattle.ale_graph.specs.Structures.{Structure, count, type_of, value_of}

abbrev pub HoldsFact : Hierarchy → Structure → (ℕ → ℕ) → Fact → Type 0
HoldsFact h s at (OfType n t) = Above h t (type_of s (at n))
HoldsFact h s at (Value n f m) = value_of s (at n) f ≡ Some (at m)
HoldsFact h s at (Same a b) = at a ≡ at b
HoldsFact h s at (Differ a b) = at a ≢ at b

abbrev pub Holds : Hierarchy → Structure → (ℕ → ℕ) → List Fact → Type 0
Holds h s at facts = (x : Fact) → Has facts x → HoldsFact h s at x

-- the nodes below next go to nodes of the structure, and all facts hold
pub record Fulfils (h : Hierarchy) (s : Structure) (at : ℕ → ℕ) (facts : List Fact) (next : ℕ) : Type 0 where
  pub into : (a : ℕ) → a < next → at a < count s
  pub holds : Holds h s at facts

-- the fact speaks of nodes below next, and of types and features of the signature
abbrev pub FitsFact : Hierarchy → ℕ → Fact → Type 0
FitsFact h next (OfType n t) = (n < next) × (t < h.types)
FitsFact h next (Value n f m) = (n < next) × (f < h.features) × (m < next)
FitsFact h next (Same a b) = (a < next) × (b < next)
FitsFact h next (Differ a b) = (a < next) × (b < next)

abbrev pub Fits : Hierarchy → List Fact → ℕ → Type 0
Fits h facts next = (x : Fact) → Has facts x → FitsFact h next x
