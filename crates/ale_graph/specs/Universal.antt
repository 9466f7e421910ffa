-- The law of the closure: it is total, extensional and universal, and there is none only where no structure
-- fulfils the facts. Source: least total well-typed extensions, Carpenter 1992, chapters 3, 6 and 8.
use Rattle.std.specs.Prelude.{◌≡◌, ◌↔◌, ℕ, ◌<◌, ◌≤◌, Option, Some, None, List, ◌++◌, length}
use Rattle.ale_hierarchy.specs.Hierarchy.{Hierarchy, Above, IsLawful}
use Rattle.ale_graph.specs.declared.fact.Fact.{Fact}
use Rattle.ale_graph.specs.declared.closed.Closed.{Closed}
use Rattle.ale_graph.specs.Structures.{Structure, IsStructure, count, type_of, value_of}
use Rattle.ale_graph.specs.Morphisms.{IsMorphismAside}
use Rattle.ale_graph.specs.Facts.{Fulfils, Fits}
use Rattle.ale_graph.specs.Least.{SameClass, MustBe}
use Rattle.ale_graph.specs.Filling.{class_value}
use Rattle.ale_graph.specs.Closure.{close, class_of, node_of}

-- both maps agree on the nodes below n
abbrev pub Agree : ℕ → (ℕ → ℕ) → (ℕ → ℕ) → Type 0
Agree n f g = (a : ℕ) → a < n → f a ≡ g a

-- A map of the nodes below `before` goes on, in exactly one way, to one of the nodes below `next` under
-- which the facts hold.
pub record HasExtension (h : Hierarchy) (s : Structure) (at : ℕ → ℕ) (before : ℕ) (facts : List Fact) (next : ℕ) : Type 0 where
  pub new : ℕ → ℕ
  pub agrees : Agree before new at
  pub fulfils : Fulfils h s new facts next
  pub only : (g : ℕ → ℕ) → Agree before g at → Fulfils h s g facts next → Agree next g new

-- The graph of a closure has exactly one morphism into the structure that takes the class of each node
-- below `before` to where that node goes.
pub record HasMorphism (h : Hierarchy) (c : Closed) (s : Structure) (at : ℕ → ℕ) (before : ℕ) : Type 0 where
  pub map : ℕ → ℕ
  pub is : IsMorphismAside h c.graph s map
  pub agrees : (a : ℕ) → a < before → map (node_of c a) ≡ at a
  pub only : (g : ℕ → ℕ) → IsMorphismAside h c.graph s g → ((a : ℕ) → a < before → g (node_of c a) ≡ at a) → Agree (count c.graph) g map

pub record IsUniversal (h : Hierarchy) (c : Closed) (s : Structure) (at : ℕ → ℕ) (before : ℕ) : Type 0 where
  pub extension : HasExtension h s at before c.facts c.next
  pub morphism : HasMorphism h c s at before
  pub takes : (a : ℕ) → a < c.next → morphism.map (node_of c a) ≡ extension.new a

pub record IsClosure (h : Hierarchy) (given : List Fact) (before : ℕ) (c : Closed) : Type 0 where
  -- the given facts come first
  pub front : (more : List Fact) × (c.facts ≡ given ++ more)
  pub longer : before ≤ c.next
  pub fits : Fits h c.facts c.next
  -- the classes are the least ones, each named by its least node
  pub classes : length c.class ≡ c.next
  pub same : (a b : ℕ) → (class_of c a ≡ class_of c b) ↔ SameClass c.facts a b
  pub least : (a : ℕ) → class_of c a ≤ a
  pub own : (a : ℕ) → class_of c (class_of c a) ≡ class_of c a
  -- the nodes of the graph are the classes, and their types the least ones
  pub onto : (n : ℕ) → n < count c.graph → (a : ℕ) × (a < c.next) × (class_of c a ≡ a) × (node_of c a ≡ n)
  pub one_node : (a b : ℕ) → a < c.next → b < c.next → node_of c a ≡ node_of c b → class_of c a ≡ class_of c b
  pub types : (a t : ℕ) → a < c.next → Above h t (type_of c.graph (node_of c a)) ↔ MustBe h c.facts a t
  -- each value in the graph is the node of one that the facts tell
  pub told : (a f k : ℕ) → a < c.next → value_of c.graph (node_of c a) f ≡ Some k → (m : ℕ) × (class_value (class_of c) c.facts (class_of c a) f ≡ Some m) × (node_of c m ≡ k)
  -- the graph is total, extensional and kept apart, and the facts hold in it
  pub structure : IsStructure h c.graph
  pub fulfils : Fulfils h c.graph (node_of c) c.facts c.next
  -- they hold wherever the graph goes by a morphism
  pub carried : (s : Structure) (map : ℕ → ℕ) → IsMorphismAside h c.graph s map → Fulfils h s (λ a. map (node_of c a)) c.facts c.next
  pub universal : (s : Structure) (at : ℕ → ℕ) → IsStructure h s → Fulfils h s at given before → IsUniversal h c s at before

abbrev pub ClosesTo : Hierarchy → List Fact → ℕ → Option Closed → Type 0
ClosesTo h given before None = (s : Structure) (at : ℕ → ℕ) → IsStructure h s → Fulfils h s at given before → ⊥
ClosesTo h given before (Some c) = IsClosure h given before c

abbrev pub ClosureLaw : Type 0
ClosureLaw = (h : Hierarchy) (facts : List Fact) (next : ℕ) → IsLawful h → Fits h facts next → ClosesTo h facts next (close h facts next)
