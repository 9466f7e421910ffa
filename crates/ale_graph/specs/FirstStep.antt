-- The law of the closure's first step: its classes and types are the least ones of the facts, and where
-- there are none the facts ask for two types without a join. Source: Carpenter 1992, chapters 3 and 6.
use Rattle.std.specs.Prelude.{◌≡◌, ◌↔◌, ℕ, ◌≤◌, Option, Some, None, List}
use Rattle.ale_hierarchy.specs.Hierarchy.{Hierarchy, Above, IsLawful}
use Rattle.ale_graph.specs.declared.fact.Fact.{Fact}
use Rattle.ale_graph.specs.Facts.{Fits}
use Rattle.ale_graph.specs.Least.{SameClass, MustBe, Clashes}
use Rattle.ale_graph.specs.Classes.{classes}
use Rattle.ale_graph.specs.Types.{least_types}

-- each class is named by its least node, and its type is the most specific one that its nodes must be
pub record IsFirstStep (h : Hierarchy) (facts : List Fact) (class type : ℕ → ℕ) : Type 0 where
  pub same : (a b : ℕ) → (class a ≡ class b) ↔ SameClass facts a b
  pub own : (a : ℕ) → class (class a) ≡ class a
  pub least : (a : ℕ) → class a ≤ a
  pub types : (a t : ℕ) → Above h t (type (class a)) ↔ MustBe h facts a t

abbrev pub StepsTo : Hierarchy → List Fact → (ℕ → ℕ) → Option (ℕ → ℕ) → Type 0
StepsTo h facts class None = Clashes h facts
StepsTo h facts class (Some types) = IsFirstStep h facts class types × (Clashes h facts → ⊥)

-- Whoever has least classes and types has these, and whoever finds a clash has found that there are none.
pub record FirstStepLaw (h : Hierarchy) (facts : List Fact) (next : ℕ) : Type 0 where
  pub steps : StepsTo h facts (classes facts next) (least_types h facts next (classes facts next))
  pub determined : (c t d u : ℕ → ℕ) → IsFirstStep h facts c t → IsFirstStep h facts d u → (a : ℕ) → (c a ≡ d a) × (t (c a) ≡ u (d a))

abbrev pub FirstStepLaws : Type 0
FirstStepLaws = (h : Hierarchy) (facts : List Fact) (next : ℕ) → IsLawful h → Fits h facts next → FirstStepLaw h facts next
