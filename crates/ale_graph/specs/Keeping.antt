-- What holds of the closure's classes, types and values at each of its steps: they are the least ones of
-- the facts so far. Source: unification and type inference of feature structures, Carpenter 1992, chapters 3, 6.
use Rattle.std.specs.Prelude.{◌≡◌, ℕ, ◌<◌, ◌≤◌, true, Some, List, length}
use Rattle.ale_declared.specs.Lists.{Has}
use Rattle.ale_hierarchy.specs.Hierarchy.{Hierarchy, Above}
use Rattle.ale_graph.specs.declared.fact.Fact.{Fact}
use Rattle.ale_graph.specs.declared.fact.Fact.TheVariants.{Value}
use Rattle.ale_graph.specs.Structures.{value_in, is_rising}
use Rattle.ale_graph.specs.Facts.{Fits}
use Rattle.ale_graph.specs.Least.{SameClass, MustBe}
use Rattle.ale_graph.specs.Filling.{Filled, class_value}
use Rattle.ale_graph.specs.Drafts.{class_in, values_in}

-- the least classes of the facts, each named by its least node
pub record IsClasses (facts : List Fact) (next : ℕ) (cs : ℕ → ℕ) : Type 0 where
  pub kept : (a : ℕ) → SameClass facts a (cs a)
  pub least : (a : ℕ) → cs a ≤ a
  pub one : (a b : ℕ) → SameClass facts a b → cs a ≡ cs b
  -- a node that no fact speaks of is a class of its own
  pub outside : (a : ℕ) → next ≤ a → cs a ≡ a

-- the least types of the classes
pub record IsTypes (h : Hierarchy) (facts : List Fact) (cs ty : ℕ → ℕ) : Type 0 where
  pub forced : (a : ℕ) → MustBe h facts a (ty (cs a))
  pub bound : (a t : ℕ) → MustBe h facts a t → Above h t (ty (cs a))
  pub inside : (c : ℕ) → ty c < h.types

-- classes and types are the least ones of the facts so far
pub record IsReady (h : Hierarchy) (st : Filled) : Type 0 where
  pub classes : IsClasses st.facts st.next st.class
  pub types : IsTypes h st.facts st.class st.types
  pub fits : Fits h st.facts st.next

-- no class lacks a feature of its type
abbrev pub IsFull : Hierarchy → Filled → Type 0
IsFull h st = (c f r : ℕ) → c < st.next → st.class c ≡ c → h.approp f (st.types c) ≡ Some r → (m : ℕ) × (class_value st.class st.facts c f ≡ Some m)

-- a fact tells a node of the class that the value by the feature is k
pub record IsTold (facts : List Fact) (cs : ℕ → ℕ) (c f k : ℕ) : Type 0 where
  pub node : ℕ
  pub has : Has facts (Value node f k)
  pub of : cs node ≡ c

-- the list of each class has the values that facts tell of its nodes, one by each feature
pub record IsTable (facts : List Fact) (cs : ℕ → ℕ) (values : List (List (ℕ × ℕ))) : Type 0 where
  pub rises : (c : ℕ) → is_rising (values_in values c) ≡ true
  pub told : (c f k : ℕ) → cs c ≡ c → value_in (values_in values c) f ≡ Some k → IsTold facts cs c f k
  pub there : (n f m : ℕ) → Has facts (Value n f m) → (k : ℕ) × (value_in (values_in values (cs n)) f ≡ Some k)

-- what the passes that join end with
pub record IsJoined (facts : List Fact) (next : ℕ) (class : List ℕ) (values : List (List (ℕ × ℕ))) : Type 0 where
  pub classes : IsClasses facts next (class_in class)
  pub table : IsTable facts (class_in class) values
  pub class_length : length class ≡ next
  pub values_length : length values ≡ next

-- in some signature the facts speak of nodes below next
abbrev pub SpeakBelow : ℕ → List Fact → Type 0
SpeakBelow next facts = (h : Hierarchy) × Fits h facts next
