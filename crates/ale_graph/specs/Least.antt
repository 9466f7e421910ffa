-- What facts say of their nodes at least: which nodes are in one class, and which types a node must be at
-- least. Source: unification and type inference of feature structures, Carpenter 1992, chapters 3 and 6.
use Rattle.std.specs.Prelude.{◌≡◌, ℕ, Some, None, List}
use Rattle.ale_declared.specs.Lists.{Has}
use Rattle.ale_hierarchy.specs.Hierarchy.{Hierarchy, Above}
use Rattle.ale_graph.specs.declared.fact.Fact.{Fact}
use Rattle.ale_graph.specs.declared.fact.Fact.TheVariants.{OfType, Value, Same}

pub data SameClass (facts : List Fact) : ℕ → ℕ → Type 0 where
  itself : (a : ℕ) → SameClass facts a a
  turned : (a b : ℕ) → SameClass facts a b → SameClass facts b a
  joined : (a b c : ℕ) → SameClass facts a b → SameClass facts b c → SameClass facts a c
  told : (a b : ℕ) → Has facts (Same a b) → SameClass facts a b
  alike : (f a b x y : ℕ) → Has facts (Value a f x) → Has facts (Value b f y) → SameClass facts a b → SameClass facts x y

-- MustBe a t: node a must be at least t
pub data MustBe (h : Hierarchy) (facts : List Fact) : ℕ → ℕ → Type 0 where
  bottom : (a : ℕ) → MustBe h facts a 0
  declared : (a t : ℕ) → Has facts (OfType a t) → MustBe h facts a t
  introduced : (a f x : ℕ) → Has facts (Value a f x) → MustBe h facts a (h.intro f)
  restricted : (a f x t r : ℕ) → Has facts (Value a f x) → MustBe h facts a t → h.approp f t ≡ Some r → MustBe h facts x r
  carried : (a b t : ℕ) → SameClass facts a b → MustBe h facts a t → MustBe h facts b t
  general : (a t u : ℕ) → Above h t u → MustBe h facts a u → MustBe h facts a t
  both : (a t u v : ℕ) → MustBe h facts a t → MustBe h facts a u → h.join t u ≡ Some v → MustBe h facts a v

-- a node must be at least two types that have no join
pub record Clashes (h : Hierarchy) (facts : List Fact) : Type 0 where
  pub node : ℕ
  pub one : ℕ
  pub other : ℕ
  pub must_one : MustBe h facts node one
  pub must_other : MustBe h facts node other
  pub missing : h.join one other ≡ None
