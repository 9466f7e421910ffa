-- When a goal can be derived from a program in a feature structure, at a depth: how deep calls are nested.
-- Source: resolution of definite clauses over descriptions, Carpenter 1992, chapter 14.
use Rattle.std.specs.Prelude.{◌≡◌, ℕ, zero, suc, ◌<◌, ◌⊎◌, List, [], ◌∷◌, length}
use Rattle.ale_declared.specs.Lists.{Has}
use Rattle.ale_hierarchy.specs.Hierarchy.{Hierarchy}
use Rattle.ale_graph.specs.Structures.{Structure, count}
use Rattle.ale_logic.specs.Descriptions.{Descriptions, none, more, HoldsAt, IsAssignment, how_many}
use Rattle.ale_logic.specs.Goals.{Goal, Goals, yes, cut, each, either, equal, call, unless, if_else, once, no_goal, and_goal}
use Rattle.ale_logic.specs.Programs.{Clause, Program, clauses_of}

-- the descriptions hold at the nodes, the first at the first and so on, as far as both go
abbrev pub HoldEach : Hierarchy → Structure → (ℕ → ℕ) → Descriptions → List ℕ → Type 0
HoldEach h s assign none ns = Unit {0}
HoldEach h s assign (more d ds) [] = Unit {0}
HoldEach h s assign (more d ds) (n ∷ ns) = (n < count s) × HoldsAt h s assign d n × HoldEach h s assign ds ns

-- there are nodes at which the descriptions hold, one each, and of which `calls` holds
pub record AreCalled (h : Hierarchy) (s : Structure) (assign : ℕ → ℕ) (ds : Descriptions) (calls : List ℕ → Type 0) : Type 0 where
  pub nodes : List ℕ
  pub many : length nodes ≡ how_many ds
  pub hold : HoldEach h s assign ds nodes
  pub called : calls nodes

-- The goal is derivable where `calls p ns` says whether predicate p can be called of the nodes ns. Nothing is said
-- of cut, negation and if-then: they are never derivable.
abbrev mutual
  pub DerivableBy : Hierarchy → Structure → (ℕ → List ℕ → Type 0) → (ℕ → ℕ) → Goal → Type 0
  DerivableBy h s calls assign yes = Unit {0}
  DerivableBy h s calls assign (each gs) = EachDerivableBy h s calls assign gs
  DerivableBy h s calls assign (either gs) = OneDerivableBy h s calls assign gs
  DerivableBy h s calls assign (equal d e) = (n : ℕ) × (n < count s) × HoldsAt h s assign d n × HoldsAt h s assign e n
  DerivableBy h s calls assign (call p ds) = AreCalled h s assign ds (calls p)
  DerivableBy h s calls assign cut = ⊥
  DerivableBy h s calls assign (unless g) = ⊥
  DerivableBy h s calls assign (if_else c t e) = ⊥
  DerivableBy h s calls assign (once c t) = ⊥

  pub EachDerivableBy : Hierarchy → Structure → (ℕ → List ℕ → Type 0) → (ℕ → ℕ) → Goals → Type 0
  EachDerivableBy h s calls assign no_goal = Unit {0}
  EachDerivableBy h s calls assign (and_goal g gs) = DerivableBy h s calls assign g × EachDerivableBy h s calls assign gs

  pub OneDerivableBy : Hierarchy → Structure → (ℕ → List ℕ → Type 0) → (ℕ → ℕ) → Goals → Type 0
  OneDerivableBy h s calls assign no_goal = ⊥
  OneDerivableBy h s calls assign (and_goal g gs) = DerivableBy h s calls assign g ⊎ OneDerivableBy h s calls assign gs

-- the clause's arguments hold at the nodes, and its body is derivable
pub record ByClause (h : Hierarchy) (s : Structure) (clauses : List Clause) (calls : ℕ → List ℕ → Type 0) (ns : List ℕ) : Type 0 where
  pub clause : Clause
  pub has : Has clauses clause
  pub assign : ℕ → ℕ
  pub nodes : IsAssignment s assign
  pub args : HoldEach h s assign clause.args ns
  pub body : DerivableBy h s calls assign clause.body

-- the predicate can be called of the nodes at this depth
abbrev pub Calls : Hierarchy → Program → Structure → ℕ → ℕ → List ℕ → Type 0
Calls h program s zero p ns = ⊥
Calls h program s (suc depth) p ns = ByClause h s (clauses_of program p) (Calls h program s depth) ns

abbrev pub DerivableAt : Hierarchy → Program → Structure → ℕ → (ℕ → ℕ) → Goal → Type 0
DerivableAt h program s depth assign g = DerivableBy h s (Calls h program s depth) assign g

-- at some depth
abbrev pub Derivable : Hierarchy → Program → Structure → (ℕ → ℕ) → Goal → Type 0
Derivable h program s assign g = (depth : ℕ) × DerivableAt h program s depth assign g

abbrev pub Callable : Hierarchy → Program → Structure → ℕ → List ℕ → Type 0
Callable h program s p ns = (depth : ℕ) × Calls h program s depth p ns
