-- What a search for a description and one for a goal mean: their answers are solutions, and a finished search
-- has all solutions up to subsumption. Source: most general satisfiers, Carpenter 1992, chapters 4, 14 and 15.
use Rattle.std.specs.Prelude.{◌≡◌, ℕ, ◌+◌, ◌*◌, ◌≤◌, true, Some, None, [], ◌∷◌}
use Rattle.ale_declared.specs.Lists.{Has}
use Rattle.ale_hierarchy.specs.Hierarchy.{Hierarchy, IsLawful}
use Rattle.ale_graph.specs.Structures.{Structure, IsStructure}
use Rattle.ale_graph.specs.Morphisms.{IsMorphismAside}
use Rattle.ale_graph.specs.Closure.{node_of}
use Rattle.ale_logic.specs.Descriptions.{Description, HoldsAt, IsAssignment, FitsDescription, HasNoChoice, parts}
use Rattle.ale_logic.specs.Goals.{Goal, FitsGoal, IsPlain}
use Rattle.ale_logic.specs.Programs.{Program}
use Rattle.ale_logic.specs.Fitting.{FitsProgram, IsPlainProgram}
use Rattle.ale_logic.specs.Derivations.{Derivable}
use Rattle.ale_logic.specs.Solutions.{IsRoot, SolvesGoal}
use Rattle.ale_logic.specs.States.{bound, State}
use Rattle.ale_engine.specs.Engine.{Outcome, search}
use Rattle.ale_logic.specs.Visits.{Answer, visit}
use Rattle.ale_logic.specs.Starts.{start, start_goal}
use Rattle.ale_logic.specs.Lexicons.{wordless}

-- an accepted program inside the fragment
pub record IsAccepted (h : Hierarchy) (program : Program) : Type 0 where
  pub lawful : IsLawful h
  pub fits : FitsProgram h program
  pub plain : IsPlainProgram program

-- one structure subsumes another, root to root
pub record SubsumesAt (h : Hierarchy) (s : Structure) (root : ℕ) (t : Structure) (to : ℕ) : Type 0 where
  pub map : ℕ → ℕ
  pub is : IsMorphismAside h s t map
  pub root_to : map root ≡ to

-- what a search without words comes to
abbrev pub found_from : Hierarchy → Program → ℕ → State → Outcome Answer
found_from h program budget st = search (visit (wordless h program)) budget (st ∷ [])

-- the node of each variable of the answer, and any node where it is unbound
abbrev pub node_for : Answer → (ℕ → ℕ) → ℕ → ℕ
node_for a free v = elim (bound a.state.envs 0 v) [ None ↦ free v | Some n ↦ node_of a.closed n ]

-- the description holds at a root, where variables stand for the nodes of `assign`
pub record SolvesUnder (h : Hierarchy) (program : Program) (d : Description) (s : Structure) (n : ℕ) (assign : ℕ → ℕ) : Type 0 where
  pub root : IsRoot h program s n
  pub nodes : IsAssignment s assign
  pub holds : HoldsAt h s assign d n

-- the description holds at the root of the answer's own graph, whatever node is given to a variable that is unbound
pub record SolvesItself (h : Hierarchy) (program : Program) (d : Description) (a : Answer) : Type 0 where
  pub root : IsRoot h program a.closed.graph (node_of a.closed 0)
  pub solves : (free : ℕ → ℕ) → IsAssignment a.closed.graph free → SolvesUnder h program d a.closed.graph (node_of a.closed 0) (node_for a free)

-- the answer subsumes the structure, root to n, and each bound variable stands there for where its node goes
pub record SubsumesSolution (h : Hierarchy) (a : Answer) (s : Structure) (n : ℕ) (assign : ℕ → ℕ) : Type 0 where
  pub subsumes : SubsumesAt h a.closed.graph (node_of a.closed 0) s n
  pub is_bound : (v m : ℕ) → bound a.state.envs 0 v ≡ Some m → assign v ≡ subsumes.map (node_of a.closed m)

pub record DescriptionLaw (h : Hierarchy) (program : Program) (slots : ℕ) (d : Description) (budget : ℕ) : Type 0 where
  pub sound : (a : Answer) → Has (found_from h program budget (start slots d)).answers a → SolvesItself h program d a
  pub complete : (found_from h program budget (start slots d)).finished ≡ true → (s : Structure) (n : ℕ) (assign : ℕ → ℕ) → SolvesUnder h program d s n assign →
      (a : Answer) × Has (found_from h program budget (start slots d)).answers a × SubsumesSolution h a s n assign
  -- each structure that an answer subsumes is as described, whatever node an unbound variable stands for
  pub subsumed : (a : Answer) → Has (found_from h program budget (start slots d)).answers a → (s : Structure) (n : ℕ) (assign : ℕ → ℕ) → IsStructure h s → IsAssignment s assign →
      SubsumesSolution h a s n assign → HoldsAt h s assign d n

-- without disjunction and constraints two visits for each part, and two to spare, are enough
abbrev pub EnoughLaw : Type 0
EnoughLaw =
    (h : Hierarchy) (program : Program) (slots : ℕ) (d : Description) (budget : ℕ) → IsAccepted h program → FitsDescription h slots d → HasNoChoice d → program.constraints ≡ [] →
    2 * parts d + 2 ≤ budget → (found_from h program budget (start slots d)).finished ≡ true

-- the answer subsumes the solution, and each bound variable stands there for where its node goes
pub record SubsumesGoal (h : Hierarchy) (a : Answer) (s : Structure) (assign : ℕ → ℕ) : Type 0 where
  pub map : ℕ → ℕ
  pub is : IsMorphismAside h a.closed.graph s map
  pub is_bound : (v n : ℕ) → bound a.state.envs 0 v ≡ Some n → assign v ≡ map (node_of a.closed n)

pub record GoalLaw (h : Hierarchy) (program : Program) (slots : ℕ) (g : Goal) (budget : ℕ) : Type 0 where
  -- whatever node is given to a variable that is unbound
  pub sound : (a : Answer) → Has (found_from h program budget (start_goal slots g)).answers a → (free : ℕ → ℕ) → IsAssignment a.closed.graph free → SolvesGoal h program g a.closed.graph (node_for a free)
  pub complete : (found_from h program budget (start_goal slots g)).finished ≡ true → (s : Structure) (assign : ℕ → ℕ) → SolvesGoal h program g s assign →
      (a : Answer) × Has (found_from h program budget (start_goal slots g)).answers a × SubsumesGoal h a s assign
  -- each structure into which an answer goes derives the goal, whatever node an unbound variable stands for
  pub subsumed : (a : Answer) → Has (found_from h program budget (start_goal slots g)).answers a → (s : Structure) (assign : ℕ → ℕ) → IsStructure h s → IsAssignment s assign → SubsumesGoal h a s assign → Derivable h program s assign g

abbrev pub DescriptionLaws : Type 0
DescriptionLaws = (h : Hierarchy) (program : Program) (slots : ℕ) (d : Description) (budget : ℕ) → IsAccepted h program → FitsDescription h slots d → DescriptionLaw h program slots d budget

abbrev pub GoalLaws : Type 0
GoalLaws = (h : Hierarchy) (program : Program) (slots : ℕ) (g : Goal) (budget : ℕ) → IsAccepted h program → FitsGoal h slots g → IsPlain g → GoalLaw h program slots g budget
