-- What a search for a description means: its answers are solutions, a finished search has all solutions up
-- to subsumption, and how large a budget is enough. Source: most general satisfiers, Carpenter 1992, chapters 4 and 15.
use Rattle.std.specs.Prelude.{◌≡◌, ℕ, ◌+◌, ◌*◌, ◌<◌, ◌≤◌, true, Some, List, [], ◌∷◌, get_or, None}
use Rattle.ale_declared.specs.Lists.{Has}
use Rattle.ale_hierarchy.specs.Hierarchy.{Hierarchy, IsLawful}
use Rattle.ale_graph.specs.Structures.{Structure, IsStructure, count}
use Rattle.ale_graph.specs.Closure.{node_of}
use Rattle.ale_engine.specs.EngineLaws.{BudgetLaw}
use Rattle.ale_logic.specs.declared.answer.Answer.{Answer}
use Rattle.ale_logic.specs.Descriptions.{Description, HoldsAt, FitsDescription, HasNoChoice, parts}
use Rattle.ale_logic.specs.Programs.{Program}
use Rattle.ale_logic.specs.Models.{IsModel}
use Rattle.ale_logic.specs.States as plain
use Rattle.ale_logic.specs.Starts.{start}
use Rattle.ale_logic.specs.Visits as visits
use Rattle.ale_logic.specs.Words.{Environment, bound_in}
use Rattle.ale_logic.specs.Answers.{SubsumesAt}
use Rattle.ale_search.specs.Views.{bare, empty_program}
use Rattle.ale_search.specs.Outcomes.{found}

-- The node is one of a model of the program, and the description holds at it, where its variables stand for the
-- nodes that `assign` gives their slots.
pub record IsSolution (h : Hierarchy) (program : Program) (d : Description) (s : Structure) (n : ℕ) (assign : ℕ → ℕ) : Type 0 where
  pub model : IsModel h program s
  pub node : n < count s
  pub nodes : (v : ℕ) → assign v < count s
  pub holds : HoldsAt h s assign d n

-- each bound variable stands for where its node goes
abbrev pub IsBound : Environment → (ℕ → ℕ) → (ℕ → ℕ) → Type 0
IsBound env assign to = (v a : ℕ) → bound_in env v ≡ Some a → assign v ≡ to a

-- The answer's graph is a solution, at the node of the description; each bound variable stands for its node.
pub record IsAnswer (h : Hierarchy) (program : Program) (d : Description) (c : Answer) : Type 0 where
  pub assign : ℕ → ℕ
  pub is : IsSolution h program d c.closed.graph (node_of c.closed 0) assign
  pub is_bound : IsBound c.env assign (node_of c.closed)

abbrev pub AnswersAreSolutions : Hierarchy → Program → Description → List Answer → Type 0
AnswersAreSolutions h program d cs = (c : Answer) → Has cs c → IsAnswer h program d c

-- The answer subsumes the solution, and each bound variable stands there for where its node goes.
pub record SubsumesSolution (h : Hierarchy) (c : Answer) (s : Structure) (n : ℕ) (assign : ℕ → ℕ) : Type 0 where
  pub subsumes : SubsumesAt h c.closed.graph (node_of c.closed 0) s n
  pub is_bound : IsBound c.env assign (λ a. subsumes.map (node_of c.closed a))

-- each solution is subsumed by an answer
abbrev pub SolutionsAreAnswered : Hierarchy → Program → Description → List Answer → Type 0
SolutionsAreAnswered h program d cs =
    (s : Structure) (n : ℕ) (assign : ℕ → ℕ) → IsSolution h program d s n assign → (c : Answer) × Has cs c × SubsumesSolution h c s n assign

-- each model that an answer subsumes is a solution, where each bound variable stands for where its node goes
abbrev pub SubsumedAreSolutions : Hierarchy → Program → Description → List Answer → Type 0
SubsumedAreSolutions h program d cs =
    (c : Answer) → Has cs c → (s : Structure) (n : ℕ) → IsModel h program s → (by : SubsumesAt h c.closed.graph (node_of c.closed 0) s n) →
    (assign : ℕ → ℕ) × IsSolution h program d s n assign × IsBound c.env assign (λ a. by.map (node_of c.closed a))

-- of a description whose variables have slots below `slots`
pub record SearchLaw (h : Hierarchy) (slots : ℕ) (d : Description) (budget : ℕ) : Type 0 where
  pub sound : AnswersAreSolutions h empty_program d (found h budget slots d).answers
  pub complete : (found h budget slots d).finished ≡ true → SolutionsAreAnswered h empty_program d (found h budget slots d).answers
  pub subsumed : SubsumedAreSolutions h empty_program d (found h budget slots d).answers
  -- without disjunction two visits for each part, and two to spare
  pub enough : HasNoChoice d → 2 * parts d + 2 ≤ budget → (found h budget slots d).finished ≡ true
  pub budgeted : BudgetLaw plain.State visits.Answer (visits.visit (bare h)) budget (start slots d ∷ [])

abbrev pub SearchLaws : Type 0
SearchLaws = (h : Hierarchy) (slots : ℕ) (d : Description) (budget : ℕ) → IsLawful h → FitsDescription h slots d → SearchLaw h slots d budget
