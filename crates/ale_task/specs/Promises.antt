-- What is promised of the reply to a command: a word for each promise, with a case for each kind of command.
-- Source: most general satisfiers, Carpenter 1992, chapters 4, 14 and 15.
use Rattle.std.specs.Prelude.{◌≡◌, ℕ, ◌+◌, ◌*◌, ◌≤◌, true, Some, List, [], ◌∷◌, map}
use Rattle.ale_declared.specs.Lists.{Has}
use Rattle.ale_hierarchy.specs.Hierarchy.{Hierarchy}
use Rattle.ale_graph.specs.Structures.{Structure, IsStructure}
use Rattle.ale_graph.specs.Morphisms.{Subsumes}
use Rattle.ale_morphism.specs.Visible.{visible}
use Rattle.ale_engine.specs.EngineLaws.{BudgetLaw}
use Rattle.ale_logic.specs.Descriptions.{Description, IsAssignment, HoldsAt, HasNoChoice, parts}
use Rattle.ale_logic.specs.Derivations.{Derivable}
use Rattle.ale_logic.specs.Goals.{Goal}
use Rattle.ale_logic.specs.Programs.{Program}
use Rattle.ale_logic.specs.Answers.{node_for, SolvesItself, SolvesUnder, SubsumesSolution, SubsumesGoal}
use Rattle.ale_logic.specs.Growing.{rooted}
use Rattle.ale_logic.specs.Lexicons.{wordless}
use Rattle.ale_logic.specs.Shown.{Shown}
use Rattle.ale_logic.specs.Solutions.{SolvesDescription, SolvesGoal}
use Rattle.ale_logic.specs.States.{State}
use Rattle.ale_logic.specs.Visits.{Answer, visit}
use Rattle.ale_reply_law.specs.Marks.{IsMarked, SearchNeedsMore}
use Rattle.ale_reply_law.specs.Replies.{without_words, IsPartOfSolution, IsPartOfDerivation}
use Rattle.ale_task.specs.Tasks.{TaskData, mgsat, query, start_of, searched, reply}
use Rattle.ale_task.specs.Satisfiers.{IsSatisfier, IsBare}

-- Each answer is a solution, with its variables; what is shown of it has the visible part of a solution, and where
-- nothing else is said of types that part is a satisfier itself.
pub record AreSatisfiers (h : Hierarchy) (program : Program) (d : Description) (t : TaskData) (budget : ℕ) : Type 0 where
  pub answers : (a : Answer) → Has (searched h program t budget).answers a → SolvesItself h program d a
  pub shown : (x : Shown) → Has (reply h program t budget).answers x → IsPartOfSolution (without_words (SolvesDescription h program d)) x
  pub bare : IsBare program d → (x : Shown) → Has (reply h program t budget).answers x → IsSatisfier h program d (visible x.structure)

-- The goal is derived in each answer, whatever nodes its unbound variables stand for; what is shown of it has the visible
-- part of such a solution, with the printed variables.
pub record AreDerivations (h : Hierarchy) (program : Program) (g : Goal) (slots : List ℕ) (t : TaskData) (budget : ℕ) : Type 0 where
  pub answers : (a : Answer) → Has (searched h program t budget).answers a → (free : ℕ → ℕ) → IsAssignment a.closed.graph free →
      SolvesGoal h program g a.closed.graph (node_for a free)
  pub shown : (x : Shown) → Has (reply h program t budget).answers x → IsPartOfDerivation h program g slots x

abbrev pub IsSound : Hierarchy → Program → TaskData → ℕ → Type 0
IsSound h program (mgsat d slots) budget = AreSatisfiers h program d (mgsat d slots) budget
IsSound h program (query g slots printed) budget = AreDerivations h program g printed.slots (query g slots printed) budget

-- one of the answers subsumes the structure, root to root, and so does what is visible of it
pub record IsCovered (h : Hierarchy) (answers : List Shown) (s : Structure) : Type 0 where
  pub answer : Shown
  pub has : Has answers answer
  pub subsumes : Subsumes h answer.structure s
  pub visible_part : Subsumes h (visible answer.structure) s

-- At the end of the search some answer subsumes each solution, with its variables, and is shown.
pub record HasSatisfiers (h : Hierarchy) (program : Program) (d : Description) (t : TaskData) (budget : ℕ) : Type 0 where
  pub answers : (s : Structure) (n : ℕ) (assign : ℕ → ℕ) → SolvesUnder h program d s n assign →
      (a : Answer) × Has (searched h program t budget).answers a × SubsumesSolution h a s n assign
  pub shown : (s : Structure) (n : ℕ) → SolvesDescription h program d s n → IsCovered h (reply h program t budget).answers (rooted s (Some n ∷ []))

pub record HasDerivations (h : Hierarchy) (program : Program) (g : Goal) (slots : List ℕ) (t : TaskData) (budget : ℕ) : Type 0 where
  pub answers : (s : Structure) (assign : ℕ → ℕ) → SolvesGoal h program g s assign →
      (a : Answer) × Has (searched h program t budget).answers a × SubsumesGoal h a s assign
  pub shown : (s : Structure) (assign : ℕ → ℕ) → SolvesGoal h program g s assign →
      IsCovered h (reply h program t budget).answers (rooted s (map (λ v. Some (assign v)) slots))

abbrev pub IsComplete : Hierarchy → Program → TaskData → ℕ → Type 0
IsComplete h program (mgsat d slots) budget = (reply h program (mgsat d slots) budget).complete ≡ true → HasSatisfiers h program d (mgsat d slots) budget
IsComplete h program (query g slots printed) budget =
    (reply h program (query g slots printed) budget).complete ≡ true → HasDerivations h program g printed.slots (query g slots printed) budget

-- Each structure that an answer subsumes is as described, with its variables; and where nothing else is said of types, each
-- that is subsumed by what is visible of one, root to root, is a satisfier.
pub record SubsumesSatisfiers (h : Hierarchy) (program : Program) (d : Description) (t : TaskData) (budget : ℕ) : Type 0 where
  pub answers : (a : Answer) → Has (searched h program t budget).answers a → (s : Structure) (n : ℕ) (assign : ℕ → ℕ) → IsStructure h s → IsAssignment s assign →
      SubsumesSolution h a s n assign → HoldsAt h s assign d n
  pub bare : IsBare program d → (x : Shown) → Has (reply h program t budget).answers x → (s : Structure) (root : ℕ) → IsStructure h s → s.roots ≡ Some root ∷ [] →
      Subsumes h (visible x.structure) s → IsSatisfier h program d s

abbrev pub IsSubsumed : Hierarchy → Program → TaskData → ℕ → Type 0
IsSubsumed h program (mgsat d slots) budget = SubsumesSatisfiers h program d (mgsat d slots) budget
IsSubsumed h program (query g slots printed) budget =
    (a : Answer) → Has (searched h program (query g slots printed) budget).answers a → (s : Structure) (assign : ℕ → ℕ) → IsStructure h s → IsAssignment s assign →
    SubsumesGoal h a s assign → Derivable h program s assign g

-- for a description without disjunction, where the program has no constraint, two visits a part and two to spare are enough
abbrev pub IsEnough : Hierarchy → Program → TaskData → ℕ → Type 0
IsEnough h program (mgsat d slots) budget =
    HasNoChoice d → program.constraints ≡ [] → 2 * parts d + 2 ≤ budget → (reply h program (mgsat d slots) budget).complete ≡ true
IsEnough h program (query g slots printed) budget = Unit {0}

-- the reply is unfinished exactly where its search needs more visits than the budget
abbrev pub IsMarkedRightly : Hierarchy → Program → TaskData → ℕ → Type 0
IsMarkedRightly h program t budget = IsMarked (reply h program t budget) budget (SearchNeedsMore (wordless h program) (start_of t) budget)

-- how many visits are made, and what a larger budget gives
abbrev pub IsBudgeted : Hierarchy → Program → TaskData → ℕ → Type 0
IsBudgeted h program t budget = BudgetLaw State Answer (visit (wordless h program)) budget (start_of t ∷ [])
