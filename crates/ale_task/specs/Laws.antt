-- The laws of tasks: what the reply to each command means, how it is marked, that what is shown can be printed, and that
-- its text fixes it. Source: most general satisfiers, Carpenter 1992, chapters 4, 14 and 15.
use Rattle.std.specs.Prelude.{ℕ}
use Rattle.ale_declared.specs.Lists.{Has}
use Rattle.ale_declared.specs.Declarations.{Declared}
use Rattle.ale_declared.specs.Numbering.{AreDistinct}
use Rattle.ale_hierarchy.specs.Hierarchy.{Hierarchy, IsLawful}
use Rattle.ale_hierarchy.specs.Order.{hierarchy}
use Rattle.ale_graph.specs.Structures.{IsStructure}
use Rattle.ale_logic.specs.Programs.{Program}
use Rattle.ale_logic.specs.Fitting.{FitsProgram}
use Rattle.ale_logic.specs.Answers.{IsAccepted}
use Rattle.ale_logic.specs.Visits.{Answer}
use Rattle.ale_task.specs.Tasks.{TaskData, FitsTask, IsPlainTask, searched, shown_of, reply}
use Rattle.ale_task.specs.Promises.{IsSound, IsComplete, IsSubsumed, IsEnough, IsMarkedRightly, IsBudgeted}
use Rattle.ale_task.specs.Written.{TextsFix, AreCountable}

-- of an accepted program inside the fragment
pub record TaskLaw (h : Hierarchy) (program : Program) (t : TaskData) (budget : ℕ) : Type 0 where
  pub sound : IsSound h program t budget
  pub complete : IsComplete h program t budget
  pub subsumed : IsSubsumed h program t budget
  pub enough : IsEnough h program t budget

abbrev pub TaskLaws : Type 0
TaskLaws = (h : Hierarchy) (program : Program) (t : TaskData) (budget : ℕ) → IsAccepted h program → FitsTask h t → IsPlainTask t → TaskLaw h program t budget

-- of every program, also of those with cut, negation and if-then
pub record MarkLaw (h : Hierarchy) (program : Program) (t : TaskData) (budget : ℕ) : Type 0 where
  pub marked : IsMarkedRightly h program t budget
  pub budgeted : IsBudgeted h program t budget

abbrev pub MarkLaws : Type 0
MarkLaws = (h : Hierarchy) (program : Program) (t : TaskData) (budget : ℕ) → MarkLaw h program t budget

-- what is shown of each answer is a total, extensional structure
abbrev pub ShownLaws : Type 0
ShownLaws =
    (h : Hierarchy) (program : Program) (t : TaskData) (budget : ℕ) → IsLawful h → FitsProgram h program → FitsTask h t →
    (a : Answer) → Has (searched h program t budget).answers a → IsStructure h (shown_of t a)

abbrev pub TextsLaws : Type 0
TextsLaws =
    (d : Declared) (program : Program) (t : TaskData) (budget : ℕ) → IsLawful (hierarchy d) → AreDistinct d.types → FitsProgram (hierarchy d) program → FitsTask (hierarchy d) t →
    AreCountable (reply (hierarchy d) program t budget).answers → TextsFix d program t budget
