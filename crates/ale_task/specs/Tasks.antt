-- What a command asks for, with a case for each kind of command: the search that it has, what is shown of an answer, and
-- the reply. Source: queries and most general satisfiers, B. Carpenter and G. Penn, ALE 3.2 User's Guide.
use Rattle.std.specs.Prelude.{◌≡◌, ℕ, ◌<◌, List, [], codes, length}
use Rattle.ale_declared.specs.Lists.{Has}
use Rattle.ale_hierarchy.specs.Hierarchy.{Hierarchy}
use Rattle.ale_graph.specs.Structures.{Structure}
use Rattle.ale_engine.specs.Engine.{Outcome}
use Rattle.ale_logic.specs.Descriptions.{Description, description, FitsDescription}
use Rattle.ale_logic.specs.Goals.{Goal, FitsGoal, IsPlain}
use Rattle.ale_logic.specs.Programs.{Program}
use Rattle.ale_logic.specs.Answers.{found_from}
use Rattle.ale_logic.specs.States.{State}
use Rattle.ale_logic.specs.Starts.{start, start_goal}
use Rattle.ale_logic.specs.Visits.{Answer}
use Rattle.ale_logic.specs.Shown as shown
use Rattle.ale_logic.specs.Shown.{Reply, shown_root, shown_slots}
use Rattle.ale_program.specs.Goals.{goal_data}
use Rattle.ale_task.specs.declared.task.Printed.{Printed}
use Rattle.ale_task.specs.declared.task.Task.{Task}
use Rattle.ale_task.specs.declared.task.Task.TheVariants as task

-- a description that is to be satisfied, and a goal that is to be derived, with so many variables; of a goal's variables
-- these are printed
pub data TaskData : Type 0 where
  mgsat : Description → ℕ → TaskData
  query : Goal → ℕ → Printed → TaskData

abbrev pub task_data : Task → TaskData
task_data (task.Mgsat d slots) = mgsat (description d) slots
task_data (task.Query g slots printed) = query (goal_data g) slots printed

-- the word of the command
abbrev pub command_word : TaskData → List ℕ
command_word (mgsat d slots) = codes "mgsat"
command_word (query g slots printed) = codes "query"

-- the names of the roots that are printed; the root of a description has none
abbrev pub root_names : TaskData → List (List ℕ)
root_names (mgsat d slots) = []
root_names (query g slots printed) = printed.names

-- a name for each variable that is printed, and it is one of the goal's
pub record FitsPrinted (slots : ℕ) (printed : Printed) : Type 0 where
  pub named : length printed.names ≡ length printed.slots
  pub inside : (v : ℕ) → Has printed.slots v → v < slots

-- its types and features are ones of the signature, and its variables have slots among so many
abbrev pub FitsTask : Hierarchy → TaskData → Type 0
FitsTask h (mgsat d slots) = FitsDescription h slots d
FitsTask h (query g slots printed) = FitsGoal h slots g × FitsPrinted slots printed

-- no cut, negation or if-then stands in it
abbrev pub IsPlainTask : TaskData → Type 0
IsPlainTask (mgsat d slots) = Unit {0}
IsPlainTask (query g slots printed) = IsPlain g

-- the state with which its search starts
abbrev pub start_of : TaskData → State
start_of (mgsat d slots) = start slots d
start_of (query g slots printed) = start_goal slots g

-- what its search finds within a budget of visits
abbrev pub searched : Hierarchy → Program → TaskData → ℕ → Outcome Answer
searched h program t budget = found_from h program budget (start_of t)

-- what is shown of an answer: from the node of the description, or from those of the printed variables
abbrev pub shown_of : TaskData → Answer → Structure
shown_of (mgsat d slots) a = shown_root a
shown_of (query g slots printed) a = shown_slots printed.slots a

-- what the command comes to
abbrev pub reply : Hierarchy → Program → TaskData → ℕ → Reply
reply h program (mgsat d slots) budget = shown.mgsat h program slots d budget
reply h program (query g slots printed) budget = shown.query h program slots g printed.slots budget
