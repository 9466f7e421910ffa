-- What a report of the program stands for, and what is known of a run before its texts are spoken of as accepted.
use Rattle.std.specs.Prelude.{◌≡◌, ◌<◌, ◌≤◌, Option, List, ℕ, Result, Ok, Err, length, string_bytes}
use Rattle.ale_relation.specs.Has.{Has}
use Rattle.ale_base.specs.declared.reading.ReadError.{ReadError}
use Rattle.ale_base.specs.declared.reading.ReadError.TheVariants as read
use Rattle.ale_declared.specs.Declarations.{Declared}
use Rattle.ale_report.specs.Written.{AreCountable}
use Rattle.ale_load.specs.Files.{file_limit}
use Rattle.ale_load.specs.Grammars.{LoadedData, load_of}
use Rattle.ale_load.specs.Commands.{QueryData, commands_of}
use Rattle.ale_top.specs.declared.report.Report.{Report}
use Rattle.ale_top.specs.declared.running.Input.{Input}
use Rattle.ale_top.specs.declared.running.Input.TheVariants.{Whole, TooLong}
use Rattle.ale_top.specs.declared.status.Status.{Status}
use Rattle.ale_top.specs.declared.status.Status.TheVariants.{ReadFault, NoMemory}
use Rattle.ale_top.specs.Jobs.{Job}
use Rattle.ale_top.specs.Output.{Ending, search_for, outcome}
use Rattle.ale_top.specs.Runs.{Wrote, IsAnswered, AsStated}

abbrev pub report_of : Report → Ending
report_of r = (r.status, string_bytes r.text)

-- What was read of a file: all its bytes, or that it has more than a file may have.
abbrev pub IsInput : Input → List ℕ → Type 0
IsInput TooLong bytes = file_limit < length bytes
IsInput (Whole v) bytes = (v.items ≡ bytes) × (length bytes ≤ file_limit)

-- what was read of a file that is stated to hold bytes, where any are stated
abbrev pub IsInputOf : Option (List ℕ) → Input → Type 0
IsInputOf stated i = (bytes : List ℕ) × AsStated stated bytes × IsInput i bytes

-- what the reading of a file comes to where it isn't read whole
abbrev pub unread : ReadError → Result Input Status
unread read.TooLong = Ok TooLong
unread read.Failed = Err ReadFault
unread read.NoMemory = Err NoMemory

-- the nodes of all answers can be counted
abbrev pub AreCounted : Declared → ℕ → List QueryData → Type 0
AreCounted d budget qs = (q : QueryData) → Has qs q → AreCountable (search_for d budget q).answers

-- the same of what the commands of the text c ask for
abbrev pub AreCountedFor : LoadedData → List ℕ → ℕ → Type 0
AreCountedFor l c budget = (qs : List QueryData) → commands_of l c ≡ Ok qs → AreCounted l.signature_of budget qs

-- and of what the texts ask for
abbrev pub AreCountedIn : List ℕ → List ℕ → ℕ → Type 0
AreCountedIn g c budget = (l : LoadedData) → load_of g ≡ Ok l → AreCountedFor l c budget

-- There are texts, as stated, of which what the function gives was written; the nodes of all answers that were written could
-- be counted.
pub record Reached (content : List ℕ → Option (List ℕ)) (job : Job) (budget : ℕ) (result : Status) (old new : Option (List ℕ)) : Type 0 where
  pub grammar : List ℕ
  pub commands : List ℕ
  pub grammar_stated : AsStated (content job.grammar) grammar
  pub commands_stated : AsStated (content job.commands) commands
  pub wrote : Wrote (outcome grammar commands budget) result old new
  pub counted : IsAnswered result → AreCountedIn grammar commands budget
