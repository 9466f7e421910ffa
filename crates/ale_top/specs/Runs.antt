-- What a call of `run` leaves: the status and text that are owed, unless a call of the files or of the sink failed or
-- memory ran out; then a prefix of the text, or nothing. Source: this project's own.
use Rattle.std.specs.Prelude.{◌≡◌, true, false, ℕ, Option, Some, IfSome, List, ◌⊎◌, take, [], Ok}
use Rattle.std.specs.Io.KnownBytes.{Appends}
use Rattle.ale_top.specs.declared.status.Status.{Status}
use Rattle.ale_top.specs.declared.status.Status.TheVariants.{Done, Unfinished, Words, Grammar, Commands, ReadFault, WriteFault, NoMemory}
use Rattle.ale_relation.specs.Has.{Has}
use Rattle.ale_engine.specs.Engine.{Outcome}
use Rattle.ale_logic.specs.declared.answer.Answer.{Answer}
use Rattle.ale_load.specs.Grammars.{LoadedData, IsLoaded}
use Rattle.ale_load.specs.Commands.{QueryData, AreCommands}
use Rattle.ale_top.specs.Jobs.{Job, job_of}
use Rattle.ale_top.specs.Output.{Ending, search_for, Output}
use Rattle.ale_top.specs.Meanings.{Fixed}

-- some prefix of the text was appended
abbrev pub AppendsPrefix : Option (List ℕ) → Option (List ℕ) → List ℕ → Type 0
AppendsPrefix old new text = (n : ℕ) × Appends old new (take n text)

-- The run ended as it is owed, or a fault came between or memory ran out.
abbrev pub Wrote : Ending → Status → Option (List ℕ) → Option (List ℕ) → Type 0
Wrote owed ReadFault old new = Appends old new []
Wrote owed WriteFault old new = AppendsPrefix old new owed.1
Wrote owed NoMemory old new = AppendsPrefix old new owed.1
Wrote owed Done old new = (owed.0 ≡ Done) × Appends old new owed.1
Wrote owed Unfinished old new = (owed.0 ≡ Unfinished) × Appends old new owed.1
Wrote owed Words old new = (owed.0 ≡ Words) × Appends old new owed.1
Wrote owed Grammar old new = (owed.0 ≡ Grammar) × Appends old new owed.1
Wrote owed Commands old new = (owed.0 ≡ Commands) × Appends old new owed.1

-- how many visits a search may make
unfoldable pub default_budget : ℕ
default_budget = 1000000

-- a status with which a run ends before anything is written
abbrev pub IsEarly : Status → Type 0
IsEarly s = (s ≡ ReadFault) ⊎ (s ≡ NoMemory)

-- a status that is no fault and does not say that memory ran out
abbrev pub IsOwed : Status → Type 0
IsOwed Done = Unit {0}
IsOwed Unfinished = Unit {0}
IsOwed Words = Unit {0}
IsOwed Grammar = Unit {0}
IsOwed Commands = Unit {0}
IsOwed ReadFault = ⊥
IsOwed WriteFault = ⊥
IsOwed NoMemory = ⊥

-- how a run of a job ends where nothing fails
abbrev pub IsReported : Status → Type 0
IsReported Done = Unit {0}
IsReported Unfinished = Unit {0}
IsReported Grammar = Unit {0}
IsReported Commands = Unit {0}
IsReported Words = ⊥
IsReported ReadFault = ⊥
IsReported WriteFault = ⊥
IsReported NoMemory = ⊥

-- a status with which all answers were written
abbrev pub IsAnswered : Status → Type 0
IsAnswered s = (s ≡ Done) ⊎ (s ≡ Unfinished)

-- The status is s exactly where P holds; a fault or the end of memory may come in its place.
pub record IsExactly (result s : Status) (P : Type 0) : Type 0 where
  pub only : result ≡ s → P
  pub where_it_holds : P → (result ≡ s) ⊎ ((result ≡ ReadFault) ⊎ ((result ≡ WriteFault) ⊎ (result ≡ NoMemory)))

-- the grammar is accepted
abbrev pub IsAcceptedGrammar : List ℕ → Type 0
IsAcceptedGrammar g = (l : LoadedData) × IsLoaded g (Ok l)

-- The texts ask for searches: the grammar is accepted, and the commands describe these nodes.
pub record Asks (g c : List ℕ) (l : LoadedData) (qs : List QueryData) : Type 0 where
  pub grammar : IsLoaded g (Ok l)
  pub commands : AreCommands l c (Ok qs)

-- the commands are accepted for the grammar
abbrev pub AreAccepted : List ℕ → List ℕ → Type 0
AreAccepted g c = (l : LoadedData) × (qs : List QueryData) × Asks g c l qs

-- what holds of the grammar, of each command and of what its search comes to
abbrev pub OfEachIn : List ℕ → List ℕ → ℕ → (LoadedData → QueryData → Outcome Answer → Type 0) → Type 0
OfEachIn g c budget P =
    (l : LoadedData) (qs : List QueryData) → Asks g c l qs → (q : QueryData) → Has qs q → P l q (search_for l.signature_of budget q)

-- the same of all texts
abbrev pub OfEachCommand : ℕ → (LoadedData → QueryData → Outcome Answer → Type 0) → Type 0
OfEachCommand budget P = (g c : List ℕ) → OfEachIn g c budget P

-- every search that is asked for ends within the budget
abbrev pub Finishes : List ℕ → List ℕ → ℕ → Type 0
Finishes g c budget =
    (l : LoadedData) × (qs : List QueryData) × Asks g c l qs
    × ((q : QueryData) → Has qs q → (search_for l.signature_of budget q).finished ≡ true)

-- some search that is asked for needs more visits than the budget
abbrev pub Unfinishes : List ℕ → List ℕ → ℕ → Type 0
Unfinishes g c budget =
    (l : LoadedData) × (qs : List QueryData) × Asks g c l qs
    × ((q : QueryData) × Has qs q × ((search_for l.signature_of budget q).finished ≡ false))

-- What a run of a job leaves whose files hold the texts g and c: it wrote the defined output, each status has its cause,
-- and where all answers were written the text of each fixes its structure.
pub record Ran (g c : List ℕ) (budget : ℕ) (result : Status) (old new : Option (List ℕ)) : Type 0 where
  pub output : (s : Status) (text : List ℕ) → Output g c budget s text → Wrote (s, text) result old new
  pub grammar : IsExactly result Grammar (IsAcceptedGrammar g → ⊥)
  pub commands : IsExactly result Commands (IsAcceptedGrammar g × (AreAccepted g c → ⊥))
  pub done : IsExactly result Done (Finishes g c budget)
  pub unfinished : IsExactly result Unfinished (Unfinishes g c budget)
  pub visible : IsAnswered result → OfEachIn g c budget Fixed

-- the bytes are those that are stated, where any are
abbrev pub AsStated : Option (List ℕ) → List ℕ → Type 0
AsStated stated bytes = IfSome stated (λ b. b ≡ bytes)

-- There are texts of which the job was run: those that its files are stated to hold, where any are stated.
pub record RanOnSome (content : List ℕ → Option (List ℕ)) (job : Job) (budget : ℕ) (result : Status) (old new : Option (List ℕ)) : Type 0 where
  pub grammar : List ℕ
  pub commands : List ℕ
  pub grammar_stated : AsStated (content job.grammar) grammar
  pub commands_stated : AsStated (content job.commands) commands
  pub ran : Ran grammar commands budget result old new

-- the words stand for a job, and the files tell what its grammar is
pub record StatedGrammar (words : List (List ℕ)) (content : List ℕ → Option (List ℕ)) (g : List ℕ) : Type 0 where
  pub job : Job
  pub words_are : job_of words ≡ Some job
  pub grammar : content job.grammar ≡ Some g

-- the words stand for a job, and the files tell what they hold
pub record Stated (words : List (List ℕ)) (content : List ℕ → Option (List ℕ)) (g c : List ℕ) : Type 0 where
  pub job : Job
  pub words_are : job_of words ≡ Some job
  pub grammar : content job.grammar ≡ Some g
  pub commands : content job.commands ≡ Some c
