-- The states that wait in a search. The stack holds the state that is visited first as its last.
-- Source: this project's own.
use Rattle.std.specs.Prelude.{◌≡◌, Bool, false, List, []}
use Rattle.ale_logic.specs.Runs.{AreStates}
use Rattle.ale_logic.specs.States as plain
use Rattle.ale_program.specs.declared.parts.Parts.{Parts}
use Rattle.ale_visit.specs.declared.state.State.{State}
use Rattle.ale_visit.specs.Views.{grammar, turned, state_of}

-- the parts of the program, what waits, and whether memory ran out
pub record Waits : Type 0 where
  pub program : Parts
  pub waiting : List State
  pub failed : Bool

abbrev pub waiting_of : List State → List plain.State
waiting_of states = turned state_of states []

-- until memory runs out, each that waits is a state over the program's signature
abbrev pub KeepsStates : Parts → List State → Bool → Type 0
KeepsStates program waiting failed = failed ≡ false → AreStates (grammar program) (waiting_of waiting)
