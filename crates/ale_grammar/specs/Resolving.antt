-- What declarations are resolved to: a program and what its names mean, or the fault that is told.
-- Source: this project's own.
use Rattle.std.specs.Prelude.{Result, Ok, Err, List}
use Rattle.ale_declared.specs.Declarations.{Declared}
use Rattle.ale_declaration.specs.Declarations.{DeclarationData}
use Rattle.ale_logic.specs.Programs.{Program}
use Rattle.ale_describe.specs.Names.{NamesData}
use Rattle.ale_describe.specs.Macros.{names_of}
use Rattle.ale_naming.specs.Faults.{Fault, IsNameFault, AreRight}
use Rattle.ale_grammar.specs.Programs.{program_of}

pub record ResolvedData : Type 0 where
  pub program : Program
  pub names : NamesData

abbrev pub resolved_of : Declared → List DeclarationData → ResolvedData
resolved_of d ds = record { program = program_of d ds; names = names_of d ds }

pub data IsResolved (d : Declared) (ds : List DeclarationData) : Result ResolvedData Fault → Type 0 where
  refused : (f : Fault) → IsNameFault d ds f → IsResolved d ds (Err f)
  resolved : AreRight d ds → IsResolved d ds (Ok (resolved_of d ds))
