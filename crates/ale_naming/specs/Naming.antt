-- What declarations give names: what macros and predicates mean, or the fault that is told.
-- Source: this project's own.
use Rattle.std.specs.Prelude.{Result, Ok, Err, List}
use Rattle.ale_declared.specs.Declarations.{Declared}
use Rattle.ale_declaration.specs.Declarations.{DeclarationData}
use Rattle.ale_describe.specs.Names.{NamesData}
use Rattle.ale_describe.specs.Macros.{names_of}
use Rattle.ale_naming.specs.Faults.{Fault, IsNameFault, AreRight}

pub data AreNamed (d : Declared) (ds : List DeclarationData) : Result NamesData Fault → Type 0 where
  refused : (f : Fault) → IsNameFault d ds f → AreNamed d ds (Err f)
  named : AreRight d ds → AreNamed d ds (Ok (names_of d ds))
