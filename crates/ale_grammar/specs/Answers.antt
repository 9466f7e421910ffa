-- What the call answers: exactly what is defined, unless memory ran out. Source: this project's own.
use Rattle.std.specs.Prelude.{◌≡◌, Result, Ok, Err}
use Rattle.ale_program.specs.Views.{program}
use Rattle.ale_naming.specs.declared.fault.NameFault.{NameFault}
use Rattle.ale_naming.specs.declared.fault.NameFault.TheVariants.{At, NoMemory}
use Rattle.ale_naming.specs.Faults.{Fault}
use Rattle.ale_grammar.specs.Resolving.{ResolvedData}
use Rattle.ale_grammar.specs.declared.grammar.Resolved.{Resolved}

abbrev pub resolved_data : Resolved → ResolvedData
resolved_data r = record { program = program r.program; names = r.names }

abbrev pub ResolvedGives : Result Resolved NameFault → Result ResolvedData Fault → Type 0
ResolvedGives (Ok r) answer = answer ≡ Ok (resolved_data r)
ResolvedGives (Err NoMemory) answer = Unit {0}
ResolvedGives (Err (At k e)) answer = answer ≡ Err (k, e)

-- the fault of a call that did not run out of memory
abbrev pub IsTold : (Result ResolvedData Fault → Type 0) → NameFault → Type 0
IsTold Is NoMemory = Unit {0}
IsTold Is (At k e) = Is (Err (k, e))
