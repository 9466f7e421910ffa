-- What the calls answer: exactly what is defined, unless memory ran out. Source: this project's own.
use Rattle.std.specs.Prelude.{◌≡◌, Option, Some, None, Result, Ok, Err}
use Rattle.ale_describe.specs.Names.{NamesData}
use Rattle.ale_naming.specs.declared.fault.NameFault.{NameFault}
use Rattle.ale_naming.specs.declared.fault.NameFault.TheVariants.{At, NoMemory}
use Rattle.ale_naming.specs.Faults.{Fault}

-- the fault that was found
abbrev pub IsFound : NameFault → Option Fault → Type 0
IsFound NoMemory found = Unit {0}
IsFound (At k e) found = found ≡ Some (k, e)

-- a round is over, or ends at a fault
abbrev pub Refuses : {A : Type 0} → Result A NameFault → Option Fault → Type 0
Refuses (Ok done) found = found ≡ None
Refuses (Err e) found = IsFound e found

abbrev pub NamesGive : Result NamesData NameFault → Result NamesData Fault → Type 0
NamesGive (Ok names) answer = answer ≡ Ok names
NamesGive (Err NoMemory) answer = Unit {0}
NamesGive (Err (At k e)) answer = answer ≡ Err (k, e)

-- the fault of a call that did not run out of memory
abbrev pub IsToldFault : (Result NamesData Fault → Type 0) → NameFault → Type 0
IsToldFault Is NoMemory = Unit {0}
IsToldFault Is (At k e) = Is (Err (k, e))
