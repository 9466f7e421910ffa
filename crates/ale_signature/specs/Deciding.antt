-- The tests of what can be wrong find exactly the signatures that are accepted and the fault of each other
-- one, whatever is declared. Source: this project's own.
use Rattle.std.specs.Prelude.{◌≡◌, ◌↔◌, true, Some, None, List}
use Rattle.ale_declared.specs.Declarations.{Declared, declared}
use Rattle.ale_declared.specs.declared.decl.SigDecl.{SigDecl}
use Rattle.ale_hierarchy.specs.Accepted.{IsAccepted}
use Rattle.ale_hierarchy.specs.Faults.{accepts, fault_of}
use Rattle.ale_hierarchy.specs.Refusals.{IsFault}
use Rattle.ale_hierarchy.specs.declared.fault.Fault.{Fault}

-- what is declared passes all tests exactly where it is accepted
abbrev pub AcceptsDecides : Type 0
AcceptsDecides = (decls : List SigDecl) → (accepts (declared decls) ≡ true) ↔ IsAccepted (declared decls)

-- No fault is found exactly where the signature is accepted, and a fault exactly where the signature has it.
-- It has one fault only.
pub record FindsFault (d : Declared) : Type 0 where
  pub none : (fault_of d ≡ None) ↔ IsAccepted d
  pub some : (f : Fault) → (fault_of d ≡ Some f) ↔ IsFault d f
  pub one : (f g : Fault) → IsFault d f → IsFault d g → f ≡ g

-- they do so for whatever is declared
abbrev pub FaultsDecide : Type 0
FaultsDecide = (decls : List SigDecl) → FindsFault (declared decls)
