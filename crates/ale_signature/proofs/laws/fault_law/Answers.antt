use Rattle.ale_declared.specs.Declarations.{declared}
use Rattle.ale_declared.proofs.DeclaredLemmas.{IsWellNumbered-declared}
use Rattle.ale_signature.proofs.FaultOf.{finds_fault}
use Rattle.ale_signature.proofs.laws.fault_law.Goals as goal

pub returns : goal.returns
returns c = λ decls. finds_fault (declared decls) (IsWellNumbered-declared decls)
