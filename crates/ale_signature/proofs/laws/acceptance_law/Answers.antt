use Rattle.ale_declared.specs.Declarations.{declared}
use Rattle.ale_hierarchy.proofs.Acceptance.{accepts_is}
use Rattle.ale_declared.proofs.DeclaredLemmas.{IsWellNumbered-declared}
use Rattle.ale_signature.proofs.laws.acceptance_law.Goals as goal

pub returns : goal.returns
returns c = λ decls. accepts_is (declared decls) (IsWellNumbered-declared decls)
