use Rattle.std.proofs.Common.{◌∙◌}
use Rattle.std.proofs.lemmas.Result.{err_from_is_err_and}
use Rattle.ale_declared.specs.Declarations.{declared}
use Rattle.ale_declared.proofs.DeclaredLemmas.{IsWellNumbered-declared}
use Rattle.ale_signature.proofs.BuildLemmas.{at_order}
use Rattle.ale_signature.proofs.signature.Signature.of_decls.Goals as goal

pub new-requires : goal.new-requires
new-requires c = rw c.in_ok-outline.ensures (IsWellNumbered-declared c.args.decls.now)

pub returns-in_err-order-clause-exact : goal.returns-in_err-order-clause-exact
returns-in_err-order-clause-exact c =
    let p = err_from_is_err_and c.from_residual-in_err-order.result c.from_residual-in_err-order.ensures.1 in
    rw (p.1, p.2) (at_order (declared c.args.decls.now) c.in_err-order.field-0.0 (rw c.in_ok-outline.ensures at c.in_err-order.ensures.refused))

pub returns-clause-exact : goal.returns-clause-exact
returns-clause-exact c =
    let is = c.in_ok-order.ensures.ok ∙ c.in_ok-outline.ensures in
    rw is at c.of_order.ensures.exact
