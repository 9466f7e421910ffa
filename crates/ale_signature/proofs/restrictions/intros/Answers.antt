use Rattle.std.proofs.Common.{arith}
use Rattle.std.proofs.lemmas.Result.{err_from_is_err_and}
use Rattle.ale_signature.proofs.StageFaults.{intros_refuse}
use Rattle.ale_signature.proofs.restrictions.intros.Goals as goal

pub returns-in_err-intro_of-clause-refused : goal.returns-in_err-intro_of-clause-refused
returns-in_err-intro_of-clause-refused c =
    let p = err_from_is_err_and c.from_residual.result c.from_residual.ensures.1 in
    rw (p.1, p.2) (intros_refuse c.args.order.now c.loop-f.f c.in_err-intro_of.field-0.0 c.feat_count-f-end.ensures.ordered (omega arith) c.loop-f.invariant.introduces c.in_err-intro_of.ensures.refused)
