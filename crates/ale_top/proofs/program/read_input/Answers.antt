use Rattle.std.proofs.Common.{IfOk, sym, subst}
use Rattle.ale_top.specs.Reports.{IsInputOf}
use Rattle.ale_top.proofs.Inputs.{unread_input, too_long}
use Rattle.ale_top.proofs.program.read_input.Goals as goal

pub returns-in-Err-clause-input : goal.returns-in-Err-clause-input
returns-in-Err-clause-input g c =
    let stated = g.F.Files.content c.args.files.now c.args.name.now in
    subst (λ r. IfOk r (IsInputOf stated)) (sym c.unread.ensures) (unread_input stated c.in-Err.error (too_long _ _ stated c.in-Err.error c.in-Err.ensures.too_long))
