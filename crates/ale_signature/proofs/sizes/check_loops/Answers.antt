use Rattle.std.proofs.Common.{◌∙◌, ap}
use Rattle.std.specs.Prelude.{not}
use Rattle.ale_signature.proofs.StageFaults.{no_loop_without}
use Rattle.ale_signature.proofs.sizes.check_loops.Goals as goal

pub returns-then-is_none-clause-none : goal.returns-then-is_none-clause-none
returns-then-is_none-clause-none c =
    no_loop_without c.args.order.now c.args.large c.type_count.ensures.ordered c.requires.large (c.is_none.ensures ∙ ap not c.if-is_none.true)
