use Rattle.ale_hierarchy.specs.Order.{join_of_some}
use Rattle.ale_hierarchy.specs.Stages.{restricted}
use Rattle.ale_signature.proofs.ClashLemmas.{no_clash_found}
use Rattle.ale_signature.proofs.witnesses.has_clash.Goals as goal

pub returns-in-Ok : goal.returns-in-Ok
returns-in-Ok c =
    no_clash_found (restricted c.args.order.now c.args.t c.args.mentions.now) c.in-Ok.field-0 (join_of_some c.args.order.now (restricted c.args.order.now c.args.t c.args.mentions.now)) c.in-Ok.ensures.value c.in-Ok.ensures.there
