use Rattle.std.proofs.Common.{◌<◌, length, set, get_or, ◌∙◌, ap, arith}
use Rattle.std.proofs.lemmas.List.{get_or_default}
use Rattle.std.proofs.lemmas.List.Edits.{map_over_more}
use Rattle.ale_graph.specs.Drafts.{renamed}
use Rattle.ale_graph.proofs.partition.rename.Goals as goal

pub loop-number-preserved : goal.loop-number-preserved
loop-number-preserved c =
    let lt : c.loop-number.number-index < length c.loop-number.number-items = omega arith in
    ap (set c.loop-number.number-items c.loop-number.number-index) c.renamed.ensures
    ∙ map_over_more (renamed c.args.from c.args.to) c.deref_mut-number-items.result.now c.loop-number.number-items c.loop-number.number-index (get_or c.loop-number.number-items c.loop-number.number-index 0) (omega arith) c.loop-number.invariant (get_or_default c.loop-number.number-items c.loop-number.number-index 0 (get_or c.loop-number.number-items c.loop-number.number-index 0) lt)
