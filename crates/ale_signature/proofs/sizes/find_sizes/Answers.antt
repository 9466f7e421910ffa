use Rattle.std.proofs.Common.{◌∙◌, ap, length, arith}
use Rattle.std.proofs.lemmas.List.{length-replicate}
use Rattle.ale_signature.proofs.SizeTableLemmas.{TellsSizes-none, KnowsTo-none}
use Rattle.ale_signature.proofs.StageFaults.{small_known, large_unknown, large_settled, knows_all}
use Rattle.ale_signature.proofs.sizes.find_sizes.Goals as goal

pub loop-round-init : goal.loop-round-init
loop-round-init c =
    let d = c.args.order.now in
    let n = c.type_count.result in
    let zeros = c.in_ok-sizes.ensures.items_if_clones_equal (λ y same. same) in
    record {
      len = ap length zeros ∙ length-replicate n 0 ∙ c.type_count.ensures.value;
      tells = TellsSizes-none d c.in_ok-sizes.sizes.items n zeros;
      knows = KnowsTo-none d c.in_ok-sizes.sizes.items;
    }

pub returns-then-not-size_round-clause-small : goal.returns-then-not-size_round-clause-small
returns-then-not-size_round-clause-small c = small_known c.args.order.now c.size_round.new.sizes.items c.size_round.ensures.tells

pub returns-then-not-size_round-clause-large : goal.returns-then-not-size_round-clause-large
returns-then-not-size_round-clause-large c =
    large_settled c.args.order.now c.size_round.new.sizes.items
    (knows_all c.args.order.now c.loop-round.sizes.items c.size_round.new.sizes.items (c.size_round.ensures.settled c.if-not-size_round.true) c.size_round.ensures.more)

pub returns-clause-small : goal.returns-clause-small
returns-clause-small c = small_known c.args.order.now c.loop-round.sizes.items c.loop-round.invariant.tells

pub returns-clause-large : goal.returns-clause-large
returns-clause-large c = large_unknown c.args.order.now c.loop-round.sizes.items c.loop-round.round (omega arith) c.loop-round.invariant.knows

pub loop-round-preserved : goal.loop-round-preserved
loop-round-preserved c = record {
  len = c.size_round.ensures.len;
  tells = c.size_round.ensures.tells;
  knows = c.size_round.ensures.more c.loop-round.round c.loop-round.invariant.knows;
}
