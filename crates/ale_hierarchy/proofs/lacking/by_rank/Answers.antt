use Rattle.std.proofs.Common.{length, arith, ◌∙◌, ◌≡◌, suc}
use Rattle.ale_hierarchy.specs.Order.{rank}
use Rattle.ale_hierarchy.proofs.LackingLemmas.{listed_more, IsByRank-listed}
use Rattle.ale_hierarchy.proofs.lacking.by_rank.Goals as goal

pub loop-step-init : goal.loop-step-init
loop-step-init c = c.new-types.ensures.items

pub loop-step-preserved : goal.loop-step-preserved
loop-step-preserved c =
    let d = c.args.order.now in
    listed_more (rank d) (length d.types) c.loop-step.step c.as_slice.result.now c.loop-step.types.items c.push_of_rank.new.types.items
    (c.as_slice.ensures.value ∙ c.in_ok-ranks.ensures) c.loop-step.invariant
    (rw (← c.type_count-highest.ensures.value) c.in_ok-push_of_rank.ensures)

pub returns : goal.returns
returns c =
    let d = c.args.order.now in
    let highest : c.type_count-highest.result ≡ length d.types = c.type_count-highest.ensures.value in
    let all : c.loop-step.step ≡ suc (length d.types) = omega arith in
    IsByRank-listed d c.loop-step.types.items c.loop-step.step all c.loop-step.invariant
