use Rattle.std.proofs.Common.{◌+◌, drop}
use Rattle.ale_relation.specs.Has.{Has}
use Rattle.ale_hierarchy.proofs.LoopLemmas.{Has_item, drop_item, drop_end}
use Rattle.ale_signature.proofs.SizeTableLemmas.{features-below, size_past, size_all}
use Rattle.ale_signature.proofs.sizes.size_of.Goals as goal

pub part_size-requires-clause-f : goal.part_size-requires-clause-f
part_size-requires-clause-f c =
    let here : Has c.args.listed.now c.f-item.result = Has_item c.args.listed.now c.loop-f.f-index c.f-item.result c.loop-f-test.true c.f-item.is in
    features-below c.args.order.now c.args.t c.f-item.result (rw c.requires.listed at here)

pub returns-in-None-clause-unknown : goal.returns-in-None-clause-unknown
returns-in-None-clause-unknown c =
    λ _ _.
    let here : Has c.args.listed.now c.f-item.result = Has_item c.args.listed.now c.loop-f.f-index c.f-item.result c.loop-f-test.true c.f-item.is in
    (c.f-item.result, features-below c.args.order.now c.args.t c.f-item.result (rw c.requires.listed at here), c.in-None.ensures.unknown)

pub returns-then-total-gt-MOST_NODES-clause-unknown : goal.returns-then-total-gt-MOST_NODES-clause-unknown
returns-then-total-gt-MOST_NODES-clause-unknown c =
    λ _ small.
    absurd (size_past c.args.order.now c.args.t c.args.listed.now (drop (c.loop-f.f-index + 1) c.args.listed.now) c.loop-f.f-index c.f-item.result c.loop-f.total c.in-Some.part c.requires.listed
    (drop_item c.args.listed.now c.loop-f.f-index c.f-item.result c.loop-f-test.true c.f-item.is)
    c.loop-f.invariant.sum c.in-Some.ensures.known c.if-total-gt-MOST_NODES.true small)

pub returns-clause-known : goal.returns-clause-known
returns-clause-known c =
    λ _. size_all c.args.order.now c.args.t c.args.listed.now c.loop-f.f-index c.loop-f.total c.requires.listed
    (drop_end c.args.listed.now c.loop-f.f-index c.loop-f-test.false)
    c.loop-f.invariant.sum c.loop-f.invariant.small
