use Rattle.std.proofs.Common.{◌+◌, drop, get_or}
use Rattle.std.proofs.lemmas.List.{drop_more}
use Rattle.ale_order.proofs.Dependences.{root_below, next_group}
use Rattle.ale_order.proofs.groups.groups.Goals as goal

pub collect-requires-clause-root_in : goal.collect-requires-clause-root_in
collect-requires-clause-root_in c =
    let left = c.args.left.now in
    let i = c.loop-r.r-index in
    root_below c.args.graph.now c.args.size c.loop-r.groups.items (get_or left i 0) (drop i left) (drop (i + 1) left) (drop_more left i 0 c.loop-r-test.true) c.loop-r.invariant

pub loop-r-preserved : goal.loop-r-preserved
loop-r-preserved c =
    let left = c.args.left.now in
    let i = c.loop-r.r-index in
    next_group c.args.graph.now c.args.size c.loop-r.groups.items c.collect.new.groups.items (get_or left i 0) (drop i left) (drop (i + 1) left) (drop_more left i 0 c.loop-r-test.true) c.in_ok-collect.ensures.collects c.loop-r.invariant
