use Rattle.std.proofs.Common.{◌≤◌, length, arith}
use Rattle.ale_hierarchy.specs.Order.{rank}
use Rattle.ale_hierarchy.proofs.JoinTableLemmas.{join_rows-filled}
use Rattle.ale_hierarchy.proofs.OrderLemmas.{rank-le-types}
use Rattle.ale_hierarchy.proofs.joins.all_joins.Goals as goal

pub returns-clause-rows : goal.returns-clause-rows
returns-clause-rows c =
    join_rows-filled c.args.order.now c.loop-rank.rows.items c.loop-rank.invariant.len (λ t inside.
    let most : rank c.args.order.now t ≤ length c.args.order.now.types = rank-le-types c.args.order.now t in
    c.loop-rank.invariant.filled t inside (omega arith))

pub returns-clause-least : goal.returns-clause-least
returns-clause-least c =
    λ a b p q.
    let most : rank c.args.order.now a ≤ length c.args.order.now.types = rank-le-types c.args.order.now a in
    (c.loop-rank.invariant.filled a p (omega arith)).least b q
