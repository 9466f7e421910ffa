use Rattle.std.proofs.Common.{◌≡◌, length, arith}
use Rattle.ale_hierarchy.proofs.OrderLemmas.{rank_is}
use Rattle.ale_hierarchy.proofs.order.Order.rank.Goals as goal

pub returns : goal.returns
returns c =
    let all : c.loop-u.u ≡ length c.args.self.now.types = omega arith in
    rw (rank_is c.args.self.now c.args.t, ← all) c.loop-u.invariant.counted
