use Rattle.std.proofs.Common.{◌≡◌, ◌<◌, ◌∙◌, ap, length, arith}
use Rattle.ale_hierarchy.specs.Order.{rank}
use Rattle.ale_hierarchy.proofs.TabulatedLemmas.{length-tabulated, get_or-tabulated}
use Rattle.ale_hierarchy.proofs.JoinTableLemmas.{before_kept, here_kept, ranks_filled}
use Rattle.ale_hierarchy.proofs.joins.fill_rank.Goals as goal

pub bounds-ranks-a : goal.bounds-ranks-a
bounds-ranks-a c =
    let long : length c.args.ranks.now ≡ length c.args.order.now.types = ap length c.requires.ranks ∙ length-tabulated (rank c.args.order.now) (length c.args.order.now.types) in
    omega arith

pub fill_if_due-requires-clause-own_rank : goal.fill_if_due-requires-clause-own_rank
fill_if_due-requires-clause-own_rank c =
    let inside : c.loop-a.a < length c.args.order.now.types = omega arith in
    rw c.requires.ranks (get_or-tabulated (rank c.args.order.now) (length c.args.order.now.types) c.loop-a.a 0 inside)

pub loop-a-preserved : goal.loop-a-preserved
loop-a-preserved c =
    let d = c.args.order.now in
    record {
      len = c.in_ok-fill_if_due.ensures.len;
      before = before_kept d c.loop-a.rows.items c.fill_if_due.new.rows.items c.args.due c.loop-a.a c.in_ok-fill_if_due.ensures.others c.in_ok-fill_if_due.ensures.own c.loop-a.invariant.before;
      here = here_kept d c.loop-a.rows.items c.fill_if_due.new.rows.items c.args.due c.loop-a.a c.in_ok-fill_if_due.ensures.others c.loop-a.invariant.here c.in_ok-fill_if_due.ensures.filled;
    }

pub returns-clause-filled : goal.returns-clause-filled
returns-clause-filled c =
    ranks_filled c.args.order.now c.loop-a.rows.items c.args.due c.loop-a.invariant.before (λ t inside is. c.loop-a.invariant.here t (omega arith) is)
