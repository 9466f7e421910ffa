use Rattle.std.proofs.Common.{sym}
use Rattle.ale_hierarchy.proofs.HighestLemmas.{first_top, first_top_none}
use Rattle.ale_hierarchy.proofs.tops.most_general.Goals as goal

pub returns-then-is_above_all : goal.returns-then-is_above_all
returns-then-is_above_all c =
    sym (first_top c.args.order.now c.args.types.now c.in_ok-top.top c.in_ok-top.ensures.some c.in_ok-top.ensures.top (sym c.if-is_above_all.ensures))

pub returns-else-is_above_all : goal.returns-else-is_above_all
returns-else-is_above_all c =
    sym (first_top_none c.args.order.now c.args.types.now c.in_ok-top.top c.in_ok-top.ensures.top (sym c.if-is_above_all.ensures))
