use Rattle.std.proofs.Common.{◌∙◌, sym, arith}
use Rattle.ale_hierarchy.proofs.FaultTests.{some_other, none_other}
use Rattle.ale_hierarchy.proofs.last.is_last.Goals as goal

pub returns-then-is_above : goal.returns-then-is_above
returns-then-is_above c =
    some_other c.args.order.now c.args.t c.loop-u.u (omega arith) c.if-t-u.true (sym c.is_above.ensures.value ∙ c.if-is_above.true)

pub returns : goal.returns
returns c = none_other c.args.order.now c.args.t (λ u h. c.loop-u.invariant u (omega arith))
