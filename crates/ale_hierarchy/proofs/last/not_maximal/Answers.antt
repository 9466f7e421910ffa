use Rattle.std.proofs.Common.{◌∙◌, sym, arith}
use Rattle.ale_hierarchy.proofs.HierarchyFaults.{ext_found, ext_nowhere, not_maximal_tested}
use Rattle.ale_hierarchy.proofs.last.not_maximal.Goals as goal

pub returns-then-not-is_last : goal.returns-then-not-is_last
returns-then-not-is_last c =
    let d = c.args.order.now in
    let listed = rw (c.ext.ensures, c.outline.ensures.value) at (sym c.is_among.ensures ∙ c.if-is_among.true) in
    ext_found d c.loop-t.t (omega arith) (not_maximal_tested d c.loop-t.t c.is_last.result listed c.is_last.ensures c.if-not-is_last.true) c.loop-t.invariant

pub returns : goal.returns
returns c = ext_nowhere c.args.order.now (λ t h. c.loop-t.invariant t (omega arith))
