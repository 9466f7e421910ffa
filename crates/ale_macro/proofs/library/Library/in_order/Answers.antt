use Rattle.ale_macro.proofs.Building.{tables_are}
use Rattle.ale_macro.proofs.library.Library.in_order.Goals as goal

pub invariant_of-result : goal.invariant_of-result
invariant_of-result c =
    tables_are c.args.lists c.args.macros.items c.as_slice.result.now c.as_slice-2.result.now c.as_slice-3.result.now c.args.order.now
    c.in_ok-projections.projections.items c.in_ok-tallies.tallies.items c.in_ok-depths.depths.items
    c.as_slice.ensures.value c.as_slice-2.ensures.value c.as_slice-3.ensures.value c.requires.known c.requires.order
    c.in_ok-projections.ensures c.in_ok-tallies.ensures c.in_ok-depths.ensures
