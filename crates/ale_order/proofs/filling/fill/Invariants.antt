use Rattle.std.proofs.Common.{drop}
use Rattle.ale_order.proofs.Fillings.{IsFilling}
use Rattle.ale_order.proofs.filling.fill.Given as goal

abbrev pub invariant-loop-m : goal.invariant-loop-m
invariant-loop-m g l =
    IsFilling (g.E.Entries.calls l.entries) (g.E.Entries.is_right l.entries) l.size l.table.items (drop l.m-index l.order)
