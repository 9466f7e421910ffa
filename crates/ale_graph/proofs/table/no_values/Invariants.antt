use Rattle.std.proofs.Common.{◌≡◌, replicate, []}
use Rattle.ale_graph.proofs.table.no_values.Given as goal

abbrev pub invariant-loop-class : goal.invariant-loop-class
invariant-loop-class l = l.values.items ≡ replicate l._class []
