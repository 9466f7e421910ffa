use Rattle.std.proofs.Common.{◌≡◌, replicate}
use Rattle.ale_graph.proofs.raise.general_types.Given as goal

abbrev pub invariant-loop-class : goal.invariant-loop-class
invariant-loop-class l = l.types.items ≡ replicate l._class 0
