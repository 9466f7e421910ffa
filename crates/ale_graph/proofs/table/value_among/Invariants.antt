use Rattle.std.proofs.Common.{◌≡◌, drop}
use Rattle.ale_graph.specs.Structures.{value_in}
use Rattle.ale_graph.proofs.table.value_among.Given as goal

abbrev pub invariant-loop-value : goal.invariant-loop-value
invariant-loop-value l = value_in (drop l.value-index l.values) l.feature ≡ value_in l.values l.feature
