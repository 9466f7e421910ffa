use Rattle.std.proofs.Common.{◌≡◌}
use Rattle.ale_declared.specs.Lists.{upto}
use Rattle.ale_graph.proofs.partition.own_classes.Given as goal

abbrev pub invariant-loop-node : goal.invariant-loop-node
invariant-loop-node l = l.class.items ≡ upto l.node
