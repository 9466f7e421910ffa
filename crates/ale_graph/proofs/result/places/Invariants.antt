use Rattle.std.proofs.Common.{◌≡◌, ◌≤◌, map}
use Rattle.ale_declared.specs.Lists.{upto}
use Rattle.ale_graph.specs.Closure.{place}
use Rattle.ale_graph.specs.Drafts.{class_in}
use Rattle.ale_graph.proofs.result.places.Given as goal

abbrev pub invariant-loop-node : goal.invariant-loop-node
invariant-loop-node l = record {
  items : l.places.items ≡ map (place (class_in l.class)) (upto l.node);
  before : l.before ≡ place (class_in l.class) l.node;
  low : l.before ≤ l.node;
}
