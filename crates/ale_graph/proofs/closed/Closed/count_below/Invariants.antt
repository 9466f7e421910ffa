use Rattle.std.proofs.Common.{◌≡◌, ◌≤◌}
use Rattle.ale_graph.specs.Closure.{place, class_of}
use Rattle.ale_graph.proofs.closed.Closed.count_below.Given as goal

abbrev pub invariant-loop-node : goal.invariant-loop-node
invariant-loop-node l = (l.count ≤ l.node) × (l.count ≡ place (class_of l.self) l.node)
