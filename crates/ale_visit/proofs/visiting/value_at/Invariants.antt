use Rattle.std.proofs.Common.{◌≡◌, drop}
use Rattle.ale_graph.specs.Filling.{class_value}
use Rattle.ale_graph.specs.Closure.{class_of}
use Rattle.ale_visit.proofs.visiting.value_at.Given as goal

abbrev pub invariant-loop-fact : goal.invariant-loop-fact
invariant-loop-fact l =
    class_value (class_of l.closed) (drop l.fact-index l.closed.facts) (class_of l.closed l.node) l.feature
    ≡ class_value (class_of l.closed) l.closed.facts (class_of l.closed l.node) l.feature
