use Rattle.std.proofs.Common.{◌≡◌, ℕ, ◌<◌, None}
use Rattle.ale_hierarchy.specs.Order.{hierarchy}
use Rattle.ale_graph.specs.Collapsing.{double}
use Rattle.ale_graph.specs.Working.{lists_of, filled_of}
use Rattle.ale_graph.proofs.merge.double_of.Given as goal

abbrev pub invariant-loop-b : goal.invariant-loop-b
invariant-loop-b l = (k : ℕ) → k < l.b → double (hierarchy l.sig) (filled_of (lists_of l.draft)) l.a k ≡ None
