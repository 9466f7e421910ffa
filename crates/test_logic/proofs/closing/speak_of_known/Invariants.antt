use Rattle.std.proofs.Common.{drop}
use Rattle.ale_hierarchy.specs.Order.{hierarchy}
use Rattle.ale_graph.specs.Facts.{Fits}
use Rattle.test_logic.proofs.closing.speak_of_known.Given as goal

abbrev pub invariant-loop-fact : goal.invariant-loop-fact
invariant-loop-fact l = Fits (hierarchy l.sig) (drop l.fact-index l.facts) l.next → Fits (hierarchy l.sig) l.facts l.next
