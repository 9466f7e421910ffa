use Rattle.std.proofs.Common.{IsTrue}
use Rattle.ale_relation.specs.Paths.{ends_below}
use Rattle.test_logic.proofs.relations.edges_of.Given as goal

abbrev pub invariant-loop-word : goal.invariant-loop-word
invariant-loop-word l = IsTrue (ends_below l.size l.edges.items)
