use Rattle.std.proofs.Common.{◌≡◌, false, drop}
use Rattle.ale_graph.specs.Joining.{join_facts}
use Rattle.ale_graph.proofs.join.join_facts.Given as goal

abbrev pub invariant-loop-fact : goal.invariant-loop-fact
invariant-loop-fact l =
    join_facts (drop l.fact-index l.facts) (record { class = l.class.items; values = l.values.items; changed = l.changed })
    ≡ join_facts l.facts (record { class = l.fn.class.items; values = l.fn.values.items; changed = false })
