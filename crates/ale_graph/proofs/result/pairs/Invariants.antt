use Rattle.std.proofs.Common.{◌≡◌, ◌++◌, drop}
use Rattle.ale_graph.specs.Results.{place_in, pairs_of}
use Rattle.ale_graph.proofs.result.pairs.Given as goal

abbrev pub invariant-loop-fact : goal.invariant-loop-fact
invariant-loop-fact l = l.pairs.items ++ pairs_of (place_in l.places l.class) (drop l.fact-index l.facts) ≡ pairs_of (place_in l.places l.class) l.facts
