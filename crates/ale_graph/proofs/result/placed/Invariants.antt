use Rattle.std.proofs.Common.{◌≡◌, take}
use Rattle.ale_graph.specs.Drafts.{mapped}
use Rattle.ale_graph.specs.Results.{place_in}
use Rattle.ale_graph.proofs.result.placed.Given as goal

abbrev pub invariant-loop-value : goal.invariant-loop-value
invariant-loop-value l = l.placed.items ≡ mapped (place_in l.places l.class) (take l.value-index l.values)
