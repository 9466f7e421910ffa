use Rattle.std.proofs.Common.{◌≡◌, take}
use Rattle.ale_graph.specs.Drafts.{mapped}
use Rattle.ale_morphism.specs.Reaching.{number_in}
use Rattle.ale_morphism.proofs.seen.renumber_values.Given as goal

abbrev pub invariant-loop-value : goal.invariant-loop-value
invariant-loop-value l = l.renumbered.items ≡ mapped (number_in l.numbers) (take l.value-index l.values)
