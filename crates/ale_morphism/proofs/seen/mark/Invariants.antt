use Rattle.std.proofs.Common.{◌≡◌, drop}
use Rattle.ale_morphism.specs.Reaching.{marked}
use Rattle.ale_morphism.proofs.seen.mark.Given as goal

abbrev pub invariant-loop-value : goal.invariant-loop-value
invariant-loop-value l = marked (drop l.value-index l.values) l.flags.items ≡ marked l.values l.fn.flags.items
