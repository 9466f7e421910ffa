use Rattle.std.proofs.Common.{◌≡◌, drop}
use Rattle.ale_print.specs.Steps.{flag_pairs}
use Rattle.ale_print.proofs.tags.flag_pairs.Given as goal

abbrev pub invariant-loop-pair : goal.invariant-loop-pair
invariant-loop-pair l = flag_pairs (drop l.pair-index l.pairs) l.flags.items ≡ flag_pairs l.pairs l.fn.flags.items
