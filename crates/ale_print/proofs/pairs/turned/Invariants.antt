use Rattle.std.proofs.Common.{◌≡◌, ◌++◌, drop, map}
use Rattle.ale_print.specs.Pairing.{lower_first}
use Rattle.ale_print.proofs.pairs.turned.Given as goal

abbrev pub invariant-loop-pair : goal.invariant-loop-pair
invariant-loop-pair l = l.turned.items ++ map lower_first (drop l.pair-index l.pairs) ≡ map lower_first l.pairs
