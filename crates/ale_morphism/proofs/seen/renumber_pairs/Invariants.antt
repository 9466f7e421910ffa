use Rattle.std.proofs.Common.{◌≡◌, map, take}
use Rattle.ale_morphism.specs.Reaching.{number_in}
use Rattle.ale_morphism.proofs.seen.renumber_pairs.Given as goal

abbrev pub invariant-loop-pair : goal.invariant-loop-pair
invariant-loop-pair l = l.renumbered.items ≡ map (λ p. (number_in l.numbers p.0, number_in l.numbers p.1)) (take l.pair-index l.pairs)
