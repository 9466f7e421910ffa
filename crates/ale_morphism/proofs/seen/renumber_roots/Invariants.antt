use Rattle.std.proofs.Common.{◌≡◌, map, take, option_map}
use Rattle.ale_morphism.specs.Reaching.{number_in}
use Rattle.ale_morphism.proofs.seen.renumber_roots.Given as goal

abbrev pub invariant-loop-root : goal.invariant-loop-root
invariant-loop-root l = l.renumbered.items ≡ map (option_map (number_in l.numbers)) (take l.root-index l.roots)
