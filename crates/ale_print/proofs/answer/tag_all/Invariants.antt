use Rattle.std.proofs.Common.{◌≡◌, ◌++◌, drop, map, get_or}
use Rattle.ale_print.proofs.answer.tag_all.Given as goal

abbrev pub invariant-loop-pair : goal.invariant-loop-pair
invariant-loop-pair l =
    l.tagged.items ++ map (λ p. (get_or l.tags p.0 0, get_or l.tags p.1 0)) (drop l.pair-index l.pairs)
    ≡ map (λ p. (get_or l.tags p.0 0, get_or l.tags p.1 0)) l.pairs
