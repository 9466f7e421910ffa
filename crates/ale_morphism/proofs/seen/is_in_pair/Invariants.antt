use Rattle.std.proofs.Common.{◌≡◌, ◌||◌, eqb, drop}
use Rattle.ale_morphism.specs.Visible.{some}
use Rattle.ale_morphism.proofs.seen.is_in_pair.Given as goal

abbrev pub invariant-loop-pair : goal.invariant-loop-pair
invariant-loop-pair l =
    some (λ p. eqb l.node p.0 || eqb l.node p.1) (drop l.pair-index l.pairs) ≡ some (λ p. eqb l.node p.0 || eqb l.node p.1) l.pairs
