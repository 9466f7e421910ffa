use Rattle.std.proofs.Common.{◌≡◌}
use Rattle.ale_morphism.specs.Reaching.{spread}
use Rattle.ale_morphism.proofs.seen.round.Given as goal

abbrev pub invariant-loop-node : goal.invariant-loop-node
invariant-loop-node l = l.flags.items ≡ spread l.g l.before l.node
