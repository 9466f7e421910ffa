use Rattle.std.proofs.Common.{◌≡◌}
use Rattle.ale_morphism.specs.Reaching.{built}
use Rattle.ale_morphism.proofs.seen.nodes.Given as goal

abbrev pub invariant-loop-node : goal.invariant-loop-node
invariant-loop-node l = l.nodes.items ≡ built l.g l.flags l.numbers l.node
