use Rattle.std.proofs.Common.{◌≡◌, map}
use Rattle.ale_declared.specs.Lists.{upto}
use Rattle.ale_morphism.specs.Visible.{is_start}
use Rattle.ale_morphism.proofs.seen.starts.Given as goal

abbrev pub invariant-loop-node : goal.invariant-loop-node
invariant-loop-node l = l.flags.items ≡ map (is_start l.g) (upto l.node)
