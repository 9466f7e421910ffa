use Rattle.std.proofs.Common.{◌≡◌, ◌≤◌, map}
use Rattle.ale_declared.specs.Lists.{upto}
use Rattle.ale_morphism.specs.Visible.{renumbered}
use Rattle.ale_morphism.proofs.seen.numbers.Given as goal

abbrev pub invariant-loop-node : goal.invariant-loop-node
invariant-loop-node l = record {
  items : l.numbers.items ≡ map (renumbered l.g) (upto l.node);
  number : l.before ≡ renumbered l.g l.node;
  low : l.before ≤ l.node;
}
