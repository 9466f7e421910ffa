use Rattle.std.proofs.Common.{◌≡◌, ◌++◌, drop}
use Rattle.ale_load.proofs.copying.copy_features.Given as goal

abbrev pub invariant-loop-feature : goal.invariant-loop-feature
invariant-loop-feature l = l.copied.items ++ drop l.feature-index l.features ≡ l.features
