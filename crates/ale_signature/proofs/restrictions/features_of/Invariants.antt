use Rattle.std.proofs.Common.{◌≡◌}
use Rattle.std.specs.Prelude.{is_some}
use Rattle.std.specs.List.{filter}
use Rattle.ale_declared.specs.Lists.{upto}
use Rattle.ale_hierarchy.specs.Order.{approp}
use Rattle.ale_signature.proofs.restrictions.features_of.Given as goal

abbrev pub invariant-loop-f : goal.invariant-loop-f
invariant-loop-f l = l.features.items ≡ filter (λ f. is_some (approp l.order f l.t)) (upto l.f)
