use Rattle.std.proofs.Common.{◌≡◌}
use Rattle.ale_hierarchy.specs.Order.{features}
use Rattle.ale_hierarchy.specs.Stages.{tabulated}
use Rattle.ale_signature.proofs.restrictions.feature_lists.Given as goal

abbrev pub invariant-loop-t : goal.invariant-loop-t
invariant-loop-t l = l.lists.items ≡ tabulated (features l.order) l.t
