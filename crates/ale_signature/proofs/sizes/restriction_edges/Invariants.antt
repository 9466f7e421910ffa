use Rattle.std.proofs.Common.{◌≡◌}
use Rattle.std.specs.List.{flat_map, filter_map}
use Rattle.std.specs.Option.{option_map}
use Rattle.ale_declared.specs.Lists.{upto}
use Rattle.ale_hierarchy.specs.Order.{approp, all_features}
use Rattle.ale_signature.proofs.sizes.restriction_edges.Given as goal

abbrev pub invariant-loop-t : goal.invariant-loop-t
invariant-loop-t l = l.edges.items ≡ flat_map (λ t. filter_map (λ f. option_map (λ r. (t, r)) (approp l.order f t)) (all_features l.order)) (upto l.t)
