use Rattle.std.proofs.Common.{◌≡◌, ◌++◌}
use Rattle.std.specs.List.{filter_map}
use Rattle.std.specs.Option.{option_map}
use Rattle.ale_declared.specs.Lists.{upto}
use Rattle.ale_hierarchy.specs.Order.{approp}
use Rattle.ale_signature.proofs.sizes.push_edges_of.Given as goal

abbrev pub invariant-loop-f : goal.invariant-loop-f
invariant-loop-f l = l.edges.items ≡ l.initial.edges.items ++ filter_map (λ f. option_map (λ r. (l.t, r)) (approp l.order f l.t)) (upto l.f)
