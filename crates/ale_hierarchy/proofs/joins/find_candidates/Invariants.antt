use Rattle.std.proofs.Common.{◌≡◌, ◌++◌, drop}
use Rattle.std.specs.List.{filter_map}
use Rattle.ale_hierarchy.specs.Order.{join}
use Rattle.ale_hierarchy.proofs.joins.find_candidates.Given as goal

abbrev pub invariant-loop-t : goal.invariant-loop-t
invariant-loop-t l = l.candidates.items ++ filter_map (λ t. join l.order t l.b) (drop l.t-index l.others) ≡ filter_map (λ t. join l.order t l.b) l.others
