use Rattle.std.proofs.Common.{◌≡◌, drop}
use Rattle.ale_declared.specs.Lists.{every}
use Rattle.ale_hierarchy.specs.Order.{is_above}
use Rattle.ale_hierarchy.proofs.tops.is_above_all.Given as goal

abbrev pub invariant-loop-t : goal.invariant-loop-t
invariant-loop-t l = every (λ u. is_above l.order l.top u) (drop l.t-index l.types) ≡ every (λ u. is_above l.order l.top u) l.types
