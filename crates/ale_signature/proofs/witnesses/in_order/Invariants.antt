use Rattle.std.proofs.Common.{◌≡◌}
use Rattle.std.specs.List.{filter}
use Rattle.ale_declared.specs.Lists.{upto, is_among}
use Rattle.ale_signature.proofs.witnesses.in_order.Given as goal

abbrev pub invariant-loop-t : goal.invariant-loop-t
invariant-loop-t l = l.ordered.items ≡ filter (λ t. is_among t l.types) (upto l.t)
