use Rattle.std.proofs.Common.{◌≡◌, [], ◌∷◌}
use Rattle.std.specs.List.{filter}
use Rattle.ale_declared.specs.Lists.{upto}
use Rattle.ale_hierarchy.specs.Order.{is_common}
use Rattle.ale_hierarchy.proofs.witnesses.common_subtypes.Given as goal

abbrev pub invariant-loop-c : goal.invariant-loop-c
invariant-loop-c l = l.common.items ≡ filter (is_common l.order (l.a ∷ l.b ∷ [])) (upto l.c)
