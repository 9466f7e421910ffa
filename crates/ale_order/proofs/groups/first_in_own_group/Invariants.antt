use Rattle.std.proofs.Common.{ℕ, ◌<◌}
use Rattle.ale_order.specs.Groups.{CallsOwn}
use Rattle.ale_order.proofs.groups.first_in_own_group.Given as goal

abbrev pub invariant-loop-m : goal.invariant-loop-m
invariant-loop-m l = (k : ℕ) → k < l.m → CallsOwn l.graph l.groups k → ⊥
