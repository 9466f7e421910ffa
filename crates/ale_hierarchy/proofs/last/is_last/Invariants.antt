use Rattle.std.proofs.Common.{◌≡◌, ℕ, ◌<◌, false, eqb}
use Rattle.std.specs.Prelude.{◌&&◌, not}
use Rattle.ale_hierarchy.specs.Order.{is_above}
use Rattle.ale_hierarchy.proofs.last.is_last.Given as goal

abbrev pub invariant-loop-u : goal.invariant-loop-u
invariant-loop-u l = (u : ℕ) → u < l.u → (not (eqb l.t u) && is_above l.order l.t u) ≡ false
