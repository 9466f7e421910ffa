use Rattle.std.proofs.Common.{◌≡◌, ℕ, ◌<◌, false}
use Rattle.ale_hierarchy.specs.Faults.{clashes}
use Rattle.ale_signature.proofs.witnesses.clash_of.Given as goal

abbrev pub invariant-loop-f : goal.invariant-loop-f
invariant-loop-f l = (f : ℕ) → f < l.f → clashes l.order l.t f ≡ false
