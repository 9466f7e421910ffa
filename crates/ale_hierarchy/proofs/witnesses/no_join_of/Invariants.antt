use Rattle.std.proofs.Common.{◌≡◌, ℕ, ◌<◌, false}
use Rattle.ale_hierarchy.specs.Faults.{lacks_join}
use Rattle.ale_hierarchy.proofs.witnesses.no_join_of.Given as goal

abbrev pub invariant-loop-b : goal.invariant-loop-b
invariant-loop-b l = (b : ℕ) → b < l.b → lacks_join l.order l.a b ≡ false
