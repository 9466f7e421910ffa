use Rattle.std.proofs.Common.{ℕ, ◌<◌, ◌++◌, length, drop}
use Rattle.std.specs.Prelude.{IfSome}
use Rattle.ale_signature.proofs.RestrictionLemmas.{IsLeft, listed}
use Rattle.ale_signature.proofs.restrictions.join_all.Given as goal

abbrev pub invariant-loop-t : goal.invariant-loop-t
invariant-loop-t l = record {
  inside : IfSome l.found (λ (j : ℕ). j < length l.order.types);
  left : IsLeft l.order (listed l.found ++ drop l.t-index l.types) l.types;
}
