use Rattle.std.proofs.Common.{◌≡◌, ℕ, ◌<◌, None}
use Rattle.ale_hierarchy.specs.Order.{all_features}
use Rattle.ale_hierarchy.specs.Faults.{when, first_answer, clashes}
use Rattle.ale_hierarchy.specs.declared.fault.Fault.TheVariants.{ValueClash}
use Rattle.ale_signature.proofs.witnesses.value_clash.Given as goal

abbrev pub invariant-loop-t : goal.invariant-loop-t
invariant-loop-t l = (t : ℕ) → t < l.t → first_answer (λ f. when (clashes l.order t f) (ValueClash t f)) (all_features l.order) ≡ None
