use Rattle.std.proofs.Common.{◌≡◌, ◌∙◌, sym, ℕ, None, length, arith}
use Rattle.ale_hierarchy.specs.Order.{all_features}
use Rattle.ale_hierarchy.specs.Faults.{when, first_answer, clashes}
use Rattle.ale_hierarchy.specs.declared.fault.Fault.TheVariants.{ValueClash}
use Rattle.ale_hierarchy.proofs.JoinTableLemmas.{below_next}
use Rattle.ale_hierarchy.proofs.WitnessLemmas.{found_first, not_found, found_nowhere}
use Rattle.ale_signature.proofs.ClashLemmas.{clash_fault_is}
use Rattle.ale_signature.proofs.witnesses.value_clash.Goals as goal

pub returns-then-is_some : goal.returns-then-is_some
returns-then-is_some c =
    let d = c.args.order.now in
    found_first (λ t. first_answer (λ f. when (clashes d t f) (ValueClash t f)) (all_features d)) (length d.types) c.loop-t.t c.in_ok-found.found c.in_ok-found.ensures (sym c.is_some.ensures ∙ c.if-is_some.true) (omega arith) c.loop-t.invariant
    ∙ sym (clash_fault_is d)

pub loop-t-preserved : goal.loop-t-preserved
loop-t-preserved c =
    let d = c.args.order.now in
    below_next (λ (t : ℕ). first_answer (λ f. when (clashes d t f) (ValueClash t f)) (all_features d) ≡ None) c.loop-t.t c.loop-t.invariant
    (not_found c.in_ok-found.found (first_answer (λ f. when (clashes d c.loop-t.t f) (ValueClash c.loop-t.t f)) (all_features d)) c.in_ok-found.ensures (sym c.is_some.ensures ∙ c.if-is_some.false))

pub returns : goal.returns
returns c =
    let d = c.args.order.now in
    found_nowhere (λ t. first_answer (λ f. when (clashes d t f) (ValueClash t f)) (all_features d)) (length d.types) (λ t h. c.loop-t.invariant t (omega arith)) ∙ sym (clash_fault_is d)
