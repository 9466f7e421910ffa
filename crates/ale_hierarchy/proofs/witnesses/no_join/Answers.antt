use Rattle.std.proofs.Common.{◌≡◌, ◌∙◌, sym, ℕ, None, length, arith}
use Rattle.ale_hierarchy.specs.Order.{all_types}
use Rattle.ale_hierarchy.specs.Faults.{when, first_answer, lacks_join, no_join}
use Rattle.ale_hierarchy.proofs.JoinTableLemmas.{below_next}
use Rattle.ale_hierarchy.proofs.WitnessLemmas.{found_first, not_found, found_nowhere, join_fault_is}
use Rattle.ale_hierarchy.proofs.witnesses.no_join.Goals as goal

pub returns-then-is_some : goal.returns-then-is_some
returns-then-is_some c =
    let d = c.args.order.now in
    found_first (λ a. first_answer (λ b. when (lacks_join d a b) (no_join d a b)) (all_types d)) (length d.types) c.loop-a.a c.in_ok-found.found c.in_ok-found.ensures (sym c.is_some.ensures ∙ c.if-is_some.true) (omega arith) c.loop-a.invariant
    ∙ sym (join_fault_is d)

pub loop-a-preserved : goal.loop-a-preserved
loop-a-preserved c =
    let d = c.args.order.now in
    below_next (λ (a : ℕ). first_answer (λ b. when (lacks_join d a b) (no_join d a b)) (all_types d) ≡ None) c.loop-a.a c.loop-a.invariant
    (not_found c.in_ok-found.found (first_answer (λ b. when (lacks_join d c.loop-a.a b) (no_join d c.loop-a.a b)) (all_types d)) c.in_ok-found.ensures (sym c.is_some.ensures ∙ c.if-is_some.false))

pub returns : goal.returns
returns c =
    let d = c.args.order.now in
    found_nowhere (λ a. first_answer (λ b. when (lacks_join d a b) (no_join d a b)) (all_types d)) (length d.types) (λ a h. c.loop-a.invariant a (omega arith)) ∙ sym (join_fault_is d)
