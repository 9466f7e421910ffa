use Rattle.std.proofs.Common.{◌≡◌, ℕ, ◌<◌, None}
use Rattle.ale_hierarchy.specs.Order.{all_types}
use Rattle.ale_hierarchy.specs.Faults.{when, first_answer, lacks_join, no_join}
use Rattle.ale_hierarchy.proofs.witnesses.no_join.Given as goal

abbrev pub invariant-loop-a : goal.invariant-loop-a
invariant-loop-a l = (a : ℕ) → a < l.a → first_answer (λ b. when (lacks_join l.order a b) (no_join l.order a b)) (all_types l.order) ≡ None
