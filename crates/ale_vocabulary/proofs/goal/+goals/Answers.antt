use Rattle.std.proofs.Common.{◌≡◌, Option, subst, IfOk}
use Rattle.ale_vocabulary.specs.declared.error.NameError.{NameError}
use Rattle.ale_vocabulary.specs.First.{first_of}
use Rattle.ale_vocabulary.specs.Knowing.{unknown_in}
use Rattle.ale_vocabulary.proofs.Describing.{each_stops, each_goes}
use Rattle.ale_vocabulary.proofs.Proving.{call_goes, mentions_of_proved, mentions_of_all_proved, goal_parts}
use Rattle.ale_vocabulary.proofs.goal.+goals.Goals as goal

pub first_in_goal-returns-in_default : goal.first_in_goal-returns-in_default
first_in_goal-returns-in_default t c =
    subst (λ (z : Option NameError). IfOk c.first_in_each.result (λ (o : Option NameError). o ≡ z))
    (call_goes (unknown_in c.args.sig.now c.args.vocabulary.now) c.args.goal.now c.in-Call.name c.in-Call.arguments c.as_slice.result.now c.len.result c.in_ok-fault-in-Call.field-0
    c.in-Call.is c.len.ensures c.in_ok-fault-in-Call.ensures c.in_default.is c.as_slice.ensures)
    c.first_in_each.ensures

pub first_in_goals-returns-in-Some : goal.first_in_goals-returns-in-Some
first_in_goals-returns-in-Some t c =
    each_stops (unknown_in c.args.sig.now c.args.vocabulary.now) mentions_of_proved mentions_of_all_proved goal_parts c.args.goals.now c.loop-goal.goal-index c.goal-item.result
    c.in_ok-fault.field-0 (first_of (unknown_in c.args.sig.now c.args.vocabulary.now) (mentions_of_all_proved c.args.goals.now)) c.in-Some.fault
    c.loop-goal-test.true c.goal-item.is c.in_ok-fault.ensures c.in-Some.is c.loop-goal.invariant

pub first_in_goals-loop-goal-preserved : goal.first_in_goals-loop-goal-preserved
first_in_goals-loop-goal-preserved t c =
    each_goes (unknown_in c.args.sig.now c.args.vocabulary.now) mentions_of_proved mentions_of_all_proved goal_parts c.args.goals.now c.loop-goal.goal-index c.goal-item.result
    c.in_ok-fault.field-0 (first_of (unknown_in c.args.sig.now c.args.vocabulary.now) (mentions_of_all_proved c.args.goals.now))
    c.loop-goal-test.true c.goal-item.is c.in_ok-fault.ensures c.in_default.is c.loop-goal.invariant
