use Rattle.std.proofs.Common.{◌<◌, sym, subst}
use Rattle.ale_morph.specs.Stack.{as_step}
use Rattle.ale_morph.specs.Underway.{Tells, steps_left}
use Rattle.ale_morph.proofs.Steps.{step_keeps, step_less}
use Rattle.ale_morph.proofs.search.fit.Goals as goal

pub loop-status-smaller : goal.loop-status-smaller
loop-status-smaller c =
    subst (λ s. steps_left (as_step c.in_ok-status.status c.step.new.self) < steps_left (as_step s c.loop-status.search)) (sym c.in-Goes.is)
    (step_less c.loop-status.search (as_step c.in_ok-status.status c.step.new.self) c.in_ok-status.ensures)

pub loop-status-preserved : goal.loop-status-preserved
loop-status-preserved c =
    step_keeps c.args.side.now c.args.word.now c.loop-status.search (as_step c.in_ok-status.status c.step.new.self) c.in_ok-status.ensures
    (subst (λ s. Tells c.args.side.now c.args.word.now (as_step s c.loop-status.search)) c.in-Goes.is c.loop-status.invariant)
