use Rattle.std.proofs.Common.{◌∙◌}
use Rattle.ale_describe.proofs.Adding.{goals_sum, goals_step, goals_end}
use Rattle.ale_describe.proofs.Each.{goals_known_here}
use Rattle.ale_describe.proofs.sums.+summing.Goals as goal

pub goals_parts-loop-goal-preserved : goal.goals_parts-loop-goal-preserved
goals_parts-loop-goal-preserved t c =
    let d = c.args.sig.now in
    let names = c.args.names.now in
    record {
      so_far = goals_step d names c.loop-goal.sum c.args.goals.now c.loop-goal.goal-index c.goal-item.result c.in_ok-sum.sum
          (goals_sum d names c.args.before c.args.goals.now) c.loop-goal-test.true c.goal-item.is c.loop-goal.invariant.so_far c.in_ok-sum.ensures;
      known = (goals_known_here d names.vocabulary c.args.goals.now c.loop-goal.goal-index c.goal-item.result c.loop-goal-test.true c.goal-item.is c.loop-goal.invariant.known).1;
    }

pub goals_parts-returns : goal.goals_parts-returns
goals_parts-returns t c =
    c.limited.ensures
    ∙ goals_end c.args.sig.now c.args.names.now c.loop-goal.sum c.args.goals.now c.loop-goal.goal-index (goals_sum c.args.sig.now c.args.names.now c.args.before c.args.goals.now)
    c.loop-goal-test.false c.loop-goal.invariant.so_far
