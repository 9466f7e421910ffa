use Rattle.std.proofs.Common.{ap, ◌∙◌, map}
use Rattle.ale_term.specs.Goals as written
use Rattle.ale_program.specs.Goals.{goal_data, goals_of}
use Rattle.ale_describe.specs.Describing.{goals_described}
use Rattle.ale_describe.proofs.Each.{one_goal_found, goals_done, goals_known_here}
use Rattle.ale_describe.proofs.goals.+describing.Goals as goal

pub goals_described-loop-goal-preserved : goal.goals_described-loop-goal-preserved
goals_described-loop-goal-preserved t c =
    let d = c.args.sig.now in
    let names = c.args.names.now in
    record {
      so_far = one_goal_found d names c.loop-goal.scope c.goal_described.new.scope c.args.goals.now c.loop-goal.goal-index c.goal-item.result c.loop-goal.found.items c.push.new.self.items c.in_ok-described.described
          (goals_described d names c.args.scope.now (written.goals_of (map written.goal_data c.args.goals.now))) c.loop-goal-test.true c.goal-item.is c.loop-goal.invariant.so_far c.in_ok-described.ensures c.in_ok-push.ensures.items;
      known = (goals_known_here d names.vocabulary c.args.goals.now c.loop-goal.goal-index c.goal-item.result c.loop-goal-test.true c.goal-item.is c.loop-goal.invariant.known).1;
    }

pub goals_described-returns : goal.goals_described-returns
goals_described-returns t c =
    ap (λ z. (goals_of (map goal_data z), c.loop-goal.scope)) c.from_vec.ensures
    ∙ goals_done c.args.sig.now c.args.names.now c.loop-goal.scope c.args.goals.now c.loop-goal.goal-index c.loop-goal.found.items
    (goals_described c.args.sig.now c.args.names.now c.args.scope.now (written.goals_of (map written.goal_data c.args.goals.now))) c.loop-goal-test.false c.loop-goal.invariant.so_far
