use Rattle.ale_term.specs.Goals.{goal_data}
use Rattle.ale_describe.specs.Meanings.{IsMeantGoal, goal_after, goal_meaning}
use Rattle.ale_describe.proofs.Meant.{meant_as, meant_found}
use Rattle.ale_describe.proofs.names.Names.goal.Goals as goal

pub returns-clause-found : goal.returns-clause-found
returns-clause-found c =
    let d = c.args.sig.now in
    let names = c.args.self.now in
    let g = goal_data c.args.goal.now in
    meant_found goal_meaning (IsMeantGoal d names c.args.so_far g) (goal_after d names c.args.so_far g) (c.meaning_law.ensures.goal d names c.args.so_far g) c.goal_meant.result c.goal_meant.ensures

pub returns-clause-only : goal.returns-clause-only
returns-clause-only c =
    let d = c.args.sig.now in
    let names = c.args.self.now in
    let g = goal_data c.args.goal.now in
    λ answer is. meant_as goal_meaning (IsMeantGoal d names c.args.so_far g) (goal_after d names c.args.so_far g) (c.meaning_law.ensures.goal d names c.args.so_far g) c.goal_meant.result c.goal_meant.ensures answer is
