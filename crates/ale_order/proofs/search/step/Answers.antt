use Rattle.std.proofs.Common.{rules}
use Rattle.ale_order.proofs.Depth.{leave_last, look_next}
use Rattle.ale_order.proofs.search.step.Goals as goal

pub returns-in_ok-push-in-None-clause-in_order : goal.returns-in_ok-push-in-None-clause-in_order
returns-in_ok-push-in-None-clause-in_order c =
    rw c.in_ok-push-in-None.ensures (leave_last c.args.graph.now c.args.seen.now.items c.args.left.now c.args.path.now c.pop.new.self c.in-Some.m c.in-Some.at (search rules) (search rules) c.requires.in_order).in_order

pub returns-in_ok-enter-in-Some-entry_of-clause-in_order :
    goal.returns-in_ok-enter-in-Some-entry_of-clause-in_order
returns-in_ok-enter-in-Some-entry_of-clause-in_order c =
    (look_next c.args.graph.now c.args.seen.now.items c.enter.new.seen.items c.args.left.now c.args.path.now c.pop.new.self c.enter.new.path c.in-Some.m c.in-Some.at c.in-Some-entry_of.k (search rules) (search rules) c.requires.within (search rules) (search rules) c.requires.in_order).in_order

pub returns-in_ok-enter-in-Some-entry_of-clause-fewer :
    goal.returns-in_ok-enter-in-Some-entry_of-clause-fewer
returns-in_ok-enter-in-Some-entry_of-clause-fewer c =
    λ _. (look_next c.args.graph.now c.args.seen.now.items c.enter.new.seen.items c.args.left.now c.args.path.now c.pop.new.self c.enter.new.path c.in-Some.m c.in-Some.at c.in-Some-entry_of.k (search rules) (search rules) c.requires.within (search rules) (search rules) c.requires.in_order).fewer
