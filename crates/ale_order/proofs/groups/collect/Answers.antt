use Rattle.std.proofs.Common.{rules, ◌∙◌, length}
use Rattle.std.proofs.lemmas.List.{length-set}
use Rattle.ale_order.proofs.Grouping.{begin_group, collect_step, end_group, collect_wide, fewer_left}
use Rattle.ale_order.proofs.groups.collect.Goals as goal

pub loop-callee-init : goal.loop-callee-init
loop-callee-init c = record {
  wide = search (rules, length-set);
  collecting = λ to_come groups. begin_group c.args.graph.now (length c.args.groups.now.items) c.args.r to_come c.args.groups.now.items c.set_root.new.groups.items c.push.new.self c.requires.root_in (search rules) (search rules) (search rules) groups;
}

pub loop-callee-smaller : goal.loop-callee-smaller
loop-callee-smaller c =
    fewer_left c.args.graph.now c.args.r c.loop-callee.groups.items c.add_callers.new.groups.items c.loop-callee.waiting c.pop.new.self c.add_callers.new.waiting c.in-Some.callee (search rules) (search rules) (search rules)

pub loop-callee-preserved : goal.loop-callee-preserved
loop-callee-preserved c = record {
  wide = collect_wide c.args.r c.callers.result.now c.loop-callee.groups.items c.add_callers.new.groups.items c.pop.new.self c.add_callers.new.waiting (search rules) ∙ c.loop-callee.invariant.wide;
  collecting = λ to_come groups. collect_step c.args.graph.now (length c.args.groups.now.items) c.args.r to_come c.args.groups.now.items c.loop-callee.groups.items c.add_callers.new.groups.items c.loop-callee.waiting c.pop.new.self c.add_callers.new.waiting c.in-Some.callee (search rules) (search rules) c.requires.within groups (c.loop-callee.invariant.collecting to_come groups);
}

pub returns-clause-collects : goal.returns-clause-collects
returns-clause-collects c =
    end_group c.args.graph.now (length c.args.groups.now.items) c.args.r c.args.groups.now.items c.loop-callee.groups.items c.loop-callee.waiting (search rules) c.loop-callee.invariant.collecting
