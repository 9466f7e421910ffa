use Rattle.std.proofs.Common.{◌∙◌, ap, sym, rules}
use Rattle.std.specs.Prelude.{reverse}
use Rattle.ale_order.proofs.Dependences.{answers_cyclic, answers_order}
use Rattle.ale_order.proofs.order.order_of_dependence.Goals as goal

pub returns-in-Some : goal.returns-in-Some
returns-in-Some c =
    answers_cyclic c.args.calls.now c.in_ok-graph.graph c.args.size c.in_ok-groups.groups.items c.in-Some.m c.in_ok-graph.ensures c.in_ok-groups.ensures c.requires.within (search rules)

pub returns : goal.returns
returns c =
    answers_order c.args.calls.now c.in_ok-graph.graph c.args.size c.in_ok-groups.groups.items c.in_ok-left_in_depth.field-0 c.reverse-2.new.self.items c.in_ok-graph.ensures (c.reverse-2.ensures.items ∙ ap reverse (c.reverse.ensures.items ∙ sym c.into_items-order.ensures)) c.in_ok-left_in_depth.ensures.settled c.in_ok-left_in_depth.ensures.once c.in_ok-left_in_depth.ensures.each c.in_ok-groups.ensures c.requires.within (search rules)
