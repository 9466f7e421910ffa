use Rattle.std.proofs.Common.{◌<◌, sym, ◌∙◌, rules}
use Rattle.ale_declared.specs.Lists.{upto}
use Rattle.ale_hierarchy.specs.Order.{hierarchy}
use Rattle.ale_graph.specs.Structures.{count}
use Rattle.ale_morphism.specs.Maps.{image}
use Rattle.ale_morphism.specs.MorphismTest.{keeps_node}
use Rattle.ale_graph.proofs.Lists.{has_upto}
use Rattle.ale_morphism.proofs.MorphismSteps.{every_false}
use Rattle.ale_morphism.proofs.morphism.keeps_nodes.Goals as goal

pub returns-then-not-keeps_node : goal.returns-then-not-keeps_node
returns-then-not-keeps_node c =
    let lt : c.loop-node.node < count c.args.f.now = search rules in
    sym (every_false (keeps_node (hierarchy c.args.sig.now) c.args.f.now c.args.g.now (image c.args.map.now c.args.g.now)) (upto (count c.args.f.now)) c.loop-node.node (has_upto (count c.args.f.now) c.loop-node.node lt) (sym c.keeps_node.ensures ∙ c.if-not-keeps_node.true))
