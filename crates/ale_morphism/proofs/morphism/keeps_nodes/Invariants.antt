use Rattle.std.proofs.Common.{◌≡◌, true}
use Rattle.ale_declared.specs.Lists.{upto, every}
use Rattle.ale_hierarchy.specs.Order.{hierarchy}
use Rattle.ale_morphism.specs.Maps.{image}
use Rattle.ale_morphism.specs.MorphismTest.{keeps_node}
use Rattle.ale_morphism.proofs.morphism.keeps_nodes.Given as goal

abbrev pub invariant-loop-node : goal.invariant-loop-node
invariant-loop-node l = every (keeps_node (hierarchy l.sig) l.f l.g (image l.map l.g)) (upto l.node) ≡ true
