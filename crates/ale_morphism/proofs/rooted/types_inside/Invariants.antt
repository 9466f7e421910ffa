use Rattle.std.proofs.Common.{ℕ, ◌<◌}
use Rattle.ale_hierarchy.specs.Order.{hierarchy}
use Rattle.ale_graph.specs.Structures.{type_of}
use Rattle.ale_morphism.proofs.rooted.types_inside.Given as goal

abbrev pub invariant-loop-node : goal.invariant-loop-node
invariant-loop-node l = (n : ℕ) → n < l.node → type_of l.g n < (hierarchy l.sig).types
