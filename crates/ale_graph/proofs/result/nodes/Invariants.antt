use Rattle.std.proofs.Common.{◌≡◌, map}
use Rattle.ale_graph.specs.Closure.{classes_below}
use Rattle.ale_graph.specs.Drafts.{class_in}
use Rattle.ale_graph.specs.Working.{lists_of}
use Rattle.ale_graph.specs.Results.{node_in}
use Rattle.ale_graph.proofs.result.nodes.Given as goal

abbrev pub invariant-loop-class : goal.invariant-loop-class
invariant-loop-class l = l.nodes.items ≡ map (node_in l.places (lists_of l.draft)) (classes_below (class_in l.draft.class.items) l.class)
