-- The answers that can be printed.
use Rattle.std.specs.Prelude.{◌<◌}
use Rattle.ale_hierarchy.specs.Hierarchy.{Hierarchy}
use Rattle.ale_graph.specs.Structures.{IsStructure, count}
use Rattle.ale_graph.specs.Closure.{node_of}
use Rattle.ale_logic.specs.declared.answer.Answer.{Answer}
use Rattle.ale_report.specs.Parts.{rooted}

-- its graph is a total, extensional structure, one of whose nodes is that of the description
pub record IsPrinted (h : Hierarchy) (c : Answer) : Type 0 where
  pub structure : IsStructure h (rooted c.closed)
  pub root : node_of c.closed 0 < count c.closed.graph
