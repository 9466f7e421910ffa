use Rattle.std.proofs.Common.{Some, false, length}
use Rattle.ale_hierarchy.specs.Order.{hierarchy}
use Rattle.ale_graph.specs.Types.{types_left}
use Rattle.ale_graph.specs.Drafts.{class_in, type_in}
use Rattle.ale_graph.proofs.RaiseSteps.{IsLifting}
use Rattle.ale_graph.proofs.raise.raise_all.Given as goal

abbrev pub invariant-passes : goal.invariant-passes
invariant-passes l = IsLifting (hierarchy l.sig) l.facts (length l.class) (class_in l.class) (record { types = l.types.items; changed = false })

abbrev pub decreases-passes : goal.decreases-passes
decreases-passes l = types_left (hierarchy l.sig) (length l.class) (Some (type_in l.types.items))
