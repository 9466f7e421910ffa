use Rattle.std.proofs.Common.{map}
use Rattle.ale_hierarchy.specs.Order.{hierarchy}
use Rattle.ale_graph.specs.Closure.{class_of}
use Rattle.ale_logic.specs.Visits.{owed_by}
use Rattle.ale_program.specs.Views.{constraint_data}
use Rattle.ale_visit.proofs.Sought.{Sought}
use Rattle.ale_visit.proofs.owing.first_owed.Given as goal

abbrev pub invariant-loop-class : goal.invariant-loop-class
invariant-loop-class l =
    Sought (class_of l.closed) (λ a. owed_by (hierarchy l.program.signature) l.closed l.imposed a 0 (map constraint_data l.program.constraints)) l.class l.node
