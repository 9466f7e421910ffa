use Rattle.std.proofs.Common.{◌≡◌, drop}
use Rattle.ale_graph.specs.Closure.{class_of}
use Rattle.ale_logic.specs.Visits.{is_imposed}
use Rattle.ale_visit.proofs.owing.is_imposed.Given as goal

abbrev pub invariant-loop-pair : goal.invariant-loop-pair
invariant-loop-pair l =
    is_imposed (class_of l.closed) (drop l.pair-index l.imposed) l.class l.number ≡ is_imposed (class_of l.closed) l.imposed l.class l.number
