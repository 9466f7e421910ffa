use Rattle.std.proofs.Common.{◌≡◌, drop, map}
use Rattle.ale_hierarchy.specs.Order.{hierarchy}
use Rattle.ale_logic.specs.Visits.{owed_by}
use Rattle.ale_program.specs.Views.{constraint_data}
use Rattle.ale_visit.specs.Owing.{HaveTypes}
use Rattle.ale_visit.proofs.owing.owed_by.Given as goal

abbrev pub invariant-loop-number : goal.invariant-loop-number
invariant-loop-number l =
    HaveTypes (hierarchy l.sig) (drop l.number l.constraints)
    × (owed_by (hierarchy l.sig) l.closed l.imposed l.class l.number (map constraint_data (drop l.number l.constraints)) ≡ owed_by (hierarchy l.sig) l.closed l.imposed l.class 0 (map constraint_data l.constraints))
