use Rattle.std.proofs.Common.{◌≡◌, drop, ◌++◌}
use Rattle.std.specs.List.{filter}
use Rattle.ale_hierarchy.specs.Faults.{no_higher, tops}
use Rattle.ale_hierarchy.proofs.witnesses.first_tops.Given as goal

abbrev pub invariant-loop-t : goal.invariant-loop-t
invariant-loop-t l = l.tops.items ++ filter (no_higher l.order l.types) (drop l.t-index l.types) ≡ tops l.order l.types
