use Rattle.std.proofs.Common.{◌≡◌, drop}
use Rattle.ale_hierarchy.specs.Faults.{no_higher}
use Rattle.ale_hierarchy.proofs.witnesses.is_top.Given as goal

abbrev pub invariant-loop-u : goal.invariant-loop-u
invariant-loop-u l = no_higher l.order (drop l.u-index l.types) l.t ≡ no_higher l.order l.types l.t
