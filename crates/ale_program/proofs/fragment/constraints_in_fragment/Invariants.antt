use Rattle.std.proofs.Common.{◌↔◌, drop}
use Rattle.ale_program.specs.Fragment.{Each, IsPlainConstraint}
use Rattle.ale_program.proofs.fragment.constraints_in_fragment.Given as goal

abbrev pub invariant-loop-constraint : goal.invariant-loop-constraint
invariant-loop-constraint l = Each IsPlainConstraint (drop l.constraint-index l.constraints) ↔ Each IsPlainConstraint l.constraints
