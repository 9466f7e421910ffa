use Rattle.std.proofs.Common.{◌↔◌, drop}
use Rattle.ale_program.specs.Fragment.{Each, IsPlainClause}
use Rattle.ale_program.proofs.fragment.clauses_in_fragment.Given as goal

abbrev pub invariant-loop-clause : goal.invariant-loop-clause
invariant-loop-clause l = Each IsPlainClause (drop l.clause-index l.clauses) ↔ Each IsPlainClause l.clauses
