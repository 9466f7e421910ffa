use Rattle.std.proofs.Common.{◌≡◌, ◌++◌, drop}
use Rattle.ale_describe.proofs.grammar.with_parameters.Given as goal

abbrev pub invariant-loop-parameter : goal.invariant-loop-parameter
invariant-loop-parameter l = record {
  so_far : l.slots ++ drop l.parameter-index l.parameters ≡ l.parameters;
}
