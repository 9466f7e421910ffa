use Rattle.std.proofs.Common.{◌≡◌, drop}
use Rattle.ale_morphism.specs.Walking.{lists_of, send_values}
use Rattle.ale_morphism.proofs.matching.send_values.Given as goal

abbrev pub invariant-loop-value : goal.invariant-loop-value
invariant-loop-value l = send_values l.g l.to (drop l.value-index l.values) (lists_of l.walk) ≡ send_values l.g l.to l.values (lists_of l.fn.walk)
