use Rattle.std.proofs.Common.{◌≡◌, drop}
use Rattle.ale_morphism.specs.Walking.{lists_of, send_roots}
use Rattle.ale_morphism.proofs.matching.send_roots.Given as goal

abbrev pub invariant-loop-i : goal.invariant-loop-i
invariant-loop-i l = send_roots (drop l.i l.from) (drop l.i l.to) (lists_of l.walk) ≡ send_roots l.from l.to (lists_of l.fn.walk)
