use Rattle.std.proofs.Common.{◌≡◌, drop}
use Rattle.ale_declared.specs.Lists.{is_among}
use Rattle.ale_signature.proofs.witnesses.has_type.Given as goal

abbrev pub invariant-loop-u : goal.invariant-loop-u
invariant-loop-u l = is_among l.t (drop l.u-index l.types) ≡ is_among l.t l.types
