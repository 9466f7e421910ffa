use Rattle.std.proofs.Common.{◌≡◌, ℕ, ◌<◌, false, eqb}
use Rattle.std.specs.Prelude.{slice_index_or}
use Rattle.ale_signature.proofs.sizes.first_unknown.Given as goal

abbrev pub invariant-loop-t : goal.invariant-loop-t
invariant-loop-t l = (u : ℕ) → u < l.t → eqb (slice_index_or l.sizes u 0) 0 ≡ false
