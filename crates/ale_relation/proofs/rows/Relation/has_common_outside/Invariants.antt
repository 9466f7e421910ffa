use Rattle.std.proofs.Common.{◌≡◌, ℕ, ◌/◌, ◌<◌, false}
use Rattle.ale_relation.specs.Rows.{both_but}
use Rattle.ale_relation.proofs.rows.Relation.has_common_outside.Given as goal

abbrev pub invariant-loop-place : goal.invariant-loop-place
invariant-loop-place l = (k : ℕ) → k < l.self.size → k / 64 < l.place → both_but l.self l.a l.b l.c k ≡ false
