use Rattle.std.proofs.Common.{◌≡◌, ℕ, ◌/◌, ◌<◌, false}
use Rattle.ale_relation.specs.Rows.{both_hold}
use Rattle.ale_relation.proofs.rows.Relation.first_common.Given as goal

abbrev pub invariant-loop-place : goal.invariant-loop-place
invariant-loop-place l = (k : ℕ) → k < l.self.size → k / 64 < l.place → both_hold l.self l.a l.b k ≡ false
