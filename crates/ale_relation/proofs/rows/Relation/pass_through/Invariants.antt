use Rattle.std.proofs.Common.{◌≡◌, ℕ, ◌<◌}
use Rattle.ale_relation.specs.Rows.{holds}
use Rattle.ale_relation.proofs.Pass.{Passed}
use Rattle.ale_relation.proofs.rows.Relation.pass_through.Given as goal

abbrev pub invariant-loop-row : goal.invariant-loop-row
invariant-loop-row l = record {
  size : l.self.size ≡ l.fn.self.size;
  passed : (x y : ℕ) → x < l.fn.self.size → y < l.fn.self.size → Passed (holds l.fn.self) (holds l.self) l.middle l.row x y;
}
