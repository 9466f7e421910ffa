use Rattle.std.proofs.Common.{◌*◌}
use Rattle.ale_relation.specs.Rows.{both_hold, HasNone}
use Rattle.ale_relation.proofs.rows.Relation.first_common_in.Given as goal

abbrev pub invariant-loop-k : goal.invariant-loop-k
invariant-loop-k l = HasNone (both_hold l.self l.a l.b) (l.place * 64) l.k
