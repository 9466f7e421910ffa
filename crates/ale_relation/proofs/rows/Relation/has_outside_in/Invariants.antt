use Rattle.std.proofs.Common.{◌*◌}
use Rattle.ale_relation.specs.Rows.{both_but, HasNone}
use Rattle.ale_relation.proofs.rows.Relation.has_outside_in.Given as goal

abbrev pub invariant-loop-k : goal.invariant-loop-k
invariant-loop-k l = HasNone (both_but l.self l.a l.b l.c) (l.place * 64) l.k
