use Rattle.std.proofs.Common.{◌≡◌, ◌≤◌}
use Rattle.ale_relation.specs.Rows.{holds, count_below}
use Rattle.ale_relation.proofs.rows.Relation.count.Given as goal

abbrev pub invariant-loop-b : goal.invariant-loop-b
invariant-loop-b l = record {
  counted : l.count ≡ count_below (λ b. holds l.self l.a b) l.b;
  fits : l.count ≤ l.b;
}
