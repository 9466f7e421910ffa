use Rattle.std.proofs.Common.{◌≡◌, ◌≤◌}
use Rattle.ale_relation.specs.Rows.{count_below}
use Rattle.ale_hierarchy.specs.Order.{is_above}
use Rattle.ale_hierarchy.proofs.order.Order.rank.Given as goal

abbrev pub invariant-loop-u : goal.invariant-loop-u
invariant-loop-u l = record {
  counted : l.count ≡ count_below (λ u. is_above l.self l.t u) l.u;
  fits : l.count ≤ l.u;
}
