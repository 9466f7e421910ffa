use Rattle.std.proofs.Common.{◌≡◌, ℕ, ◌<◌}
use Rattle.ale_hierarchy.specs.Order.{join}
use Rattle.ale_hierarchy.specs.Stages.{tabulated, HasLeast}
use Rattle.ale_hierarchy.proofs.joins.join_row.Given as goal

abbrev pub invariant-loop-b : goal.invariant-loop-b
invariant-loop-b l = record {
  row : l.row.items ≡ tabulated (join l.order l.a) l.b;
  least : (k : ℕ) → k < l.b → HasLeast l.order l.a k;
}
