use Rattle.std.proofs.Common.{◌≡◌, ℕ, ◌<◌, ◌↔◌, drop}
use Rattle.ale_relation.specs.Has.{Has}
use Rattle.ale_relation.specs.Rows.{holds}
use Rattle.ale_relation.proofs.Via.{IsIn}
use Rattle.ale_relation.proofs.closure.from_edges.Given as goal

abbrev pub invariant-loop-from : goal.invariant-loop-from
invariant-loop-from l = record {
  size : l.relation.size ≡ l.size;
  so_far : (a b : ℕ) → a < l.size → b < l.size → IsIn (holds l.relation a b) (drop l.from-index l.edges) a b ↔ Has l.edges (a, b);
}
