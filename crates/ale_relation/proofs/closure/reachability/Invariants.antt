use Rattle.std.proofs.Common.{◌≡◌, ℕ, ◌<◌, ◌↔◌, IsTrue}
use Rattle.ale_relation.specs.Rows.{holds}
use Rattle.ale_relation.proofs.Via.{Via}
use Rattle.ale_relation.proofs.closure.reachability.Given as goal

abbrev pub invariant-loop-middle : goal.invariant-loop-middle
invariant-loop-middle l = record {
  size : l.relation.size ≡ l.size;
  via : (a b : ℕ) → a < l.size → b < l.size → IsTrue (holds l.relation a b) ↔ Via l.edges l.middle a b;
}
