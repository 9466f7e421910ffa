use Rattle.std.proofs.Common.{◌≡◌, ℕ, ◌<◌, ◌⊎◌, length, drop}
use Rattle.ale_relation.specs.Has.{Has}
use Rattle.ale_hierarchy.specs.Stages.{IsTop}
use Rattle.ale_hierarchy.proofs.tops.highest.Given as goal

abbrev pub invariant-loop-t : goal.invariant-loop-t
invariant-loop-t l = record {
  among : Has l.types l.best;
  inside : l.best < length l.order.types;
  top : (u : ℕ) → IsTop l.order l.types u → (u ≡ l.best) ⊎ Has (drop l.t-index l.types) u;
}
