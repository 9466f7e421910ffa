use Rattle.std.proofs.Common.{◌≡◌, false, ℕ, ◌+◌, ◌<◌, ◌≤◌, length}
use Rattle.std.specs.Prelude.{slice_index_or}
use Rattle.ale_hierarchy.specs.Order.{size}
use Rattle.ale_hierarchy.specs.Limits.{most_nodes}
use Rattle.ale_hierarchy.specs.Stages.{TellsSizes, KnowsTo}
use Rattle.ale_signature.proofs.sizes.size_round.Given as goal

abbrev pub invariant-loop-t : goal.invariant-loop-t
invariant-loop-t l = record {
  same : l.changed ≡ false → l.sizes.items ≡ l.fn.sizes.items;
  len : length l.sizes.items ≡ length l.order.types;
  tells : TellsSizes l.order l.sizes.items;
  more : (k : ℕ) → KnowsTo l.order k l.fn.sizes.items → KnowsTo l.order k l.sizes.items;
  here : (k u : ℕ) → KnowsTo l.order k l.fn.sizes.items → u < l.t → size l.order u ≤ k + 1 → size l.order u ≤ most_nodes → 0 < slice_index_or l.sizes.items u 0;
}
