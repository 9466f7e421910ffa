use Rattle.std.proofs.Common.{◌≡◌, length}
use Rattle.ale_hierarchy.specs.Stages.{TellsSizes, KnowsTo}
use Rattle.ale_signature.proofs.sizes.find_sizes.Given as goal

abbrev pub invariant-loop-round : goal.invariant-loop-round
invariant-loop-round l = record {
  len : length l.sizes.items ≡ length l.order.types;
  tells : TellsSizes l.order l.sizes.items;
  knows : KnowsTo l.order l.round l.sizes.items;
}
