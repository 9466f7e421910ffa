use Rattle.ale_declared.specs.Lists.{is_among}
use Rattle.std.proofs.Common.{length}
use Rattle.ale_hierarchy.proofs.WitnessLemmas.{filtered-below}
use Rattle.ale_signature.proofs.witnesses.two_intros.Goals as goal

pub first_tops-requires : goal.first_tops-requires
first_tops-requires c =
    rw (c.as_slice.ensures.value, c.in_ok-ordered.ensures) (filtered-below (λ t. is_among t c.args.types.now) (length c.args.order.now.types))
