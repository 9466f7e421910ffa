use Rattle.std.proofs.Common.{[], ◌∷◌, length}
use Rattle.ale_hierarchy.specs.Order.{is_common}
use Rattle.ale_hierarchy.proofs.WitnessLemmas.{filtered-below}
use Rattle.ale_hierarchy.proofs.witnesses.no_join_at.Goals as goal

pub first_tops-requires : goal.first_tops-requires
first_tops-requires c =
    rw (c.as_slice.ensures.value, c.in_ok-common.ensures) (filtered-below (is_common c.args.order.now (c.args.a ∷ c.args.b ∷ [])) (length c.args.order.now.types))
