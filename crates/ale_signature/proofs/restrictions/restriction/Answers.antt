use Rattle.ale_signature.proofs.RestrictionLemmas.{restricted-below}
use Rattle.ale_signature.proofs.restrictions.restriction.Goals as goal

pub join_all-requires-clause-types : goal.join_all-requires-clause-types
join_all-requires-clause-types c =
    rw (c.as_slice.ensures.value, c.in_ok-find_restrictions.ensures) (restricted-below c.args.order.now c.args.t c.args.mentions.now c.requires.mentions)
