use Rattle.std.proofs.Common.{◌*◌}
use Rattle.ale_relation.proofs.Bits.{zeros_hold}
use Rattle.ale_relation.proofs.rows.Relation.new.Goals as goal

pub returns-clause-empty : goal.returns-clause-empty
returns-clause-empty c =
    rw (c.in_ok-words.ensures.items_if_clones_equal (λ y same. same)) (λ a b p q. zeros_hold c.args.size (c.args.size * c.div_ceil-width.result) a b)
