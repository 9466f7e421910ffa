use Rattle.std.proofs.lemmas.List.Filters.{dedup_is}
use Rattle.ale_print.specs.Pairing.{is_same}
use Rattle.ale_print.proofs.Ordered.{sorted_is}
use Rattle.ale_print.proofs.pairs.in_order.Goals as goal

pub returns : goal.returns
returns c =
    sorted_is c.args.pairs.now c.in_ok-ordered.ordered.items c.sort_unstable.new.self.items c.dedup.new.self.items
    c.in_ok-ordered.ensures c.sort_unstable.ensures.permutation c.sort_unstable.ensures.sorted
    (dedup_is is_same c.sort_unstable.new.self.items c.dedup.new.self.items c.dedup.ensures.filtered)
