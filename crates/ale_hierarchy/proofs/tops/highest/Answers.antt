use Rattle.std.proofs.Common.{ℕ, ◌<◌, ◌+◌, length, drop}
use Rattle.ale_relation.specs.Has.{Has}
use Rattle.ale_hierarchy.specs.Order.{is_above}
use Rattle.ale_hierarchy.proofs.LoopLemmas.{drop_item, Has_item, are_below-at, cond_either}
use Rattle.ale_hierarchy.proofs.HighestLemmas.{IsTop_higher}
use Rattle.ale_hierarchy.proofs.tops.highest.Goals as goal

pub loop-t-preserved : goal.loop-t-preserved
loop-t-preserved c =
    let d = c.args.order.now in
    let xs = c.args.types.now in
    let i = c.loop-t.t-index in
    let t = c.t-item.result in
    let best = c.loop-t.best in
    let so_far = c.loop-t.invariant in
    let here : Has xs t = Has_item xs i t c.loop-t-test.true c.t-item.is in
    let cons = drop_item xs i t c.loop-t-test.true c.t-item.is in
    let top = rw cons at so_far.top in
    rw c.higher-best.ensures.value (record {
      among = cond_either (λ (u : ℕ). Has xs u) (is_above d t best) t best here so_far.among;
      inside = cond_either (λ (u : ℕ). u < length d.types) (is_above d t best) t best (are_below-at (length d.types) xs t c.requires here) so_far.inside;
      top = IsTop_higher d xs (drop (i + 1) xs) t best c.higher-best.ensures.ordered here so_far.among top;
    })
