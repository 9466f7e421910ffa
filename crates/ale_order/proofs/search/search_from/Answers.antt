use Rattle.std.proofs.Common.{rules}
use Rattle.ale_order.proofs.Depth.{start_step, seen_kept, seen_now}
use Rattle.ale_order.proofs.search.search_from.Goals as goal

pub loop-path-init : goal.loop-path-init
loop-path-init c = record {
  wide = search rules;
  in_order = start_step c.args.graph.now c.args.seen.now.items c.enter.new.seen.items c.args.left.now c.enter.new.path c.args.start c.requires.start_in (search rules) (search rules) c.requires.in_order;
  start = seen_now c.args.seen.now.items c.enter.new.seen.items c.args.start c.requires.start_in (search rules);
  kept = seen_kept c.args.seen.now.items c.enter.new.seen.items c.args.start c.requires.start_in (search rules);
}
