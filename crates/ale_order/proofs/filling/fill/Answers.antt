use Rattle.std.proofs.Common.{◌+◌, drop, get_or, rules}
use Rattle.std.proofs.lemmas.List.{drop_more, drop_all}
use Rattle.ale_order.proofs.Fillings.{fill_step, filled_all}
use Rattle.ale_order.proofs.filling.fill.Goals as goal

pub loop-m-preserved : goal.loop-m-preserved
loop-m-preserved g c =
    let order = c.args.order.now in
    let i = c.loop-m.m-index in
    fill_step (g.E.Entries.calls c.args.entries.now) (g.E.Entries.is_right c.args.entries.now) c.args.size c.loop-m.table.items c.set_entry.new.table.items (get_or order i 0) (drop i order) (drop (i + 1) order) c.in_ok-entry.entry (g.met.E.Entries.rests c.args.entries.now) (drop_more order i 0 c.loop-m-test.true) (search rules) (search rules) c.loop-m.invariant

pub returns-clause-right : goal.returns-clause-right
returns-clause-right g c =
    let order = c.args.order.now in
    let i = c.loop-m.m-index in
    filled_all (g.E.Entries.calls c.args.entries.now) (g.E.Entries.is_right c.args.entries.now) c.args.size c.loop-m.table.items (drop i order) (search (rules, drop_all)) c.loop-m.invariant
