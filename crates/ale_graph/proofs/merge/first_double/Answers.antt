use Rattle.std.proofs.Common.{◌≤◌, ◌<◌, sym, length, rules}
use Rattle.ale_hierarchy.specs.Order.{hierarchy}
use Rattle.ale_graph.specs.Working.{lists_of}
use Rattle.ale_graph.proofs.MergeSteps.{rows_some, rows_none}
use Rattle.ale_graph.proofs.merge.first_double.Goals as goal

pub returns-in-Some : goal.returns-in-Some
returns-in-Some c =
    let below : c.loop-a.a < length c.args.draft.now.class.items = search rules in
    sym (rows_some (hierarchy c.args.sig.now) (lists_of c.args.draft.now) c.requires c.loop-a.a (c.loop-a.a, c.in-Some.b) below c.loop-a.invariant (sym c.in-Some.ensures))

pub returns : goal.returns
returns c =
    let le : length c.args.draft.now.class.items ≤ c.loop-a.a = search rules in
    sym (rows_none (hierarchy c.args.sig.now) (lists_of c.args.draft.now) c.requires c.loop-a.a le c.loop-a.invariant)
