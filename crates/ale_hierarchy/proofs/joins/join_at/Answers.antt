use Rattle.std.proofs.Common.{sym, ◌∙◌, length}
use Rattle.ale_hierarchy.specs.Order.{join}
use Rattle.ale_hierarchy.specs.Stages.{join_row}
use Rattle.ale_hierarchy.proofs.JoinLemmas.{join_to}
use Rattle.ale_hierarchy.proofs.LoopLemmas.{IfSome-from}
use Rattle.ale_hierarchy.proofs.TabulatedLemmas.{length-tabulated, length-row, entry-tabulated}
use Rattle.ale_hierarchy.proofs.joins.join_at.Goals as goal

pub entry-requires-clause-row : goal.entry-requires-clause-row
entry-requires-clause-row c =
    rw (c.requires.joins, length-tabulated (join_row c.args.order.now) (length c.args.order.now.types)) c.requires.a

pub entry-requires-clause-column : goal.entry-requires-clause-column
entry-requires-clause-column c =
    let n = length c.args.order.now.types in
    rw (length-row c.args.joins.now (join c.args.order.now) n n c.args.a c.requires.joins c.requires.a) c.requires.b

pub returns-clause-value : goal.returns-clause-value
returns-clause-value c =
    let n = length c.args.order.now.types in
    c.entry.ensures ∙ entry-tabulated c.args.joins.now (join c.args.order.now) n n c.args.a c.args.b c.requires.joins c.requires.a c.requires.b

pub returns-clause-inside : goal.returns-clause-inside
returns-clause-inside c =
    IfSome-from c.entry.result (λ j h. (join_to c.args.order.now c.args.a c.args.b j c.type_count.ensures.ordered.numbered (sym (returns-clause-value c) ∙ h)).0)
