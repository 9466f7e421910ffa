use Rattle.std.proofs.Common.{sym, ◌∙◌, length}
use Rattle.ale_hierarchy.specs.Order.{approp}
use Rattle.ale_hierarchy.specs.Stages.{restriction_row}
use Rattle.ale_hierarchy.proofs.AppropLemmas.{approp_to, IsRestriction_inside}
use Rattle.ale_hierarchy.proofs.LoopLemmas.{IfSome-from}
use Rattle.ale_hierarchy.proofs.TabulatedLemmas.{length-tabulated, length-row, entry-tabulated}
use Rattle.ale_signature.proofs.restrictions.restriction_at.Goals as goal

pub entry-requires-clause-row : goal.entry-requires-clause-row
entry-requires-clause-row c =
    rw (c.requires.restrictions, length-tabulated (restriction_row c.args.order.now) (length c.args.order.now.features)) c.requires.f

pub entry-requires-clause-column : goal.entry-requires-clause-column
entry-requires-clause-column c =
    let n = length c.args.order.now.types in
    rw (length-row c.args.restrictions.now (approp c.args.order.now) (length c.args.order.now.features) n c.args.f c.requires.restrictions c.requires.f) c.requires.t

pub returns-clause-value : goal.returns-clause-value
returns-clause-value c =
    let n = length c.args.order.now.types in
    c.entry.ensures ∙ entry-tabulated c.args.restrictions.now (approp c.args.order.now) (length c.args.order.now.features) n c.args.f c.args.t c.requires.restrictions c.requires.f c.requires.t

pub returns-clause-inside : goal.returns-clause-inside
returns-clause-inside c =
    let w = c.type_count.ensures.ordered.numbered in
    IfSome-from c.entry.result (λ r h. (IsRestriction_inside c.args.order.now c.args.f c.args.t r w (approp_to c.args.order.now c.args.f c.args.t r w (sym (returns-clause-value c) ∙ h))).2)
