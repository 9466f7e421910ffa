use Rattle.std.proofs.Common.{◌∙◌, ap}
use Rattle.ale_declaration.specs.Distinct.{is_bound_by}
use Rattle.ale_declaration.proofs.Distinct.{bound_by}
use Rattle.ale_declaration.proofs.lines.is_bound.Goals as goal

pub returns : goal.returns
returns c =
    c.are_told.ensures ∙ ap (λ slots. is_bound_by slots c.args.right.now) c.in_ok-slots.ensures ∙ bound_by c.args.left.now c.args.right.now
