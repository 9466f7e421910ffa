use Rattle.std.proofs.Common.{min, ◌+◌, ◌*◌, ap, ◌∙◌}
use Rattle.ale_form.proofs.Numbers.{digit_held}
use Rattle.ale_form.proofs.number.behind_digit.Goals as goal

pub returns : goal.returns
returns c =
    c.saturating_add.ensures
    ∙ ap (λ m. min (m + c.saturating_sub.result) 4294967295) c.saturating_mul.ensures
    ∙ ap (λ m. min (min (c.args.number * 10) 4294967295 + m) 4294967295) c.saturating_sub.ensures
    ∙ digit_held c.args.number c.args.digit
