use Rattle.std.proofs.Common.{refl, sym, ◌∙◌}
use Rattle.ale_form.proofs.Deepest.{is_too_deep}
use Rattle.ale_form.proofs.admission.check.Goals as goal

pub returns-then-branch : goal.returns-then-branch
returns-then-branch c =
    rw (is_too_deep c.in_ok-passes.field-0 c.nesting_limit.result c.args.lexemes.now c.nesting_limit.ensures.value c.in_ok-passes.ensures ∙ c.if-branch.true) refl

pub returns-in-None : goal.returns-in-None
returns-in-None c =
    rw (
      is_too_deep c.in_ok-passes.field-0 c.nesting_limit.result c.args.lexemes.now c.nesting_limit.ensures.value c.in_ok-passes.ensures ∙ c.if-branch.false,
      sym c.in_ok-left_out.ensures ∙ c.in-None.is,
    ) refl

pub returns-in-Some : goal.returns-in-Some
returns-in-Some c =
    rw (
      is_too_deep c.in_ok-passes.field-0 c.nesting_limit.result c.args.lexemes.now c.nesting_limit.ensures.value c.in_ok-passes.ensures ∙ c.if-branch.false,
      sym c.in_ok-left_out.ensures ∙ c.in-Some.is,
    ) refl
