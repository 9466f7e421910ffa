use Rattle.std.proofs.Common.{ap, refl, sym, zero, ◌∙◌, is_some}
use Rattle.ale_term.specs.declared.symbol.Symbol.TheVariants.{Equals}
use Rattle.ale_term.specs.Behind.{behind}
use Rattle.ale_term.specs.Reading.{past, ended_by, simple_of}
use Rattle.ale_term.proofs.SoundGoals.{no_side, none_of}
use Rattle.ale_term.proofs.goal_reader.may_be_side.Goals as goal

pub returns-in-Some : goal.returns-in-Some
returns-in-Some c e n =
    no_side n c.args.lexemes.now c.in-Some.inner.now (ended_by Equals (simple_of n c.args.lexemes.now)) (sym c.in-Some.ensures)
    (none_of (past Equals (behind zero c.in-Some.inner.now))
    (ap (λ ls. is_some (past Equals ls)) (sym c.behind_bracket.ensures) ∙ sym c.begins_with_equals.ensures ∙ e)) refl
