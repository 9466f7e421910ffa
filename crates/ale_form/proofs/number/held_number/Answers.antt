use Rattle.std.proofs.Common.{◌≡◌, [], ◌∷◌, sym, ap, ◌∙◌, subst, chars, IsUtf8, arith}
use Rattle.std.proofs.lemmas.Str.{IsUtf8-past_char, chars_past_char}
use Rattle.std.specs.Str.Iter.{chars_rest}
use Rattle.ale_form.specs.Numbers.{held, held_behind}
use Rattle.ale_form.proofs.Numbers.{held_start, held_step, no_chars}
use Rattle.ale_form.proofs.number.held_number.Goals as goal

pub loop-digit-init : goal.loop-digit-init
loop-digit-init c =
    let e : chars_rest c.into_iter-digit-iterator.result ≡ c.as_str.result.now =
    ap chars_rest c.into_iter-digit-iterator.ensures.into_iter_gives ∙ c.chars-digit-items.ensures.rest in
    (subst IsUtf8 (sym e) c.as_str.utf8, ap (λ bs. held_behind 0 (chars bs)) e ∙ ap held c.as_str.ensures.value, omega arith)

pub loop-digit-preserved : goal.loop-digit-preserved
loop-digit-preserved c =
    let kept = c.loop-digit.invariant in
    let parts = c.in-Some.ensures.steps.0 in
    let later : chars (chars_rest c.loop-digit.digit-iterator) ≡ c.in-Some.digit ∷ chars (chars_rest c.next.new.self) =
    chars_past_char _ _ c.in-Some.digit kept.0 parts in (
      IsUtf8-past_char _ _ c.in-Some.digit kept.0 parts,
      held_step c.loop-digit.number c.in-Some.digit (chars (chars_rest c.next.new.self)) c.behind_digit-number.result c.behind_digit-number.ensures
          ∙ ap (λ cs. held_behind c.loop-digit.number cs) (sym later) ∙ kept.1,
      c.behind_digit-number.type_inv,
    )

pub returns : goal.returns
returns c =
    let none : chars (chars_rest c.loop-digit.digit-iterator) ≡ [] = no_chars (chars_rest c.loop-digit.digit-iterator) c.in-None.ensures.steps.0.0 in
    held_start c.loop-digit.number c.loop-digit.invariant.2 ∙ sym (ap (λ cs. held_behind c.loop-digit.number cs) none) ∙ c.loop-digit.invariant.1
