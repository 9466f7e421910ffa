use Rattle.std.proofs.lemmas.Str.{IsUtf8-past_char}
use Rattle.std.specs.Str.Iter.{chars_rest}
use Rattle.ale_morph.specs.Search.{behind}
use Rattle.ale_morph.proofs.Prefixes.{chars_stop, chars_go, chars_end}
use Rattle.ale_morph.proofs.prefix.behind_letters.Goals as goal

pub returns-in_err-left : goal.returns-in_err-left
returns-in_err-left c =
    let held = c.loop-letter.invariant in
    rw c.from_residual.ensures
    (chars_stop (chars_rest c.loop-letter.letter-iterator) (chars_rest c.next.new.self) c.in-Some.letter c.loop-letter.left.now (behind c.args.letters.now c.args.rest.now)
    held.2 c.in-Some.ensures.steps.0 c.in_err-left.ensures held.3)

pub loop-letter-preserved : goal.loop-letter-preserved
loop-letter-preserved c =
    let held = c.loop-letter.invariant in (
      tt,
      tt,
      IsUtf8-past_char (chars_rest c.loop-letter.letter-iterator) (chars_rest c.next.new.self) c.in-Some.letter held.2 c.in-Some.ensures.steps.0,
      chars_go (chars_rest c.loop-letter.letter-iterator) (chars_rest c.next.new.self) c.in-Some.letter c.loop-letter.left.now c.in_ok-left.left.now (behind c.args.letters.now c.args.rest.now)
          held.2 c.in-Some.ensures.steps.0 c.in_ok-left.ensures held.3,
    )

pub returns : goal.returns
returns c =
    let held = c.loop-letter.invariant in
    chars_end (chars_rest c.loop-letter.letter-iterator) c.loop-letter.left.now (behind c.args.letters.now c.args.rest.now) c.in-None.ensures.steps.0.0 held.3
