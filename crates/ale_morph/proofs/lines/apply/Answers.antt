use Rattle.std.proofs.Common.{rules, ◌≡◌, sym, subst}
use Rattle.std.specs.Str.{chars}
use Rattle.std.proofs.lemmas.Str.{chars_from_encodes}
use Rattle.ale_morph.specs.Fits.{Becomes}
use Rattle.ale_morph.proofs.Complete.{becomes_meant}
use Rattle.ale_morph.proofs.Written.{if_ok}
use Rattle.ale_morph.proofs.lines.apply.Goals as goal

pub returns-clause-value : goal.returns-clause-value
returns-clause-value c =
    let same : c.as_slice.result.now ≡ chars c.args.word.now = search (rules, chars_from_encodes) in
    rw same at c.by_first.ensures

pub returns-clause-meaning : goal.returns-clause-meaning
returns-clause-meaning c =
    let same : c.as_slice.result.now ≡ chars c.args.word.now = search (rules, chars_from_encodes) in
    if_ok c.by_first.result
    (λ made e. subst (Becomes c.args.lines.now (chars c.args.word.now)) (sym e) (becomes_meant c.args.lines.now (chars c.args.word.now)))
    (rw same at c.by_first.ensures)
