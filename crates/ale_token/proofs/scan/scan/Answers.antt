-- Each piece steps the function that reads.
use Rattle.std.proofs.Common.{◌≡◌, ◌<◌, [], ◌∷◌, length, rules, ap, ◌∙◌, sym, arith}
use Rattle.ale_token.specs.declared.pieces.Piece.TheVariants.{Gap, Word, Bad}
use Rattle.ale_token.specs.Pieces.{piece}
use Rattle.ale_token.specs.Tokens.{with_front, tokens_from, token}
use Rattle.ale_token.proofs.Reading.{with_front-append, tokens_from-gap, tokens_from-token, tokens_from-bad}
use Rattle.ale_token.proofs.scan.scan.Goals as goal

pub loop-rest-preserved-in-Gap : goal.loop-rest-preserved-in-Gap
loop-rest-preserved-in-Gap c =
    let e : piece c.loop-rest.rest.now ≡ Gap c.in-Gap.count = cc in
    let step = tokens_from-gap c.loop-rest.place c.in-Gap.count c.loop-rest.rest.now e in
    record { value = cc; places = omega arith }

pub loop-rest-preserved : goal.loop-rest-preserved
loop-rest-preserved c =
    let e : piece c.loop-rest.rest.now ≡ Word c.in-Word.kind c.in-Word.count = cc in
    let step = tokens_from-token c.loop-rest.place c.in-Word.count c.in-Word.kind c.loop-rest.rest.now e in
    let front = with_front-append c.loop-rest.read.items
    (token c.in-Word.kind c.loop-rest.place c.in-Word.count c.loop-rest.rest.now ∷ [])
    (tokens_from c.past-to.result.0 0 c.past-to.result.1.now) in
    record { value = cc c.in_ok-push-in-Word.ensures.items; places = omega arith }

pub returns-in-Bad : goal.returns-in-Bad
returns-in-Bad c =
    let e : piece c.loop-rest.rest.now ≡ Bad = cc in
    let long : 0 < length c.loop-rest.rest.now = search rules in
    sym c.loop-rest.invariant.value
    ∙ ap (with_front c.loop-rest.read.items)
    (tokens_from-bad c.loop-rest.place c.loop-rest.rest.now long e)
