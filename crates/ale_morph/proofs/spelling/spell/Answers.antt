use Rattle.std.proofs.Common.{◌+◌, ◌≤◌, ◌++◌, length, drop, refl, sym, ap, ◌∙◌, string_bytes, arith}
use Rattle.std.specs.Prelude.{encode_utf8_all}
use Rattle.std.proofs.lemmas.Str.{IsUtf8-string_bytes}
use Rattle.ale_morph.specs.Fits.{Texts, part, spell}
use Rattle.ale_morph.specs.Search.{texts_of}
use Rattle.ale_morph.specs.Stack.{fillings, top_first}
use Rattle.ale_morph.proofs.Written.{written_more, spell_from, written_whole}
use Rattle.ale_morph.proofs.spelling.spell.Goals as goal

pub loop-piece-preserved : goal.loop-piece-preserved
loop-piece-preserved c =
    let texts : Texts = texts_of (fillings (top_first c.args.stack.now)) in
    let pieces = c.args.pieces.now in
    let i = c.loop-piece.piece-index in
    let before = string_bytes c.loop-piece.out in
    let from = spell_from texts pieces i (i + 1) c.piece-item.result c.loop-piece-test.true c.piece-item.is refl in
    written_more before (string_bytes c.push_piece.new.out) (part texts c.piece-item.result) (spell texts (drop (i + 1) pieces)) (encode_utf8_all (spell texts pieces))
    (ap (λ s. before ++ encode_utf8_all s) (sym from) ∙ c.loop-piece.invariant) c.in_ok-push_piece.ensures

pub returns : goal.returns
returns c =
    let texts : Texts = texts_of (fillings (top_first c.args.stack.now)) in
    let ended : length c.args.pieces.now ≤ c.loop-piece.piece-index = omega arith in
    c.of.ensures
    ∙ written_whole texts c.args.pieces.now c.loop-piece.piece-index (string_bytes c.loop-piece.out) (IsUtf8-string_bytes c.loop-piece.out) ended c.loop-piece.invariant
