use Rattle.std.proofs.Common.{◌≡◌, ◌++◌, drop, string_bytes}
use Rattle.std.specs.Prelude.{encode_utf8_all}
use Rattle.ale_morph.specs.Fits.{spell}
use Rattle.ale_morph.specs.Search.{texts_of}
use Rattle.ale_morph.specs.Stack.{fillings, top_first}
use Rattle.ale_morph.proofs.spelling.spell.Given as goal

abbrev pub invariant-loop-piece : goal.invariant-loop-piece
invariant-loop-piece l =
    string_bytes l.out ++ encode_utf8_all (spell (texts_of (fillings (top_first l.stack))) (drop l.piece-index l.pieces))
    ≡ encode_utf8_all (spell (texts_of (fillings (top_first l.stack))) l.pieces)
