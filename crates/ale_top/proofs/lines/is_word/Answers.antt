use Rattle.std.proofs.Common.{◌≡◌, sym, ap, ◌∙◌, encode_utf8_all}
use Rattle.std.proofs.lemmas.Slice.Eq.{bytes_eq-Decides}
use Rattle.std.proofs.lemmas.Str.{encodes-chars}
use Rattle.std.specs.Str.{chars, bytes_eq}
use Rattle.ale_top.proofs.Words.{same_test}
use Rattle.ale_top.proofs.lines.is_word.Goals as goal

pub returns : goal.returns
returns c =
    let d = bytes_eq-Decides c.as_str.result.now c.args.word.now in
    let e = bytes_eq-Decides c.args.name.now c.args.word.now in
    let w : encode_utf8_all c.args.word.now ≡ c.args.word.now =
    ap encode_utf8_all (sym c.requires) ∙ encodes-chars c.args.word.now c.utf8.word in
    c.eq.ensures ∙ same_test (bytes_eq c.as_str.result.now c.args.word.now) (bytes_eq c.args.name.now c.args.word.now)
    (λ t. e.1 (sym c.as_str.ensures.value ∙ ap chars (d.0 t) ∙ c.requires))
    (λ t. d.1 (c.as_str.ensures.bytes ∙ ap encode_utf8_all (e.0 t) ∙ w))
