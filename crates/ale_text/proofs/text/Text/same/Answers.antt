use Rattle.std.proofs.Common.{sym, ap, ◌∙◌, encode_utf8_all}
use Rattle.std.proofs.lemmas.Slice.Eq.{bytes_eq-Decides}
use Rattle.std.specs.Str.{chars}
use Rattle.ale_text.proofs.text.Text.same.Goals as goal

pub returns : goal.returns
returns c =
    let d = bytes_eq-Decides c.as_str.result.now c.as_str-2.result.now in (
      λ t. sym c.as_str.ensures.value ∙ ap chars (d.0 (sym c.eq.ensures ∙ t)) ∙ c.as_str-2.ensures.value,
      λ e. c.eq.ensures ∙ d.1 (c.as_str.ensures.bytes ∙ ap encode_utf8_all e ∙ sym c.as_str-2.ensures.bytes),
    )
