-- The characters that were collected are those of the text.
use Rattle.std.proofs.Common.{◌≡◌, drop, IfOk, string_bytes, subst, rules, ap, ◌∙◌}
use Rattle.std.proofs.lemmas.List.{take_rest}
use Rattle.std.specs.Str.{chars}
use Rattle.std.proofs.lemmas.Str.{chars_from_encodes}
use Rattle.ale_token.specs.Names.{unquoted}
use Rattle.ale_token.proofs.names.name_in_quotes.Goals as goal

pub returns-in-len1-up : goal.returns-in-len1-up
returns-in-len1-up c =
    let same : c.as_slice.result.now ≡ chars c.args.text.now = search (rules, chars_from_encodes) in
    subst (λ cs. IfOk c.unquoted.result (λ name. chars (string_bytes name) ≡ unquoted cs))
    (take_rest c.as_slice.result.now 1 ∙ ap (drop 1) same) c.unquoted.ensures
