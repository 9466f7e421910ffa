use Rattle.std.proofs.Common.{◌≡◌, ap, ◌∙◌, chars, length, ltb}
use Rattle.std.proofs.lemmas.Iterator.{YieldsList-from_chars}
use Rattle.std.proofs.lemmas.Iterator.Consumers.{count_from_yields_List}
use Rattle.ale_command.proofs.command.has_more.Goals as goal

pub returns : goal.returns
returns c =
    let n : c.count.result ≡ length (chars c.as_str.result.now) =
    count_from_yields_List c.chars.result c.count.result c.count.ensures.ran (YieldsList-from_chars c.as_str.result.now c.as_str.utf8 c.chars.ensures.rest) in
    ap (λ m. ltb c.args.limit m) (n ∙ ap (λ cs. length cs) c.as_str.ensures.value)
