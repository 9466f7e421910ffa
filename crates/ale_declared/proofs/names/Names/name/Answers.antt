use Rattle.std.proofs.Common.{◌≡◌, sym, ap, ◌∙◌, encode_utf8_all, arith}
use Rattle.std.proofs.lemmas.Grind.{common_steps}
use Rattle.std.proofs.lemmas.Str.{encodes-chars}
use Rattle.std.specs.Str.{chars}
use Rattle.ale_declared.specs.Names.{name_of}
use Rattle.ale_declared.proofs.names.Names.name.Goals as goal

pub returns-clause-bytes : goal.returns-clause-bytes
returns-clause-bytes c =
    let value : chars c.as_str.result.now ≡ name_of c.args.self.now c.args.number = grind (arith, common_steps) in
    sym (encodes-chars _ c.as_str.utf8) ∙ ap encode_utf8_all value
