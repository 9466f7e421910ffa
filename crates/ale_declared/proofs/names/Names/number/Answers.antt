use Rattle.std.proofs.Common.{◌∙◌}
use Rattle.ale_declared.proofs.NameLemmas.{number_from_named}
use Rattle.ale_declared.proofs.names.Names.number.Goals as goal

pub returns : goal.returns
returns c =
    c.unwrap_or.ensures
    ∙ rw (c.named.ensures.value, c.count.ensures, c.as_str.ensures.value) (number_from_named c.args.self.now c.args.name.now)
