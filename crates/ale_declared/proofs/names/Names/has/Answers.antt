use Rattle.std.proofs.Common.{ap, ◌∙◌}
use Rattle.std.specs.Str.{chars}
use Rattle.ale_declared.specs.Names.{is_named}
use Rattle.ale_declared.proofs.NameLemmas.{is_named_shown}
use Rattle.ale_declared.proofs.names.Names.has.Goals as goal

pub returns : goal.returns
returns c =
    c.contains.ensures
    ∙ is_named_shown c.args.name.now c.self.inside.set.keys c.utf8.name
    ∙ ap (λ v. is_named (chars c.args.name.now) v) c.self.view_is
