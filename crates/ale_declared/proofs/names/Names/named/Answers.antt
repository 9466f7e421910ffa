use Rattle.std.proofs.Common.{ap, ◌∙◌}
use Rattle.std.specs.Str.{chars}
use Rattle.ale_declared.specs.Names.{named}
use Rattle.ale_declared.proofs.NameLemmas.{named_shown, named_found, named_missing}
use Rattle.ale_declared.proofs.names.Names.named.Goals as goal

pub returns-clause-value : goal.returns-clause-value
returns-clause-value c =
    c.get_index_of.ensures.index
    ∙ named_shown c.args.name.now c.self.inside.set.keys c.utf8.name
    ∙ ap (λ v. named v (chars c.args.name.now)) c.self.view_is

pub returns-clause-found : goal.returns-clause-found
returns-clause-found c = named_found c.args.self.now (chars c.args.name.now) c.get_index_of.result (returns-clause-value c)

pub returns-clause-none : goal.returns-clause-none
returns-clause-none c = named_missing c.args.self.now (chars c.args.name.now) c.get_index_of.result (returns-clause-value c)
