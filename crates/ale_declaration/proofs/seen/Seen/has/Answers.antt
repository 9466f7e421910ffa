use Rattle.std.proofs.Common.{ap, ◌∙◌, map}
use Rattle.ale_declared.specs.Names.{is_named}
use Rattle.ale_declared.proofs.NameLemmas.{shown, is_named_shown}
use Rattle.ale_declaration.proofs.seen.Seen.has.Goals as goal

pub returns : goal.returns
returns c =
    c.contains.ensures
    ∙ is_named_shown c.as_str.result.now c.self.inside.set.keys c.as_str.utf8
    ∙ ap (λ v. is_named v (map shown c.self.inside.set.keys)) c.as_str.ensures.value
    ∙ ap (λ v. is_named c.args.name.now v) c.self.view_is
