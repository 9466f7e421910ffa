use Rattle.std.proofs.Common.{ap, ◌∙◌, map, [], ◌∷◌}
use Rattle.std.specs.Str.{chars}
use Rattle.ale_declared.specs.Names.{numbered}
use Rattle.ale_declared.proofs.NameLemmas.{shown, insert_shown}
use Rattle.ale_declaration.proofs.seen.Seen.add.Goals as goal

pub returns-in_ok-insert : goal.returns-in_ok-insert
returns-in_ok-insert c =
    ap (map shown) c.in_ok-insert.ensures.keys
    ∙ insert_shown c.self.inside.set.keys c.in_ok-own.own
    ∙ ap (λ x. numbered (map shown c.self.inside.set.keys) (x ∷ [])) (ap chars c.in_ok-own.ensures.ok ∙ c.as_str.ensures.value)
    ∙ ap (λ v. numbered v (c.args.name.now ∷ [])) c.self.view_is
