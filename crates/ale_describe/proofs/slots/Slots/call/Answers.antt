use Rattle.std.proofs.Common.{ap, ◌∙◌, [], ◌∷◌, ◌++◌}
use Rattle.std.specs.Str.{chars}
use Rattle.ale_describe.proofs.Numbering.{anonymous_chars}
use Rattle.ale_describe.proofs.slots.Slots.call.Goals as goal

pub returns-clause-added : goal.returns-clause-added
returns-clause-added c = c.in_ok-add.ensures ∙ ap (λ y. c.args.self.now ++ y ∷ []) (c.of-name.ensures ∙ ap chars c.in_ok-from_str.ensures.ok ∙ anonymous_chars)
