use Rattle.std.proofs.Common.{ap, ◌∙◌}
use Rattle.std.specs.Str.{chars}
use Rattle.ale_expansion.proofs.Naming.{no_name_is}
use Rattle.ale_expansion.proofs.variables.underscore.Goals as goal

pub returns : goal.returns
returns c = c.of.ensures ∙ (ap chars c.in_ok-name.ensures.ok ∙ no_name_is)
