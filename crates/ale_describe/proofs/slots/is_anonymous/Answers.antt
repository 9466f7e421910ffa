use Rattle.std.proofs.Common.{ap, ◌∙◌}
use Rattle.ale_describe.specs.Variables.{is_anonymous}
use Rattle.ale_describe.proofs.Numbering.{is_anonymous_shown}
use Rattle.ale_describe.proofs.slots.is_anonymous.Goals as goal

pub returns : goal.returns
returns c = c.eq.ensures ∙ is_anonymous_shown c.as_str.result.now c.as_str.utf8 ∙ ap is_anonymous c.as_str.ensures.value
