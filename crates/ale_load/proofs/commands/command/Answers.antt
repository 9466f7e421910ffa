use Rattle.std.proofs.Common.{subst}
use Rattle.std.specs.Prelude.{slice_range}
use Rattle.ale_term.specs.Lexemes.{lexemes}
use Rattle.ale_form.specs.Results.{Gives}
use Rattle.ale_command.specs.Commands.{command_data}
use Rattle.ale_load.specs.Commands.{command_in}
use Rattle.ale_load.proofs.Opaque.{command_gives}
use Rattle.ale_load.proofs.commands.command.Goals as goal

pub returns : goal.returns
returns c =
    let text = c.args.parts.now.text.now in
    let r = c.args.range in
    subst (λ ts. Gives command_data c.read_command.result (command_in (lexemes text (slice_range ts r.0 r.1)))) c.as_slice.ensures.value
    (command_gives command_data c.read_command.result (lexemes text (slice_range c.as_slice.result.now r.0 r.1)) c.read_command.ensures.exact)
