use Rattle.ale_term.specs.Lexemes.{lexemes}
use Rattle.ale_form.proofs.Checked.{only}
use Rattle.ale_command.specs.Commands.{IsCommand, command_data}
use Rattle.ale_command.specs.Reading.{command_at}
use Rattle.ale_command.proofs.Commands.{command_reads}
use Rattle.ale_command.proofs.Found.{found}
use Rattle.ale_command.proofs.read.read_command.Goals as goal

pub returns-clause-found : goal.returns-clause-found
returns-clause-found c = found (lexemes c.args.text.now c.args.tokens.now) command_data c.read_tokens.result c.read_tokens.ensures

pub returns-clause-only : goal.returns-clause-only
returns-clause-only c answer a =
    let ls = lexemes c.args.text.now c.args.tokens.now in
    only IsCommand ls (command_at ls) (command_reads ls) command_data c.read_tokens.result c.read_tokens.ensures answer a
