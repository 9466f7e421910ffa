use Rattle.ale_form.proofs.Checked.{answered}
use Rattle.ale_command.specs.Commands.{IsCommand}
use Rattle.ale_command.specs.Reading.{command_at}
use Rattle.ale_command.proofs.Commands.{command_reads}
use Rattle.ale_command.proofs.read.one_command.Goals as goal

pub returns : goal.returns
returns c = record { answered = λ ls r. answered IsCommand ls (command_at ls) (command_reads ls) r }
