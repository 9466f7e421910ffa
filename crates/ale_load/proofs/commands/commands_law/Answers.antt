use Rattle.std.proofs.Common.{Ok, refl}
use Rattle.ale_load.proofs.CommandLaws.{commands_are, taken_fit, read_in}
use Rattle.ale_load.proofs.commands.commands_law.Goals as goal

pub returns-clause-reads : goal.returns-clause-reads
returns-clause-reads c = λ l x r. commands_are (read_in c.one_command.ensures.answered) c.first_law.ensures c.limits_law.ensures l x r

pub returns-clause-fit : goal.returns-clause-fit
returns-clause-fit c = λ l x qs fits are. taken_fit c.describe_law.ensures c.plain_law.ensures l fits x (Ok qs) qs are refl
