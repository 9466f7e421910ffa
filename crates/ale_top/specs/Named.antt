-- The job that two names make.
use Rattle.ale_top.specs.Jobs.{Job}
use Rattle.ale_top.specs.declared.program.Names.{Names}

abbrev pub job_named : Names → Job
job_named n = record { grammar = n.grammar.now; commands = n.commands.now }
