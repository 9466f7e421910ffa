use Rattle.std.proofs.Common.{sym}
use Rattle.ale_top.specs.Named.{job_named}
use Rattle.ale_top.proofs.program.run_words.Goals as goal

pub run_job-requires-clause-grammar : goal.run_job-requires-clause-grammar
run_job-requires-clause-grammar g c = (c.requires (job_named c.in-Some.names) (sym c.in-Some.ensures)).0

pub run_job-requires-clause-commands : goal.run_job-requires-clause-commands
run_job-requires-clause-commands g c = (c.requires (job_named c.in-Some.names) (sym c.in-Some.ensures)).1
