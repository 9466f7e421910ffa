use Rattle.ale_top.specs.Named.{job_named}
use Rattle.ale_top.proofs.Runs.{reached_early}
use Rattle.ale_top.proofs.program.run_job.Goals as goal

pub returns-in-Err-clause-reached : goal.returns-in-Err-clause-reached
returns-in-Err-clause-reached g c =
    reached_early (g.F.Files.content c.args.files.now) (job_named c.args.names.now) c.args.budget c.in-Err.status (g.W.Sink.written c.args.out.now) c.in-Err.ensures.error

pub returns-in-Err-read_input-clause-reached : goal.returns-in-Err-read_input-clause-reached
returns-in-Err-read_input-clause-reached g c =
    reached_early (g.F.Files.content c.args.files.now) (job_named c.args.names.now) c.args.budget c.in-Err-read_input.status (g.W.Sink.written c.args.out.now)
    c.in-Err-read_input.ensures.error
