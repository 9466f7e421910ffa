use Rattle.ale_run_law.proofs.Whole.{all_runs}
use Rattle.ale_run_law.proofs.laws.run_law.Goals as goal

pub returns : goal.returns
returns c = all_runs c.closure_law.ensures
