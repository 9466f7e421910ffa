use Rattle.ale_run_law.proofs.Whole.{all_runs}
use Rattle.ale_run_law.proofs.Kept as lemma
use Rattle.ale_run_law.proofs.laws.kept_law.Goals as goal

pub returns : goal.returns
returns c = lemma.kept_law (all_runs c.closure_law.ensures)
