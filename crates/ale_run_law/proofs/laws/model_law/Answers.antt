use Rattle.ale_run_law.proofs.Whole.{all_runs}
use Rattle.ale_run_law.proofs.Modelled as lemma
use Rattle.ale_run_law.proofs.laws.model_law.Goals as goal

pub returns : goal.returns
returns c = lemma.model_law (all_runs c.closure_law.ensures)
