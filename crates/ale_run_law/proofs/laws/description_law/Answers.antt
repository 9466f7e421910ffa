use Rattle.ale_run_law.proofs.Whole.{all_runs}
use Rattle.ale_run_law.proofs.Answers as lemma
use Rattle.ale_run_law.proofs.laws.description_law.Goals as goal

pub returns : goal.returns
returns c = lemma.description_law (all_runs c.closure_law.ensures)
