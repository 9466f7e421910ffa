use Rattle.ale_run_law.proofs.Enough as lemma
use Rattle.ale_run_law.proofs.laws.enough_law.Goals as goal

pub returns : goal.returns
returns c = lemma.enough
