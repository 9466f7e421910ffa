use Rattle.ale_chart_law.proofs.Starting as lemma
use Rattle.ale_chart_law.proofs.laws.start_law.Goals as goal

pub returns : goal.returns
returns c = lemma.start_law
