use Rattle.ale_chart_law.proofs.Replacing as lemma
use Rattle.ale_chart_law.proofs.laws.keep_law.Goals as goal

pub returns-clause-subsumed : goal.returns-clause-subsumed
returns-clause-subsumed c = lemma.subsumption_keeps

pub returns-clause-all : goal.returns-clause-all
returns-clause-all c = lemma.all_keeps
