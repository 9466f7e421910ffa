use Rattle.ale_report.proofs.Written.{written_laws, texts_law}
use Rattle.ale_report.proofs.laws.written_law.Goals as goal

pub returns-clause-satisfiers : goal.returns-clause-satisfiers
returns-clause-satisfiers c = written_laws c.search_law.ensures

pub returns-clause-texts : goal.returns-clause-texts
returns-clause-texts c = texts_law
