use Rattle.ale_lexicon_law.proofs.Budgets.{lexicon_budget_law}
use Rattle.ale_chart_law.proofs.Budgets.{chart_budget_law}
use Rattle.ale_reply_law.proofs.Marking as lemma
use Rattle.ale_reply_law.proofs.laws.marks_law.Goals as goal

pub returns : goal.returns
returns c = lemma.marks_laws lexicon_budget_law chart_budget_law
