use Rattle.ale_chart_law.proofs.Budgets as lemma
use Rattle.ale_chart_law.proofs.laws.chart_budget_law.Goals as goal

pub returns : goal.returns
returns c = lemma.chart_budget_law
