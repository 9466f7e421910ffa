use Rattle.ale_lexicon_law.proofs.Budgets as lemma
use Rattle.ale_lexicon_law.proofs.laws.lexicon_budget_law.Goals as goal

pub returns : goal.returns
returns c = lemma.lexicon_budget_law
