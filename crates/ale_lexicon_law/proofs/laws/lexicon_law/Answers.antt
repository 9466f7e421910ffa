use Rattle.ale_run_law.proofs.Whole.{all_runs}
use Rattle.ale_lexicon_law.proofs.Lexica as lemma
use Rattle.ale_lexicon_law.proofs.laws.lexicon_law.Goals as goal

pub returns : goal.returns
returns c = lemma.lexicon_law c.visible_laws.ensures.part (all_runs c.closure_law.ensures)
