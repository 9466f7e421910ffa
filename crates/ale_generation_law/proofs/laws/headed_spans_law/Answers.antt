use Rattle.ale_generation_law.proofs.Spanned as lemma
use Rattle.ale_generation_law.proofs.laws.headed_spans_law.Goals as goal

pub returns : goal.returns
returns c = lemma.headed_spans_law
