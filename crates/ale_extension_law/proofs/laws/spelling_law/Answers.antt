use Rattle.ale_extension_law.proofs.Spells as lemma
use Rattle.ale_extension_law.proofs.laws.spelling_law.Goals as goal

pub returns : goal.returns
returns c = lemma.spelling_law
