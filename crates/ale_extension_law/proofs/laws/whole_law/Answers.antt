use Rattle.ale_extension_law.proofs.Wholes as lemma
use Rattle.ale_extension_law.proofs.laws.whole_law.Goals as goal

pub returns : goal.returns
returns c = lemma.whole_part
