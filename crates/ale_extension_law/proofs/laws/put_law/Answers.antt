use Rattle.ale_extension_law.proofs.Puts as lemma
use Rattle.ale_extension_law.proofs.laws.put_law.Goals as goal

pub returns : goal.returns
returns c = lemma.put_law
