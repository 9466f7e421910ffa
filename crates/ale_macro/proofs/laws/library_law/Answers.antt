use Rattle.ale_macro.proofs.LawsHold as lemma
use Rattle.ale_macro.proofs.laws.library_law.Goals as goal

pub returns : goal.returns
returns c = lemma.library_law
