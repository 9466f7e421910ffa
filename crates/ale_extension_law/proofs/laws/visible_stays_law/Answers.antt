use Rattle.ale_extension_law.proofs.Visible as lemma
use Rattle.ale_extension_law.proofs.laws.visible_stays_law.Goals as goal

pub returns : goal.returns
returns c = lemma.visible_stays c.visible_laws.ensures.part
