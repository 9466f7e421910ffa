use Rattle.ale_part_law.proofs.Keeping as lemma
use Rattle.ale_part_law.proofs.laws.visible_part_law.Goals as goal

pub returns : goal.returns
returns c = lemma.visible_part_law c.visible_laws.ensures.part
