use Rattle.ale_print.proofs.VisibleTexts.{visible_texts}
use Rattle.ale_print.proofs.laws.visible_texts.Goals as goal

pub returns : goal.returns
returns c = visible_texts
