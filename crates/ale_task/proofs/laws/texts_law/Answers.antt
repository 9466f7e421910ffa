use Rattle.ale_task.proofs.Shown.{shown_laws}
use Rattle.ale_task.proofs.Texts.{texts_laws}
use Rattle.ale_task.proofs.laws.texts_law.Goals as goal

pub returns : goal.returns
returns c = texts_laws (shown_laws c.run_law.ensures) c.texts_tell.ensures c.visible_texts.ensures
