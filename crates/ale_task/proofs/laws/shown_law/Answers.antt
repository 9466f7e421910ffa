use Rattle.ale_task.proofs.Shown.{shown_laws}
use Rattle.ale_task.proofs.laws.shown_law.Goals as goal

pub returns : goal.returns
returns c = shown_laws c.run_law.ensures
