use Rattle.ale_task.proofs.Promising.{task_laws, mark_laws}
use Rattle.ale_task.proofs.Shown.{shown_laws}
use Rattle.ale_task.proofs.laws.task_law.Goals as goal

pub returns-clause-meaning : goal.returns-clause-meaning
returns-clause-meaning c = task_laws (shown_laws c.run_law.ensures) c.description_law.ensures c.goal_law.ensures c.reply_law.ensures.whole

pub returns-clause-marks : goal.returns-clause-marks
returns-clause-marks c = mark_laws c.marks_law.ensures
