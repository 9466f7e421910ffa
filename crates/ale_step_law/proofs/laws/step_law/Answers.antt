use Rattle.ale_step_law.proofs.OneVisit as visits
use Rattle.ale_step_law.proofs.laws.step_law.Goals as goal

pub returns : goal.returns
returns c = visits.step_law c.closure_law.ensures
