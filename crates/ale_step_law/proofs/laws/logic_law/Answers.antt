use Rattle.ale_step_law.proofs.OneVisit as visits
use Rattle.ale_step_law.proofs.laws.logic_law.Goals as goal

pub returns : goal.returns
returns c = visits.logic_law c.closure_law.ensures
