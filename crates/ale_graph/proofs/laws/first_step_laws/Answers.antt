use Rattle.ale_graph.proofs.FirstStep as step
use Rattle.ale_graph.proofs.laws.first_step_laws.Goals as goal

pub returns : goal.returns
returns c = step.first_step_laws
