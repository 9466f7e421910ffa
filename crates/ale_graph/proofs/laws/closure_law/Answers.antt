use Rattle.ale_graph.proofs.Law as law
use Rattle.ale_graph.proofs.laws.closure_law.Goals as goal

pub returns : goal.returns
returns c = law.closure_law
