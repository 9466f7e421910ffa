use Rattle.ale_step_law.proofs.OneVisit.{step_law, logic_law}
use Rattle.ale_run_law.proofs.Runs.{run_law}
use Rattle.ale_generation_law.proofs.Generations as lemma
use Rattle.ale_generation_law.proofs.laws.generation_law.Goals as goal

pub returns : goal.returns
returns c = lemma.generation_law (run_law (step_law c.closure_law.ensures) (logic_law c.closure_law.ensures)) c.visible_laws.ensures.part
