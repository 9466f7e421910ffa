-- The law of runs, from the closure's alone.
use Rattle.ale_graph.specs.Universal.{ClosureLaw}
use Rattle.ale_logic.specs.Runs.{RunLaws}
use Rattle.ale_step_law.proofs.OneVisit.{step_law, logic_law}
use Rattle.ale_run_law.proofs.Runs.{run_law}

pub all_runs : ClosureLaw → RunLaws
all_runs closes = run_law (step_law closes) (logic_law closes)
