use Rattle.ale_run_law.proofs.Runs.{run_law}
use Rattle.ale_search.proofs.Meaning.{search_law}
use Rattle.ale_search.proofs.laws.search_law.Goals as goal

pub returns : goal.returns
returns c = search_law (run_law c.step_law.ensures c.logic_law.ensures) c.enough_law.ensures
