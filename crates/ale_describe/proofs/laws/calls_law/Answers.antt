use Rattle.ale_describe.proofs.CallsHaveArities.{calls_law}
use Rattle.ale_describe.proofs.laws.calls_law.Goals as goal

pub returns : goal.returns
returns c = calls_law
