use Rattle.ale_describe.proofs.Limiting.{limits_law}
use Rattle.ale_describe.proofs.laws.limits_law.Goals as goal

pub returns : goal.returns
returns c = limits_law
