use Rattle.ale_describe.proofs.Fitting.{describe_law}
use Rattle.ale_describe.proofs.laws.describe_law.Goals as goal

pub returns : goal.returns
returns c = describe_law
