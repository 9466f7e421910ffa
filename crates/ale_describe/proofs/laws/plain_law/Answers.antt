use Rattle.ale_describe.proofs.PlainDescriptions.{plain_law}
use Rattle.ale_describe.proofs.laws.plain_law.Goals as goal

pub returns : goal.returns
returns c = plain_law
