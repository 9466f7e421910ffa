use Rattle.ale_describe.proofs.Meant.{meaning_law}
use Rattle.ale_describe.proofs.laws.meaning_law.Goals as goal

pub returns : goal.returns
returns c = meaning_law c.first_law.ensures
