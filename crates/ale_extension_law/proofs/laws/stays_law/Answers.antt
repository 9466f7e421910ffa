use Rattle.ale_extension_law.proofs.Stays as stays
use Rattle.ale_extension_law.proofs.laws.stays_law.Goals as goal

pub returns : goal.returns
returns c = stays.stays_law
