use Rattle.ale_vocabulary.proofs.Found.{first_is_found}
use Rattle.ale_vocabulary.proofs.laws.first_law.Goals as goal

pub returns : goal.returns
returns c = first_is_found
