use Rattle.ale_vocabulary.proofs.Keying.{keys_apart}
use Rattle.ale_vocabulary.proofs.laws.key_law.Goals as goal

pub returns : goal.returns
returns c = keys_apart
