use Rattle.ale_morph.proofs.Complete.{becomes_meant}
use Rattle.ale_morph.proofs.OneWord.{one_by_one}
use Rattle.ale_morph.proofs.laws.morphology_law.Goals as goal

pub returns : goal.returns
returns c = record { meant = becomes_meant; one = one_by_one }
