use Rattle.ale_print.proofs.Telling.{texts_tell}
use Rattle.ale_print.proofs.laws.texts_tell.Goals as goal

pub returns : goal.returns
returns c = texts_tell
