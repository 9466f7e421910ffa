use Rattle.ale_declaration.proofs.Answered.{answered}
use Rattle.ale_declaration.proofs.laws.one_declaration.Goals as goal

pub returns : goal.returns
returns c = record { answered = answered }
