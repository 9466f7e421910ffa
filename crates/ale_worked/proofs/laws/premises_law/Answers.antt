use Rattle.ale_worked.proofs.Accepted.{premises_are_met}
use Rattle.ale_worked.proofs.laws.premises_law.Goals as goal

pub returns : goal.returns
returns c = premises_are_met
