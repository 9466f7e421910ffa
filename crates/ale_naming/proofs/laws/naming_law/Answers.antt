use Rattle.ale_naming.proofs.Law.{naming}
use Rattle.ale_naming.proofs.Fitted.{names_fit}
use Rattle.ale_naming.proofs.laws.naming_law.Goals as goal

pub returns : goal.returns
returns c = record { named = naming; fit = names_fit }
