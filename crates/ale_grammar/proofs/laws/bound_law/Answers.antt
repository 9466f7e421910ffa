use Rattle.ale_grammar.proofs.ReadLines.{bound_law}
use Rattle.ale_grammar.proofs.laws.bound_law.Goals as goal

pub returns : goal.returns
returns c = bound_law
