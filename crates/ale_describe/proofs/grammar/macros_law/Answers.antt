use Rattle.ale_describe.proofs.MacroLaws.{macros_law}
use Rattle.ale_describe.proofs.grammar.macros_law.Goals as goal

pub returns : goal.returns
returns c = macros_law
