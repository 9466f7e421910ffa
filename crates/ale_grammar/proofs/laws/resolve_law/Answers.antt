use Rattle.ale_grammar.proofs.ResolveLaw.{resolve_law}
use Rattle.ale_grammar.proofs.laws.resolve_law.Goals as goal

pub returns : goal.returns
returns c = resolve_law c.naming_law.ensures.named
