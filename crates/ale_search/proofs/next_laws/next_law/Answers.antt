use Rattle.ale_search.proofs.Nexts.{next_law}
use Rattle.ale_search.proofs.next_laws.next_law.Goals as goal

pub returns : goal.returns
returns c = next_law
