use Rattle.ale_declared.proofs.DeclaredLemmas.{IsWellNumbered-declared}
use Rattle.ale_declared.proofs.TopLemmas.{distinct_names}
use Rattle.ale_declared.proofs.laws.numbering_law.Goals as goal

pub returns-clause-distinct : goal.returns-clause-distinct
returns-clause-distinct c = distinct_names

pub returns-clause-numbered : goal.returns-clause-numbered
returns-clause-numbered c = IsWellNumbered-declared
