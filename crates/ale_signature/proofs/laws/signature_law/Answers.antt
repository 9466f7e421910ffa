use Rattle.ale_declared.proofs.DeclaredLemmas.{IsWellNumbered-declared}
use Rattle.ale_signature.proofs.Example.{some_is_accepted}
use Rattle.ale_signature.proofs.LawLemmas.{lawful}
use Rattle.ale_signature.proofs.RelationLemmas.{tells_relations}
use Rattle.ale_signature.proofs.laws.signature_law.Goals as goal

pub returns-clause-lawful : goal.returns-clause-lawful
returns-clause-lawful c = lawful

pub returns-clause-numbered : goal.returns-clause-numbered
returns-clause-numbered c = IsWellNumbered-declared

pub returns-clause-satisfiable : goal.returns-clause-satisfiable
returns-clause-satisfiable c = some_is_accepted

pub returns-clause-relations : goal.returns-clause-relations
returns-clause-relations c = tells_relations
