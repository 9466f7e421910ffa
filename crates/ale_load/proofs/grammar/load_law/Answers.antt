use Rattle.std.proofs.Common.{Ok, refl}
use Rattle.ale_load.proofs.Laws.{load_is, loaded_lawful, loaded_distinct, loaded_fits, read_in}
use Rattle.ale_load.proofs.grammar.load_law.Goals as goal

pub returns-clause-loads : goal.returns-clause-loads
returns-clause-loads c = λ g r. load_is (read_in c.one_declaration.ensures.answered) c.fault_law.ensures c.naming_law.ensures.named g r

pub returns-clause-lawful : goal.returns-clause-lawful
returns-clause-lawful c = λ g l is. loaded_lawful c.signature_law.ensures.lawful c.signature_law.ensures.numbered g (Ok l) l is refl

pub returns-clause-distinct : goal.returns-clause-distinct
returns-clause-distinct c = λ g l is. loaded_distinct c.numbering_law.ensures.distinct g (Ok l) l is refl

pub returns-clause-fit : goal.returns-clause-fit
returns-clause-fit c = λ g l is. loaded_fits c.naming_law.ensures.fit c.signature_law.ensures.lawful c.signature_law.ensures.numbered g (Ok l) l is refl
