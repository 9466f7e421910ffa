use Rattle.ale_worked.proofs.Searched as searched
use Rattle.ale_worked.proofs.laws.words_examples.Goals as goal

pub returns-clause-levels : goal.returns-clause-levels
returns-clause-levels c = searched.levels

pub returns-clause-parses : goal.returns-clause-parses
returns-clause-parses c = searched.parses

pub returns-clause-generation : goal.returns-clause-generation
returns-clause-generation c = searched.generation
