use Rattle.ale_relation.proofs.Paths.{reaches_trans, leads_trans}
use Rattle.ale_relation.proofs.laws.paths_compose.Goals as goal

pub returns-clause-reaches : goal.returns-clause-reaches
returns-clause-reaches c = reaches_trans

pub returns-clause-leads : goal.returns-clause-leads
returns-clause-leads c = leads_trans
