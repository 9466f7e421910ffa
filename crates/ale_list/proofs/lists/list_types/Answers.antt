use Rattle.ale_list.proofs.ListNames.{found_fit}
use Rattle.ale_list.proofs.lists.list_types.Goals as goal

pub returns-clause-fits : goal.returns-clause-fits
returns-clause-fits c = found_fit c.args.sig.now c.named_types.result c.built_law.ensures.lawful c.named_types.ensures
