use Rattle.ale_load.specs.Views.{loaded_data}
use Rattle.ale_load.proofs.Answering.{loads_found, loads_as, loads_fitting}
use Rattle.ale_load.proofs.grammar.load.Goals as goal

pub returns-clause-found : goal.returns-clause-found
returns-clause-found c = loads_found loaded_data c.load_law.ensures.loads c.args.bytes.now c.load_in.result c.load_in.ensures.exact

pub returns-clause-only : goal.returns-clause-only
returns-clause-only c = λ answer is. loads_as loaded_data c.load_law.ensures.loads c.args.bytes.now c.load_in.result c.load_in.ensures.exact answer is

pub returns-clause-fits : goal.returns-clause-fits
returns-clause-fits c = loads_fitting loaded_data c.load_law.ensures.loads c.args.bytes.now c.load_law.ensures.fit c.load_in.result c.load_in.ensures.exact
