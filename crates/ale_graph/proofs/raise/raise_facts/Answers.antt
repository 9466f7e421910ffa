use Rattle.ale_graph.proofs.Vectors.{read_has}
use Rattle.ale_graph.proofs.raise.raise_facts.Goals as goal

pub raise_fact-requires-clause-fits : goal.raise_fact-requires-clause-fits
raise_fact-requires-clause-fits c =
    (c.requires.fits.0, c.requires.fits.1 c.fact-item.result (read_has c.args.facts.now c.loop-fact.fact-index c.fact-item.result c.loop-fact-test.true c.fact-item.is))
