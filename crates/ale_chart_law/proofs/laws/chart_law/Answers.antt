use Rattle.ale_run_law.proofs.Whole.{all_runs}
use Rattle.ale_chart_law.proofs.Whole as lemma
use Rattle.ale_chart_law.proofs.laws.chart_law.Goals as goal

pub returns : goal.returns
returns c = lemma.chart_law (all_runs c.closure_law.ensures) c.visible_laws.ensures.part
