use Rattle.ale_engine.proofs.EngineLaw as laws
use Rattle.ale_engine.proofs.laws.engine_law.Goals as goal

pub returns : goal.returns
returns g c = laws.engine_law g.row.S.Denot g.row.A.Denot g.row.B.Denot
