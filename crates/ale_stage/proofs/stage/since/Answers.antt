use Rattle.std.proofs.Common.{refl}
use Rattle.ale_stage.specs.Stages.{stage}
use Rattle.ale_stage.proofs.stage.since.Goals as goal

pub returns : goal.returns
unfolding stage
returns c = refl
