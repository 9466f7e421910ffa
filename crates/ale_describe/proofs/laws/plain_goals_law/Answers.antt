use Rattle.ale_describe.proofs.PlainGoals.{plain_goals_law}
use Rattle.ale_describe.proofs.laws.plain_goals_law.Goals as goal

pub returns : goal.returns
returns c = plain_goals_law
