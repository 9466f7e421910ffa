use Rattle.ale_term.specs.Goals as written
use Rattle.ale_describe.proofs.Knowing.{known_goal}
use Rattle.ale_describe.proofs.names.Names.describe_goal.Goals as goal

pub goal_described-requires : goal.goal_described-requires
goal_described-requires c = record { known = known_goal c.args.sig.now c.args.self.now.vocabulary (written.goal_data c.args.goal.now) c.requires.known }
