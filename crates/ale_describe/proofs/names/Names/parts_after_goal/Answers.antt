use Rattle.ale_term.specs.Goals.{goal_data}
use Rattle.ale_describe.proofs.Knowing.{known_goal}
use Rattle.ale_describe.proofs.names.Names.parts_after_goal.Goals as goal

pub goal_parts-requires : goal.goal_parts-requires
goal_parts-requires c = record { known = known_goal c.args.sig.now c.args.self.now.vocabulary (goal_data c.args.goal.now) c.requires.known }
