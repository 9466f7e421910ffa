use Rattle.std.proofs.Common.{map}
use Rattle.ale_term.specs.Terms.{term_data}
use Rattle.ale_term.specs.Goals as written
use Rattle.ale_vocabulary.specs.Knowing.{IsUnknown}
use Rattle.ale_vocabulary.specs.Mentions.{mentions_of_each, mentions_of_goal}
use Rattle.ale_describe.proofs.Knowing.{right_left, right_right}
use Rattle.ale_grammar.proofs.making.clause_of.Goals as goal

pub describe_each-requires : goal.describe_each-requires
describe_each-requires c = record {
  known = right_left (IsUnknown c.args.sig.now c.args.names.now.vocabulary) (mentions_of_each (map term_data c.args.arguments.now)) (mentions_of_goal (written.goal_data c.args.body.now)) c.requires.known;
}

pub describe_goal-requires : goal.describe_goal-requires
describe_goal-requires c = record {
  known = right_right (IsUnknown c.args.sig.now c.args.names.now.vocabulary) (mentions_of_each (map term_data c.args.arguments.now)) (mentions_of_goal (written.goal_data c.args.body.now)) c.requires.known;
}
