use Rattle.std.specs.Option.{option_map}
use Rattle.ale_term.specs.Terms.{term_data}
use Rattle.ale_term.specs.Goals as written
use Rattle.ale_vocabulary.specs.Knowing.{IsUnknown}
use Rattle.ale_vocabulary.specs.Mentions.{mentions, mentions_of_some}
use Rattle.ale_describe.proofs.Knowing.{right_left, right_right, known_type}
use Rattle.ale_grammar.proofs.making.constraint_of.Goals as goal

pub type_of-at-requires : goal.type_of-at-requires
type_of-at-requires c = known_type c.args.sig.now c.args.names.now.vocabulary c.args.name.now c.requires.known.0

pub describe-requires : goal.describe-requires
describe-requires c = record {
  known = right_left (IsUnknown c.args.sig.now c.args.names.now.vocabulary) (mentions (term_data c.args.term.now)) (mentions_of_some (option_map written.goal_data c.args.goal.now)) c.requires.known.1;
}

pub some_goal_of-requires : goal.some_goal_of-requires
some_goal_of-requires c = record {
  known = right_right (IsUnknown c.args.sig.now c.args.names.now.vocabulary) (mentions (term_data c.args.term.now)) (mentions_of_some (option_map written.goal_data c.args.goal.now)) c.requires.known.1;
}
