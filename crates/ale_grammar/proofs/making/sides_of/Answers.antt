use Rattle.std.proofs.Common.{◌++◌, ◌∙◌}
use Rattle.std.specs.Option.{option_map}
use Rattle.ale_term.specs.Terms.{term_data}
use Rattle.ale_term.specs.Goals as written
use Rattle.ale_vocabulary.specs.Knowing.{IsUnknown}
use Rattle.ale_vocabulary.specs.Mentions.{mentions, mentions_of_some}
use Rattle.ale_logic.specs.Descriptions.{description}
use Rattle.ale_program.specs.Goals.{goal_data}
use Rattle.ale_describe.proofs.Knowing.{right_left, right_right}
use Rattle.ale_grammar.proofs.Sides.{sides_are}
use Rattle.ale_grammar.proofs.making.sides_of.Goals as goal

pub describe-requires : goal.describe-requires
describe-requires c =
    let P = IsUnknown c.args.sig.now c.args.names.now.vocabulary in
    let a = mentions (term_data c.args.input.now) in
    let b = mentions (term_data c.args.output.now) in
    record { known = right_left P a b (right_left P (a ++ b) (mentions_of_some (option_map written.goal_data c.args.goal.now)) c.requires.known) }

pub describe-requires-2 : goal.describe-requires-2
describe-requires-2 c =
    let P = IsUnknown c.args.sig.now c.args.names.now.vocabulary in
    let a = mentions (term_data c.args.input.now) in
    let b = mentions (term_data c.args.output.now) in
    record { known = right_right P a b (right_left P (a ++ b) (mentions_of_some (option_map written.goal_data c.args.goal.now)) c.requires.known) }

pub some_goal_of-requires : goal.some_goal_of-requires
some_goal_of-requires c =
    let P = IsUnknown c.args.sig.now c.args.names.now.vocabulary in
    let a = mentions (term_data c.args.input.now) in
    let b = mentions (term_data c.args.output.now) in
    record { known = right_right P (a ++ b) (mentions_of_some (option_map written.goal_data c.args.goal.now)) c.requires.known }

pub returns : goal.returns
returns c = λ ls.
    sides_are c.args.sig.now c.args.names.now (term_data c.args.input.now) (term_data c.args.output.now) (option_map written.goal_data c.args.goal.now) ls
    c.new-scope.result c.describe.new.scope c.describe-2.new.scope c.some_goal_of.new.scope (description c.in_ok-input.input) (description c.in_ok-output.output) (option_map goal_data c.in_ok-goal.goal) c.in_ok-slots.slots
    c.new-scope.ensures c.in_ok-input.ensures c.in_ok-output.ensures c.in_ok-goal.ensures (c.in_ok-slots.ensures ∙ c.count.ensures)
