use Rattle.std.proofs.Common.{map}
use Rattle.ale_term.specs.Terms.{term_data}
use Rattle.ale_declaration.specs.Declarations as declaration
use Rattle.ale_vocabulary.specs.Knowing.{IsUnknown}
use Rattle.ale_vocabulary.specs.Mentions.{mentions, mentions_of_elements}
use Rattle.ale_describe.proofs.Knowing.{right_left, right_right}
use Rattle.ale_grammar.proofs.making.rule_of.Goals as goal

pub describe-requires : goal.describe-requires
describe-requires c = record {
  known = right_left (IsUnknown c.args.sig.now c.args.names.now.vocabulary) (mentions (term_data c.args.mother.now)) (mentions_of_elements (map declaration.element_data c.args.parts.now)) c.requires.known;
}

pub elements_of-requires : goal.elements_of-requires
elements_of-requires c = record {
  known = right_right (IsUnknown c.args.sig.now c.args.names.now.vocabulary) (mentions (term_data c.args.mother.now)) (mentions_of_elements (map declaration.element_data c.args.parts.now)) c.requires.known;
}
