use Rattle.ale_term.specs.Terms.{term_data}
use Rattle.ale_describe.proofs.Knowing.{known_term}
use Rattle.ale_describe.proofs.grammar.macro_of.Goals as goal

pub templated-requires : goal.templated-requires
templated-requires c = known_term c.args.sig.now c.args.vocabulary.now (term_data c.args.body.now) c.requires.known
