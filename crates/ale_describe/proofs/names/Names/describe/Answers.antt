use Rattle.ale_term.specs.Terms.{term_data}
use Rattle.ale_describe.proofs.Knowing.{known_term}
use Rattle.ale_describe.proofs.names.Names.describe.Goals as goal

pub described-requires : goal.described-requires
described-requires c = record { known = known_term c.args.sig.now c.args.self.now.vocabulary (term_data c.args.term.now) c.requires.known }
