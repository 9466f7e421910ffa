use Rattle.std.proofs.Common.{map}
use Rattle.ale_term.specs.Terms.{term_data}
use Rattle.ale_describe.proofs.Knowing.{known_each}
use Rattle.ale_describe.proofs.names.Names.describe_each.Goals as goal

pub each_described-requires : goal.each_described-requires
each_described-requires c = record { known = known_each c.args.sig.now c.args.self.now.vocabulary (map term_data c.args.terms.now) c.requires.known }
