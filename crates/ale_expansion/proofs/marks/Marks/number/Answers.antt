use Rattle.std.proofs.Common.{◌∙◌}
use Rattle.ale_expansion.proofs.Numbering.{insert_is, place_is}
use Rattle.ale_expansion.proofs.marks.Marks.number.Goals as goal

pub returns-clause-number : goal.returns-clause-number
returns-clause-number c = rw (← c.self.view_is) (c.in_ok-number.ensures.index ∙ place_is c.self.inside.set.keys c.args.mark)

pub returns-clause-added : goal.returns-clause-added
returns-clause-added c = rw (← c.self.view_is) (c.in_ok-number.ensures.keys ∙ insert_is c.self.inside.set.keys c.args.mark)
