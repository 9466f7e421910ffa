use Rattle.std.proofs.Common.{true, false, sym, ◌∙◌}
use Rattle.ale_morphism.proofs.ReachSteps.{number_made}
use Rattle.ale_morphism.proofs.seen.number_after.Goals as goal

pub returns-then-flag_of-clause-number : goal.returns-then-flag_of-clause-number
returns-then-flag_of-clause-number c =
    number_made c.args.g.now c.args.flags.now c.args.node c.args.before true c.requires.flags c.requires.below (sym c.flag_of.ensures ∙ c.if-flag_of.true) c.requires.number

pub returns-else-flag_of-clause-number : goal.returns-else-flag_of-clause-number
returns-else-flag_of-clause-number c =
    number_made c.args.g.now c.args.flags.now c.args.node c.args.before false c.requires.flags c.requires.below (sym c.flag_of.ensures ∙ c.if-flag_of.false) c.requires.number
