use Rattle.std.proofs.Common.{ap, sym}
use Rattle.std.proofs.lemmas.Bool.{ltb-true}
use Rattle.ale_macro.specs.Slots.{numbered}
use Rattle.ale_expansion.specs.Walking.{goes_on}
use Rattle.ale_expansion.proofs.Walks.{argument_kept, argument_is}
use Rattle.ale_expansion.proofs.walk.Walk.variable.Goals as goal

pub returns-in-Some-clause-kept : goal.returns-in-Some-clause-kept
returns-in-Some-clause-kept c = record {
  grounded = c.requires.grounded;
  looks = argument_kept c.args.self.now c.args.number c.args.frame c.index-here.result.now c.in-Some.arg.now c.requires.grounded c.requires.inside c.index-here.ensures (ltb-true _ _ (sym c.in-Some.ensures.lookup.0)) c.in-Some.ensures.lookup.1;
}

pub returns-in-Some-clause-value : goal.returns-in-Some-clause-value
returns-in-Some-clause-value c =
    ap (λ e. goes_on c.args.self.now (numbered c.args.self.now.met.variables e))
    (argument_is c.args.self.now c.args.number c.args.frame c.index-here.result.now c.in-Some.arg.now c.requires.grounded c.requires.inside c.index-here.ensures (ltb-true _ _ (sym c.in-Some.ensures.lookup.0)) c.in-Some.ensures.lookup.1)
