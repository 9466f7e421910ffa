use Rattle.std.proofs.Common.{ap}
use Rattle.ale_macro.specs.Slots.{numbered}
use Rattle.ale_expansion.specs.Walking.{base, goes_on, scope_at}
use Rattle.ale_expansion.proofs.Walks.{projection_inside, projection_is, all_known}
use Rattle.ale_expansion.proofs.walk.Walk.call.Goals as goal

pub bounds-args-parameter : goal.bounds-args-parameter
bounds-args-parameter c = projection_inside c.args.self.now.library.now c.args.number c.args.callee c.in-Some.parameter c.args.args.now c.in-Some.ensures c.requires.known

pub returns-in-Some-clause-kept : goal.returns-in-Some-clause-kept
returns-in-Some-clause-kept c = record {
  grounded = c.requires.grounded;
  looks = (c.requires.inside, all_known c.args.self.now.library.now.macros c.args.args.now c.in-Some.parameter c.index-args-parameter.result c.requires.known.2 (projection_inside c.args.self.now.library.now c.args.number c.args.callee c.in-Some.parameter c.args.args.now c.in-Some.ensures c.requires.known) c.index-args-parameter.is);
}

pub returns-in-Some-clause-value : goal.returns-in-Some-clause-value
returns-in-Some-clause-value c =
    ap (λ e. goes_on c.args.self.now (numbered c.args.self.now.met.variables e))
    (projection_is c.args.self.now.library.now (scope_at (base c.args.self.now).scopes c.args.frame) c.args.number c.args.callee c.in-Some.parameter c.args.args.now c.index-args-parameter.result c.in-Some.ensures c.requires.known c.index-args-parameter.is)
