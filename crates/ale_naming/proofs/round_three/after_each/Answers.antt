use Rattle.std.proofs.Common.{Some, map}
use Rattle.ale_term.specs.Terms.{term_data}
use Rattle.ale_describe.specs.Limits.{sum_after}
use Rattle.ale_naming.proofs.Adding.{terms_known, terms_go, terms_stop}
use Rattle.ale_naming.proofs.round_three.after_each.Goals as goal

pub returns-in-None : goal.returns-in-None
returns-in-None c =
    terms_stop c.args.sig.now c.args.names.now c.loop-term.sum c.args.terms.now c.loop-term.term-index c.term-item.result c.in_ok-after.field-0
    (sum_after c.args.sig.now c.args.names.now (Some c.args.so_far) (map term_data c.args.terms.now)) c.loop-term-test.true c.term-item.is c.loop-term.invariant.so_far c.in_ok-after.ensures c.in-None.is

pub loop-term-preserved : goal.loop-term-preserved
loop-term-preserved c = record {
  known = (terms_known c.args.sig.now c.args.names.now.vocabulary c.args.terms.now c.loop-term.term-index c.term-item.result c.loop-term-test.true c.term-item.is c.loop-term.invariant.known).1;
  so_far = terms_go c.args.sig.now c.args.names.now c.loop-term.sum c.in-Some.after c.args.terms.now c.loop-term.term-index c.term-item.result c.in_ok-after.field-0
      (sum_after c.args.sig.now c.args.names.now (Some c.args.so_far) (map term_data c.args.terms.now)) c.loop-term-test.true c.term-item.is c.loop-term.invariant.so_far c.in_ok-after.ensures c.in-Some.is;
}
