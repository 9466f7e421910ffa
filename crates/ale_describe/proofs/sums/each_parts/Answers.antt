use Rattle.std.proofs.Common.{map, ◌∙◌}
use Rattle.ale_term.specs.Terms.{term_data}
use Rattle.ale_describe.specs.Limits.{sum_after}
use Rattle.ale_describe.proofs.Adding.{each_step, each_end}
use Rattle.ale_describe.proofs.Each.{each_known_here}
use Rattle.ale_describe.proofs.sums.each_parts.Goals as goal

pub loop-term-preserved : goal.loop-term-preserved
loop-term-preserved c =
    let d = c.args.sig.now in
    let names = c.args.names.now in
    record {
      so_far = each_step d names c.loop-term.sum c.args.terms.now c.loop-term.term-index c.term-item.result c.in_ok-sum.sum
          (sum_after d names c.args.before (map term_data c.args.terms.now)) c.loop-term-test.true c.term-item.is c.loop-term.invariant.so_far c.in_ok-sum.ensures;
      known = (each_known_here d names.vocabulary c.args.terms.now c.loop-term.term-index c.term-item.result c.loop-term-test.true c.term-item.is c.loop-term.invariant.known).1;
    }

pub returns : goal.returns
returns c =
    c.limited.ensures
    ∙ each_end c.args.sig.now c.args.names.now c.loop-term.sum c.args.terms.now c.loop-term.term-index (sum_after c.args.sig.now c.args.names.now c.args.before (map term_data c.args.terms.now))
    c.loop-term-test.false c.loop-term.invariant.so_far
