use Rattle.std.proofs.Common.{◌<◌, arith, ◌∙◌}
use Rattle.ale_relation.specs.Rows.{holds}
use Rattle.ale_relation.proofs.Via.{via_first, via_more, via_all}
use Rattle.ale_relation.proofs.closure.reachability.Goals as goal

pub loop-middle-init : goal.loop-middle-init
loop-middle-init c = record {
  size = c.in_ok-relation.ensures.size;
  via = λ a b p q. via_first c.args.edges.now a b (holds c.in_ok-relation.relation a b) (c.in_ok-relation.ensures.has a b p q);
}

pub loop-middle-preserved : goal.loop-middle-preserved
loop-middle-preserved c =
    let m = c.loop-middle.middle in
    let now = c.loop-middle.relation in
    let via = c.loop-middle.invariant.via in
    let here : m < c.args.size = c.loop-middle-test.true in
    record {
      size = c.pass_through.ensures.size ∙ c.loop-middle.invariant.size;
      via = λ a b p q. via_more c.args.edges.now m a b (holds now a b) (holds now a m) (holds now m b) (holds c.pass_through.new.self a b) (via a b p q) (via a m p here) (via m b here q) (c.pass_through.ensures.passes a b (omega arith) (omega arith));
    }

pub returns-clause-leads : goal.returns-clause-leads
returns-clause-leads c =
    λ a b p q. via_all c.args.edges.now c.args.size c.loop-middle.middle a b (holds c.loop-middle.relation a b) c.requires.within (omega arith) (c.loop-middle.invariant.via a b p q)
