use Rattle.std.proofs.Common.{ap, ◌∙◌, map}
use Rattle.ale_term.specs.Terms.{term_data}
use Rattle.ale_logic.specs.Descriptions.{description, descriptions_of}
use Rattle.ale_describe.specs.Describing.{each_described}
use Rattle.ale_describe.proofs.Each.{one_found, each_done, each_known_here}
use Rattle.ale_describe.proofs.names.Names.each_described.Goals as goal

pub loop-term-preserved : goal.loop-term-preserved
loop-term-preserved c =
    let d = c.args.sig.now in
    let names = c.args.self.now in
    record {
      so_far = one_found d names c.loop-term.scope c.described.new.scope c.args.terms.now c.loop-term.term-index c.term-item.result c.loop-term.found.items c.push.new.self.items c.in_ok-desc.desc
          (each_described d names c.args.scope.now (map term_data c.args.terms.now)) c.loop-term-test.true c.term-item.is c.loop-term.invariant.so_far c.in_ok-desc.ensures c.in_ok-push.ensures.items;
      known = (each_known_here d names.vocabulary c.args.terms.now c.loop-term.term-index c.term-item.result c.loop-term-test.true c.term-item.is c.loop-term.invariant.known).1;
    }

pub returns : goal.returns
returns c =
    ap (λ z. (descriptions_of (map description z), c.loop-term.scope)) c.of.ensures
    ∙ each_done c.args.sig.now c.args.self.now c.loop-term.scope c.args.terms.now c.loop-term.term-index c.loop-term.found.items
    (each_described c.args.sig.now c.args.self.now c.args.scope.now (map term_data c.args.terms.now)) c.loop-term-test.false c.loop-term.invariant.so_far
