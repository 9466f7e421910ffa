use Rattle.std.proofs.Common.{map}
use Rattle.ale_declaration.specs.Declarations as declaration
use Rattle.ale_grammar.specs.Programs.{elements_described}
use Rattle.ale_grammar.proofs.Going.{one_element, elements_known}
use Rattle.ale_grammar.proofs.making.elements_of.Goals as goal

pub element_of-requires : goal.element_of-requires
element_of-requires c = record {
  known = (elements_known c.args.sig.now c.args.names.now.vocabulary c.args.parts.now c.loop-part.part-index c.part-item.result c.loop-part-test.true c.part-item.is c.loop-part.invariant.known).0;
}

pub loop-part-preserved : goal.loop-part-preserved
loop-part-preserved c = record {
  so_far = one_element c.args.sig.now c.args.names.now c.loop-part.scope c.element_of.new.scope c.args.parts.now c.loop-part.part-index c.part-item.result c.loop-part.found.items c.push.new.self.items c.in_ok-element.element
      (elements_described c.args.sig.now c.args.names.now c.args.scope.now (map declaration.element_data c.args.parts.now)) c.loop-part-test.true c.part-item.is c.loop-part.invariant.so_far c.in_ok-element.ensures c.in_ok-push.ensures.items;
  known = (elements_known c.args.sig.now c.args.names.now.vocabulary c.args.parts.now c.loop-part.part-index c.part-item.result c.loop-part-test.true c.part-item.is c.loop-part.invariant.known).1;
}
