use Rattle.std.proofs.Common.{Some, map}
use Rattle.ale_declaration.specs.Declarations.{element_data}
use Rattle.ale_describe.specs.Limits.{sum_after}
use Rattle.ale_naming.specs.Faults.{descriptions_in_elements}
use Rattle.ale_naming.proofs.Adding.{elements_known, elements_go, elements_stop}
use Rattle.ale_naming.proofs.round_three.after_elements.Goals as goal

pub returns-in-None : goal.returns-in-None
returns-in-None c =
    elements_stop c.args.sig.now c.args.names.now c.loop-element.sum c.args.elements.now c.loop-element.element-index c.element-item.result c.in_ok-after.field-0
    (sum_after c.args.sig.now c.args.names.now (Some c.args.so_far) (descriptions_in_elements (map element_data c.args.elements.now))) c.loop-element-test.true c.element-item.is c.loop-element.invariant.so_far c.in_ok-after.ensures c.in-None.is

pub loop-element-preserved : goal.loop-element-preserved
loop-element-preserved c = record {
  known = (elements_known c.args.sig.now c.args.names.now.vocabulary c.args.elements.now c.loop-element.element-index c.element-item.result c.loop-element-test.true c.element-item.is c.loop-element.invariant.known).1;
  so_far = elements_go c.args.sig.now c.args.names.now c.loop-element.sum c.in-Some.after c.args.elements.now c.loop-element.element-index c.element-item.result c.in_ok-after.field-0
      (sum_after c.args.sig.now c.args.names.now (Some c.args.so_far) (descriptions_in_elements (map element_data c.args.elements.now))) c.loop-element-test.true c.element-item.is c.loop-element.invariant.so_far c.in_ok-after.ensures c.in-Some.is;
}
