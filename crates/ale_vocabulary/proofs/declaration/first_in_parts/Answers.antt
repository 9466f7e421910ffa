use Rattle.ale_vocabulary.specs.First.{first_of}
use Rattle.ale_vocabulary.specs.Knowing.{unknown_in}
use Rattle.ale_vocabulary.proofs.Describing.{each_stops, each_goes}
use Rattle.ale_vocabulary.proofs.Proving.{mentions_of_part, mentions_of_parts, element_parts}
use Rattle.ale_vocabulary.proofs.declaration.first_in_parts.Goals as goal

pub returns-in-Some : goal.returns-in-Some
returns-in-Some c =
    each_stops (unknown_in c.args.sig.now c.args.vocabulary.now) mentions_of_part mentions_of_parts element_parts c.args.parts.now c.loop-part.part-index c.part-item.result
    c.in_ok-fault.field-0 (first_of (unknown_in c.args.sig.now c.args.vocabulary.now) (mentions_of_parts c.args.parts.now)) c.in-Some.fault
    c.loop-part-test.true c.part-item.is c.in_ok-fault.ensures c.in-Some.is c.loop-part.invariant

pub loop-part-preserved : goal.loop-part-preserved
loop-part-preserved c =
    each_goes (unknown_in c.args.sig.now c.args.vocabulary.now) mentions_of_part mentions_of_parts element_parts c.args.parts.now c.loop-part.part-index c.part-item.result
    c.in_ok-fault.field-0 (first_of (unknown_in c.args.sig.now c.args.vocabulary.now) (mentions_of_parts c.args.parts.now))
    c.loop-part-test.true c.part-item.is c.in_ok-fault.ensures c.in_default.is c.loop-part.invariant
