use Rattle.ale_expansion.proofs.Slotting.{slot_law}
use Rattle.ale_expansion.proofs.met.Met.slot.Goals as goal

pub invariant_of-self-2 : goal.invariant_of-self-2
invariant_of-self-2 c = (slot_law c.self.inside.calls c.self.inside.slots c.number.new.self c.in_ok-slot.slot c.args.self.now (record { path = c.args.path; number = c.args.number }) c.self.view_is c.self.invariant c.requires.there c.in_ok-slot.ensures.number c.in_ok-slot.ensures.added).is

pub returns-clause-slot : goal.returns-clause-slot
returns-clause-slot c = (slot_law c.self.inside.calls c.self.inside.slots c.number.new.self c.in_ok-slot.slot c.args.self.now (record { path = c.args.path; number = c.args.number }) c.self.view_is c.self.invariant c.requires.there c.in_ok-slot.ensures.number c.in_ok-slot.ensures.added).slot

pub returns-clause-added : goal.returns-clause-added
returns-clause-added c = (slot_law c.self.inside.calls c.self.inside.slots c.number.new.self c.in_ok-slot.slot c.args.self.now (record { path = c.args.path; number = c.args.number }) c.self.view_is c.self.invariant c.requires.there c.in_ok-slot.ensures.number c.in_ok-slot.ensures.added).added
