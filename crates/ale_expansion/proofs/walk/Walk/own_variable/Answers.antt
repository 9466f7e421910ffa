use Rattle.ale_logic.specs.declared.desc.Desc.TheVariants as des
use Rattle.ale_logic.specs.Descriptions.{description}
use Rattle.ale_logic.proofs.Terms.{description_slot}
use Rattle.std.proofs.Common.{◌∙◌}
use Rattle.ale_expansion.proofs.Walks.{is_frame, own_is}
use Rattle.ale_expansion.proofs.walk.Walk.own_variable.Goals as goal

pub slot-requires : goal.slot-requires
slot-requires c = record { there = (is_frame c.args.self.now c.args.frame c.index-here.result.now c.requires.grounded c.requires.inside c.index-here.ensures).0 }

pub returns-clause-value : goal.returns-clause-value
returns-clause-value c =
    own_is c.args.self.now c.slot.new.self.paths c.slot.new.self.variables c.args.number c.args.frame c.in_ok-small.small (description (des.Slot c.in_ok-small.small)) c.index-here.result.now c.requires.grounded c.requires.inside c.index-here.ensures
    (c.requires.own c.index-here.result.now c.index-here.ensures) c.in_ok-slot.ensures.paths (description_slot c.in_ok-small.small) (c.in_ok-small.ensures ∙ c.in_ok-slot.ensures.slot) c.in_ok-slot.ensures.added
