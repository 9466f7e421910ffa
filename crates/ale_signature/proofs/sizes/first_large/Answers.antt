use Rattle.std.proofs.Common.{◌∙◌, sym, ap}
use Rattle.std.specs.Option.{option_map}
use Rattle.ale_hierarchy.specs.declared.fault.Fault.TheVariants.{FillTooLarge}
use Rattle.ale_signature.proofs.StageFaults.{fill_is}
use Rattle.ale_signature.proofs.sizes.first_large.Goals as goal

pub returns-in-Some : goal.returns-in-Some
returns-in-Some c =
    let is = rw c.as_slice.ensures.value at c.first_unknown.ensures in
    sym (fill_is c.args.order.now c.in_ok-sizes.sizes.items c.in_ok-sizes.ensures.len c.in_ok-sizes.ensures.small c.in_ok-sizes.ensures.large
    ∙ ap (option_map FillTooLarge) (sym is ∙ c.in-Some.is))

pub returns : goal.returns
returns c =
    let is = rw c.as_slice.ensures.value at c.first_unknown.ensures in
    sym (fill_is c.args.order.now c.in_ok-sizes.sizes.items c.in_ok-sizes.ensures.len c.in_ok-sizes.ensures.small c.in_ok-sizes.ensures.large
    ∙ ap (option_map FillTooLarge) (sym is ∙ c.in-None.is))
