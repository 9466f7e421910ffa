use Rattle.std.proofs.Common.{◌≡◌, ◌<◌, ◌∙◌, sym, length, arith}
use Rattle.std.proofs.lemmas.List.{get_or_read}
use Rattle.ale_hierarchy.proofs.WitnessLemmas.{comparable_join}
use Rattle.ale_hierarchy.proofs.LackingLemmas.{lacking_nothing, lacking_outside}
use Rattle.ale_hierarchy.proofs.lacking.Ranked.lacks_join.Goals as goal

pub returns-then-are_comparable : goal.returns-then-are_comparable
returns-then-are_comparable c =
    sym (comparable_join c.args.order.now c.args.a c.args.b c.are_comparable.ensures.ordered c.requires.a c.requires.b (sym c.are_comparable.ensures.value ∙ c.if-are_comparable.true))

pub returns-in-Some : goal.returns-in-Some
returns-in-Some c =
    let d = c.args.order.now in
    let types = c.args.self.now.types.items in
    let places = c.args.self.now.places in
    let place = c.in-Some.place in
    let size : places.size ≡ length d.types = c.requires.ranked.told.size in
    let long : length types ≡ length d.types = c.requires.ranked.order.count in
    let low : place < places.size = c.in-Some.ensures.some.below in
    lacking_outside d types places c.args.a c.args.b c.index.result.now place c.has_common_outside.result c.are_comparable.ensures.ordered c.requires.ranked c.requires.a c.requires.b
    (get_or_read types place c.index.result.now (omega arith) c.index.ensures 0) c.in-Some.ensures.some c.has_common_outside.ensures

pub returns-in-None : goal.returns-in-None
returns-in-None c =
    lacking_nothing c.args.order.now c.args.self.now.types.items c.args.self.now.places c.args.a c.args.b c.are_comparable.ensures.ordered c.requires.ranked c.requires.a c.requires.b c.in-None.ensures.none
