use Rattle.std.proofs.Common.{◌≡◌, rules}
use Rattle.ale_hierarchy.specs.Order.{hierarchy}
use Rattle.ale_morphism.specs.Walking.{targets}
use Rattle.ale_morphism.proofs.MapSteps.{map_agrees, none_from}
use Rattle.ale_morphism.proofs.subsumption.subsumes.Goals as goal

pub returns-then-is_morphism-clause-only : goal.returns-then-is_morphism-clause-only
returns-then-is_morphism-clause-only c =
    let map : c.in_ok-map.map.items ≡ targets c.args.g.now c.in-Some.walk.images.items = search rules in
    map_agrees c.args.f.now c.args.g.now c.in-Some.walk.images.items (search rules) c.in_ok-map.map.items map (hierarchy c.args.sig.now)

pub returns-clause-none : goal.returns-clause-none
returns-clause-none c = λ e.
    (let map : c.in_ok-map.map.items ≡ targets c.args.g.now c.in-Some.walk.images.items = search rules in
    none_from c.args.f.now c.args.g.now c.in-Some.walk.images.items (search rules) c.match_from_roots.ensures.formed c.in_ok-map.map.items map (hierarchy c.args.sig.now) c.is_morphism.result (search rules) c.if-is_morphism.false)
