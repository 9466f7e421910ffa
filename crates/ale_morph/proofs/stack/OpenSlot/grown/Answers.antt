use Rattle.std.proofs.Common.{◌≡◌, ◌+◌, ◌<◌, ◌≤◌, Option, Some, length, take, drop, refl, subst, arith}
use Rattle.ale_morph.specs.Stack.{Open, grown}
use Rattle.ale_morph.proofs.Growing.{grown_at}
use Rattle.ale_morph.proofs.stack.OpenSlot.grown.Goals as goal

pub returns : goal.returns
returns c =
    let i = c.self.inside in
    let within : i.taken ≤ length i.rest.now = c.self.invariant in
    let less : i.taken < length i.rest.now = omega arith in
    subst (λ (o : Open). ◌≡◌ {A = Option Open} (Some (record { slot = i.slot; once = i.once; others = i.others.now; text = take (i.taken + 1) i.rest.now; left = drop (i.taken + 1) i.rest.now })) (grown o o.left))
    c.self.view_is (grown_at i.slot i.once i.others.now i.rest.now i.taken (i.taken + 1) less refl)
