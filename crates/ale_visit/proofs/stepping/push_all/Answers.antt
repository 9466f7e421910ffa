use Rattle.std.proofs.Common.{◌≡◌, ◌+◌, ◌-◌, ◌++◌, drop, map, subst, refl, arith}
use Rattle.ale_logic.specs.Descriptions.{description, descriptions_of}
use Rattle.ale_logic.specs.DescriptionKids.{items_at}
use Rattle.ale_visit.specs.Views.{agenda_of}
use Rattle.ale_visit.proofs.Turned.{pushed_at}
use Rattle.ale_visit.proofs.stepping.push_all.Goals as goal

pub loop-left-preserved : goal.loop-left-preserved
loop-left-preserved c =
    let e = c.args.env in
    let n = c.args.node in
    let ds = c.args.descs.now in
    let k = c.loop-left.left - 1 in
    let rest = agenda_of c.args.agenda.now.items in
    let at : c.loop-left.left ≡ k + 1 = omega arith in
    let before : agenda_of c.loop-left.agenda.items ≡ items_at e n (descriptions_of (map description (drop (k + 1) ds))) ++ rest =
    subst (λ z. agenda_of c.loop-left.agenda.items ≡ items_at e n (descriptions_of (map description (drop z ds))) ++ rest) at c.loop-left.invariant.1 in
    (omega arith, rw c.in_ok-push.ensures.items (pushed_at e n ds k c.index-descs-left.result _ c.loop-left.agenda.items rest (omega arith) c.index-descs-left.is refl before))
