use Rattle.std.proofs.Common.{◌≡◌, ◌≤◌, ◌+◌, ◌-◌, ◌++◌, [], refl, sym, ap, ◌∙◌, subst, arith, length, inl, inr}
use Rattle.std.specs.Prelude.{ℕ}
use Rattle.ale_logic.specs.Descriptions.{description}
use Rattle.ale_logic.specs.States as plain
use Rattle.ale_visit.specs.Views.{agenda_of}
use Rattle.ale_visit.proofs.Turned.{from_place, from_start, none_from, none_described, each_at}
use Rattle.ale_visit.proofs.goals.push_each.Goals as goal

pub loop-left-init : goal.loop-left-init
loop-left-init c =
    let e = c.args.env in
    let ds = c.args.descs.now in
    let k = c.fewer-left.result in
    let none : from_place e ds c.args.first c.args.count k ≡ [] = elim c.fewer-left.ensures.either [
      | inl same ↦ none_described e ds c.args.first c.args.count k (omega (arith, same))
      | inr same ↦ none_from e ds c.args.first c.args.count k (omega (arith, same))
    ] in
    (c.fewer-left.ensures.left, c.fewer-left.ensures.right, ap (λ z. z ++ agenda_of c.args.agenda.now.items) (sym none))

pub loop-left-preserved : goal.loop-left-preserved
loop-left-preserved c =
    let e = c.args.env in
    let ds = c.args.descs.now in
    let k = c.loop-left.left - 1 in
    let rest = agenda_of c.args.agenda.now.items in
    let at : c.loop-left.left ≡ k + 1 = omega arith in
    let before : agenda_of c.loop-left.agenda.items ≡ from_place e ds c.args.first c.args.count (k + 1) ++ rest =
    subst (λ z. agenda_of c.loop-left.agenda.items ≡ from_place e ds c.args.first c.args.count z ++ rest) at c.loop-left.invariant.2 in
    let number : c.in_ok-node.node ≡ c.args.first + k = c.in_ok-node.ensures in
    (omega arith, omega arith, rw c.in_ok-push.ensures.items (each_at e c.args.first c.args.count ds k c.index-descs-left.result _ c.loop-left.agenda.items rest (omega arith) (omega arith) c.index-descs-left.is (ap (λ (z : ℕ). plain.on z (plain.holds e (description c.index-descs-left.result))) number) before))

pub returns : goal.returns
returns c =
    c.loop-left.invariant.2 ∙ ap (λ z. z ++ agenda_of c.args.agenda.now.items) (from_start c.args.env c.args.descs.now c.args.first c.args.count c.loop-left.left c.loop-left-test.false)
