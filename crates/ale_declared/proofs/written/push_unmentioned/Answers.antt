use Rattle.std.proofs.Common.{◌<◌, sym, ap, ◌∙◌, length, arith}
use Rattle.ale_declared.specs.Names.{is_named}
use Rattle.ale_declared.proofs.TopLemmas.{skip_step, take_step}
use Rattle.ale_declared.proofs.written.push_unmentioned.Goals as goal
use Rattle.ale_declared.proofs.written.push_unmentioned.Goals.{then-not-has+in_ok-push, else-not-has}

pub loop-t-preserved : goal.loop-t-preserved
loop-t-preserved c =
    let below : c.loop-t.t < length c.args.types.now = omega arith in
    let past : 0 < c.loop-t.t = omega arith in
    elim c.if-not-has.branch [
      | then-not-has+in_ok-push w ↦
          take_step c.args.types.now c.args.subs.now c.loop-t.t c.loop-t.edges.items c.if-not-has.edges.items _
          c.requires.distinct c.requires.first past below
          (ap (λ x. is_named x c.args.subs.now) (sym c.name.ensures.value) ∙ sym c.has.ensures ∙ w.if-not-has.true)
          (ap (λ v. v.items) w.edges-is ∙ w.in_ok-push.ensures.items)
          c.loop-t.invariant
      | else-not-has w ↦
          skip_step c.args.types.now c.args.subs.now c.loop-t.t c.loop-t.edges.items c.if-not-has.edges.items _
          below
          (ap (λ x. is_named x c.args.subs.now) (sym c.name.ensures.value) ∙ sym c.has.ensures ∙ w.if-not-has.false)
          (ap (λ v. v.items) w.edges-is)
          c.loop-t.invariant
    ]
