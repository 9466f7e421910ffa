use Rattle.std.proofs.Common.{◌≡◌, ◌+◌, ◌-◌, ◌++◌, drop, map, subst, refl, arith}
use Rattle.ale_logic.specs.GoalKids.{goals}
use Rattle.ale_program.specs.Goals.{goal_data, goals_of}
use Rattle.ale_visit.specs.Views.{agenda_of}
use Rattle.ale_visit.proofs.Turned.{pushed_goal}
use Rattle.ale_visit.proofs.goals.push_goals.Goals as goal

pub loop-left-preserved : goal.loop-left-preserved
loop-left-preserved c =
    let e = c.args.env in
    let n = c.args.cut in
    let gs = c.args.parts.now in
    let k = c.loop-left.left - 1 in
    let rest = agenda_of c.args.agenda.now.items in
    let at : c.loop-left.left ≡ k + 1 = omega arith in
    let before : agenda_of c.loop-left.agenda.items ≡ goals e n (goals_of (map goal_data (drop (k + 1) gs))) ++ rest =
    subst (λ z. agenda_of c.loop-left.agenda.items ≡ goals e n (goals_of (map goal_data (drop z gs))) ++ rest) at c.loop-left.invariant.1 in
    (omega arith, rw c.in_ok-push.ensures.items (pushed_goal e n gs k c.index-parts-left.result _ c.loop-left.agenda.items rest (omega arith) c.index-parts-left.is refl before))
