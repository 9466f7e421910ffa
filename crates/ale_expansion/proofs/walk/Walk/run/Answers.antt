use Rattle.std.proofs.Common.{sym, ap, ◌∙◌}
use Rattle.ale_logic.specs.Descriptions.{description}
use Rattle.ale_expansion.specs.Walking.{Found, base, plug, whole}
use Rattle.ale_expansion.proofs.Steps.{plug_push, last_rest}
use Rattle.ale_expansion.proofs.walk.Walk.run.Goals as goal
use Rattle.ale_expansion.proofs.walk.Walk.run.Goals.{in-Look+in_ok-now-in-Look, in-Have+in-Some+in_ok-now-in-Some}

pub resume-requires-clause-grounded : goal.resume-requires-clause-grounded
resume-requires-clause-grounded c = record {
  frames = c.steps.invariant.kept.grounded.frames;
  rests = (last_rest c.steps.self c.pop.new.self.items c.in-Some.rest c.steps.invariant.kept.grounded c.in-Some.ensures.items).0;
}

pub resume-requires-clause-rest : goal.resume-requires-clause-rest
resume-requires-clause-rest c = (last_rest c.steps.self c.pop.new.self.items c.in-Some.rest c.steps.invariant.kept.grounded c.in-Some.ensures.items).1

pub steps-preserved : goal.steps-preserved
steps-preserved c =
    let s = c.steps.self in
    elim c.match-now.branch [
      | in-Look+in_ok-now-in-Look w ↦
          rw (w.self-is, w.now-is) (record {
            kept = w.in_ok-now-in-Look.ensures.kept;
            value = w.in_ok-now-in-Look.ensures.value ∙ (sym (ap (whole s) w.in-Look.is) ∙ c.steps.invariant.value);
          })
      | in-Have+in-Some+in_ok-now-in-Some w ↦
          let found : Found = (description w.in-Have.desc, s.met.variables) in
          rw (w.self-is, w.now-is) (record {
            kept = w.in_ok-now-in-Some.ensures.kept;
            value =
                w.in_ok-now-in-Some.ensures.value
                ∙ (sym (plug_push (base s) w.pop.new.self.items w.in-Some.rest found)
                ∙ (sym (ap (λ ks. plug (base s) ks found) w.in-Some.ensures.items)
                ∙ (sym (ap (whole s) w.in-Have.is) ∙ c.steps.invariant.value)));
          })
    ]
