use Rattle.std.proofs.Common.{sym, ap, ◌∙◌, subst, length}
use Rattle.ale_macro.specs.Templates.{template_data}
use Rattle.ale_macro.specs.Slots.{numbered}
use Rattle.ale_expansion.specs.Walking.{base, stands, plug, AreRests}
use Rattle.ale_expansion.proofs.Steps.{plug_push, rests_more}
use Rattle.ale_expansion.proofs.walk.Walk.first.Goals as goal

pub returns-clause-kept : goal.returns-clause-kept
returns-clause-kept c =
    let w = c.args.self.now in
    record {
      grounded = record {
        frames = c.requires.grounded.frames;
        rests = subst (AreRests w.library.now.macros (length w.frames.items)) (sym c.in_ok-push.ensures.items) (rests_more w.library.now.macros (length w.frames.items) w.rests.items c.args.rest c.requires.grounded.rests c.requires.rest);
      };
      looks = (c.requires.inside, c.requires.known);
    }

pub returns-clause-value : goal.returns-clause-value
returns-clause-value c =
    let w = c.args.self.now in
    let found = numbered w.met.variables (stands (base w) c.args.frame (template_data c.args.written.now)) in
    ap (λ ks. plug (base w) ks found) c.in_ok-push.ensures.items ∙ plug_push (base w) w.rests.items c.args.rest found
