use Rattle.std.proofs.Common.{sym, ap, ◌∙◌, subst, length}
use Rattle.ale_macro.specs.Templates.{template_data}
use Rattle.ale_macro.specs.Expanding.{list_of}
use Rattle.ale_macro.specs.Slots.{numbered}
use Rattle.ale_expansion.specs.declared.rest.Rest.TheVariants as rest
use Rattle.ale_expansion.specs.Walking.{base, stands, all_stand, plug, AreRests}
use Rattle.ale_expansion.proofs.Steps.{plug_push, rests_more}
use Rattle.ale_expansion.proofs.walk.Walk.next_cells.Goals as goal

pub cells-requires-clause-grounded : goal.cells-requires-clause-grounded
cells-requires-clause-grounded c =
    let w = c.args.self.now in
    record {
      frames = c.requires.grounded.frames;
      rests = subst (AreRests w.library.now.macros (length w.frames.items)) (sym c.in_ok-push.ensures.items) (rests_more w.library.now.macros (length w.frames.items) w.rests.items (rest.Tail c.args.member) c.requires.grounded.rests tt);
    }

pub returns-clause-value : goal.returns-clause-value
returns-clause-value c =
    let w = c.args.self.now in
    let found = numbered w.met.variables (list_of w.library.now.lists (all_stand (base w) c.args.frame c.args.members.now) (stands (base w) c.args.frame (template_data c.args.end.now))) in
    c.in_ok-now.ensures.value ∙ (ap (λ ks. plug (base w) ks found) c.in_ok-push.ensures.items ∙ plug_push (base w) w.rests.items (rest.Tail c.args.member) found)
