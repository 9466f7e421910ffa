use Rattle.std.proofs.Common.{◌≡◌, ◌∷◌, [], sym, ap, ◌∙◌}
use Rattle.std.specs.Prelude.{ℕ}
use Rattle.ale_hierarchy.specs.Order.{hierarchy}
use Rattle.ale_engine.specs.Engine.{Visit, goes}
use Rattle.ale_logic.specs.States.{State}
use Rattle.ale_logic.specs.Visits.{Answer, stay, visit_item}
use Rattle.ale_logic.specs.WellFormed.{scope_of}
use Rattle.ale_visit.specs.Views.{grammar, item_of, agenda_of, state_of, states_of}
use Rattle.ale_visit.proofs.Turned.{turned_push}
use Rattle.ale_visit.proofs.Visits.{known_last}
use Rattle.ale_visit.proofs.visiting.visit_item.Goals as goal

pub kids_of-requires : goal.kids_of-requires
kids_of-requires c = known_last (hierarchy c.args.program.now.signature) (scope_of (state_of c.args.state)) c.args.state.agenda.items c.pop.new.self.items c.in-Some.item c.in-Some.ensures.items c.requires.items

pub returns-in_ok-kids-in-Some : goal.returns-in_ok-kids-in-Some
returns-in_ok-kids-in-Some c =
    let st = c.args.state in
    let gr = grammar c.args.program.now in
    let item = item_of c.in-Some.item in
    let kids = states_of c.in_ok-kids-in-Some.kids.items in
    let agenda : agenda_of st.agenda.items ≡ item ∷ agenda_of c.pop.new.self.items =
    ap agenda_of c.in-Some.ensures.items ∙ turned_push item_of c.pop.new.self.items c.in-Some.item [] in
    ap (λ (n : ℕ). let v : Visit State Answer = goes n kids in v) c.stay-stay.ensures
    ∙ ap (goes (stay c.args.waiting item)) c.in_ok-kids-in-Some.ensures
    ∙ sym (ap (λ z. visit_item gr c.args.waiting c.args.closed z (state_of st)) agenda)
