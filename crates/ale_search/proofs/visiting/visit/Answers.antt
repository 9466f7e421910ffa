use Rattle.std.proofs.Common.{◌≡◌, ◌∷◌, [], List, Some, length, refl, sym, ap, ◌∙◌, arith}
use Rattle.ale_hierarchy.specs.Order.{hierarchy}
use Rattle.ale_graph.specs.Closure.{close}
use Rattle.ale_engine.specs.Engine.{Visit, answers}
use Rattle.ale_logic.specs.States as plain
use Rattle.ale_logic.specs.Visits.{Answer}
use Rattle.ale_logic.specs.WellFormed.{scope_of}
use Rattle.ale_search.specs.Views.{item_of, agenda_of, state_of, states_of}
use Rattle.ale_search.proofs.Turned.{turned_push, empty_agenda}
use Rattle.ale_search.proofs.Visits.{known_last, visit_answers, visit_goes}
use Rattle.ale_search.proofs.visiting.visit.Goals as goal

pub kids_of-requires : goal.kids_of-requires
kids_of-requires c = known_last (hierarchy c.args.sig.now) (scope_of (state_of c.args.state)) c.args.state.agenda.items c.pop.new.self.items c.in-Some-pop.item c.in-Some-pop.ensures.items c.requires.items

pub returns-in-None : goal.returns-in-None
returns-in-None c =
    let h = hierarchy c.args.sig.now in
    let st = c.args.state in
    let closed : close h st.facts.items st.next ≡ Some c.in-Some.closed =
    ap (λ z. close h z st.next) (sym c.as_slice.ensures.value) ∙ sym c.in_ok-closed.ensures ∙ c.in-Some.is in
    let before : agenda_of st.agenda.items ≡ [] = empty_agenda st.agenda.items (omega (arith, st.agenda.ok.0, c.in-None.ensures.cases.0)) in
    let after : agenda_of c.pop.new.self.items ≡ [] = empty_agenda c.pop.new.self.items (omega (arith, c.pop.new.self.ok.0, c.in-None.ensures.cases.1)) in
    ap (λ (z : List plain.Item). let a : Visit plain.State Answer = answers (record { closed = c.in-Some.closed; state = record (state_of st) { agenda = z } }) in a) (after ∙ sym before)
    ∙ visit_answers h c.args.waiting (state_of st) c.in-Some.closed refl closed before

pub returns-in_ok-kids_of-in-Some-pop : goal.returns-in_ok-kids_of-in-Some-pop
returns-in_ok-kids_of-in-Some-pop c =
    let h = hierarchy c.args.sig.now in
    let st = c.args.state in
    let closed : close h st.facts.items st.next ≡ Some c.in-Some.closed =
    ap (λ z. close h z st.next) (sym c.as_slice.ensures.value) ∙ sym c.in_ok-closed.ensures ∙ c.in-Some.is in
    let agenda : agenda_of st.agenda.items ≡ item_of c.in-Some-pop.item ∷ agenda_of c.pop.new.self.items =
    ap agenda_of c.in-Some-pop.ensures.items ∙ turned_push item_of c.pop.new.self.items c.in-Some-pop.item [] in
    visit_goes h c.args.waiting (state_of st) c.in-Some.closed c.in-Some-pop.item (agenda_of c.pop.new.self.items) (states_of c.in_ok-kids_of-in-Some-pop.field-0.items) refl closed agenda c.in_ok-kids_of-in-Some-pop.ensures
