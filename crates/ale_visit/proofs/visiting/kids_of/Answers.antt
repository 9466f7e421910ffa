use Rattle.std.proofs.Common.{◌≡◌, ap, ◌∙◌, sym, IfOk}
use Rattle.std.specs.Prelude.{ℕ}
use Rattle.ale_graph.specs.declared.closed.Closed.{Closed}
use Rattle.ale_logic.specs.States.{on, numbered}
use Rattle.ale_logic.specs.DescriptionKids.{taken}
use Rattle.ale_logic.specs.Visits.{kids, closed_at}
use Rattle.ale_visit.specs.Views.{grammar, demand_of, item_of, agenda_of, state_of, states_of}
use Rattle.ale_visit.proofs.Visits.{ok_at}
use Rattle.ale_visit.proofs.visiting.kids_of.Goals as goal

pub returns-in-On : goal.returns-in-On
returns-in-On c =
    let gr = grammar c.args.program.now in
    let st = closed_at c.args.closed (agenda_of c.args.state.agenda.items) (state_of c.args.state) in
    ok_at c.demanded.result
    (λ v. (waiting : ℕ) (d : Closed) → states_of v.items ≡ numbered 0 (kids gr waiting d (on c.in-On.node (demand_of c.in-On.demand)) (state_of c.at_closure.result)))
    (λ v. states_of v.items ≡ numbered 0 (kids gr c.args.waiting c.args.closed (item_of c.args.item) st))
    (λ v p.
    p c.args.waiting c.args.closed
    ∙ ap (λ z. numbered 0 (kids gr c.args.waiting c.args.closed (on c.in-On.node (demand_of c.in-On.demand)) z)) c.at_closure.ensures
    ∙ ap (λ z. numbered 0 (kids gr c.args.waiting c.args.closed (item_of z) st)) (sym c.in-On.is))
    c.demanded.ensures

pub returns-in-Take : goal.returns-in-Take
returns-in-Take c =
    let gr = grammar c.args.program.now in
    let st = closed_at c.args.closed (agenda_of c.args.state.agenda.items) (state_of c.args.state) in
    ok_at c.taken.result
    (λ v. states_of v.items ≡ numbered 0 (taken (demand_of c.in-Take.demand) c.value_at-value.result (state_of c.at_closure-in-Take.result)))
    (λ v. states_of v.items ≡ numbered 0 (kids gr c.args.waiting c.args.closed (item_of c.args.item) st))
    (λ v p.
    p
    ∙ ap (λ z. numbered 0 (taken (demand_of c.in-Take.demand) c.value_at-value.result z)) c.at_closure-in-Take.ensures
    ∙ ap (λ z. numbered 0 (taken (demand_of c.in-Take.demand) z st)) c.value_at-value.ensures
    ∙ ap (λ z. numbered 0 (kids gr c.args.waiting c.args.closed (item_of z) st)) (sym c.in-Take.is))
    c.taken.ensures
