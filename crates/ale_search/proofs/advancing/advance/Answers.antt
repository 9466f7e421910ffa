use Rattle.std.proofs.Common.{◌≡◌, ◌-◌, ◌<◌, ◌++◌, length, arith, inl, inr, refl, sym, ap, ◌∙◌, subst}
use Rattle.ale_engine.specs.Engine.{last}
use Rattle.ale_logic.specs.Visits.{visit}
use Rattle.ale_visit.specs.Views.{grammar, state_of, states_of, visited_of}
use Rattle.ale_search.specs.declared.answers.Next.TheVariants.{Found}
use Rattle.ale_search.specs.Searches.{halt_of, waits_in, left_in}
use Rattle.ale_search.specs.Waiting.{waiting_of}
use Rattle.ale_search.proofs.Stacked.{length_waiting, last_waiting}
use Rattle.ale_search.proofs.Onward.{Underway, is_grammar, answered, gone, popped, not_none, at_budget}
use Rattle.ale_search.proofs.advancing.advance.Goals as goal

pub visit-requires : goal.visit-requires
visit-requires c =
    (popped (grammar c.args.program.now) c.args.left.now (waiting_of c.args.waiting.now.items) c.loop-left.left c.loop-left.waiting.items c.pop.new.self.items c.in-Some.state c.in-Some.ensures.items c.loop-left.invariant).states (state_of c.in-Some.state) (inl refl)

pub returns-in-Answers-clause-halts : goal.returns-in-Answers-clause-halts
returns-in-Answers-clause-halts c =
    let gr = grammar c.args.program.now in
    let first = waiting_of c.args.waiting.now.items in
    let below = c.pop.new.self.items in
    let u = popped gr c.args.left.now first c.loop-left.left c.loop-left.waiting.items below c.in-Some.state c.in-Some.ensures.items c.loop-left.invariant in
    let size : c.len.result ≡ length (waiting_of below) = let l = length_waiting below in omega (arith, l, c.len.ensures, c.pop.new.self.ok.0) in
    let e = ap visited_of (sym c.in-Answers.is) ∙ c.in_ok-closed.ensures ∙ ap (λ n. visit gr n (state_of c.in-Some.state)) size in
    ap Found c.tell.ensures
    ∙ ap halt_of (answered gr c.args.left.now first c.loop-left.left (state_of c.in-Some.state) (waiting_of below) (record { closed = c.in-Answers.closed; state = state_of c.in-Answers.state }) c.loop-left-test.true u e)

pub returns-in-Answers-clause-waits : goal.returns-in-Answers-clause-waits
returns-in-Answers-clause-waits c =
    let gr = grammar c.args.program.now in
    let first = waiting_of c.args.waiting.now.items in
    let below = c.pop.new.self.items in
    let u = popped gr c.args.left.now first c.loop-left.left c.loop-left.waiting.items below c.in-Some.state c.in-Some.ensures.items c.loop-left.invariant in
    let size : c.len.result ≡ length (waiting_of below) = let l = length_waiting below in omega (arith, l, c.len.ensures, c.pop.new.self.ok.0) in
    let e = ap visited_of (sym c.in-Answers.is) ∙ c.in_ok-closed.ensures ∙ ap (λ n. visit gr n (state_of c.in-Some.state)) size in
    ap waits_in (answered gr c.args.left.now first c.loop-left.left (state_of c.in-Some.state) (waiting_of below) (record { closed = c.in-Answers.closed; state = state_of c.in-Answers.state }) c.loop-left-test.true u e)

pub returns-in-Answers-clause-left : goal.returns-in-Answers-clause-left
returns-in-Answers-clause-left c =
    let gr = grammar c.args.program.now in
    let first = waiting_of c.args.waiting.now.items in
    let below = c.pop.new.self.items in
    let u = popped gr c.args.left.now first c.loop-left.left c.loop-left.waiting.items below c.in-Some.state c.in-Some.ensures.items c.loop-left.invariant in
    let size : c.len.result ≡ length (waiting_of below) = let l = length_waiting below in omega (arith, l, c.len.ensures, c.pop.new.self.ok.0) in
    let e = ap visited_of (sym c.in-Answers.is) ∙ c.in_ok-closed.ensures ∙ ap (λ n. visit gr n (state_of c.in-Some.state)) size in
    ap left_in (answered gr c.args.left.now first c.loop-left.left (state_of c.in-Some.state) (waiting_of below) (record { closed = c.in-Answers.closed; state = state_of c.in-Answers.state }) c.loop-left-test.true u e)

pub returns-in-Answers-clause-states : goal.returns-in-Answers-clause-states
returns-in-Answers-clause-states c st has =
    (popped (grammar c.args.program.now) c.args.left.now (waiting_of c.args.waiting.now.items) c.loop-left.left c.loop-left.waiting.items c.pop.new.self.items c.in-Some.state c.in-Some.ensures.items c.loop-left.invariant).states st (inr has)

pub loop-left-preserved : goal.loop-left-preserved
loop-left-preserved c =
    let gr = grammar c.args.program.now in
    let first = waiting_of c.args.waiting.now.items in
    let below = c.pop.new.self.items in
    let ks = states_of c.in-Goes.states.items in
    let u = popped gr c.args.left.now first c.loop-left.left c.loop-left.waiting.items below c.in-Some.state c.in-Some.ensures.items c.loop-left.invariant in
    let size : c.len.result ≡ length (waiting_of below) = let l = length_waiting below in omega (arith, l, c.len.ensures, c.pop.new.self.ok.0) in
    let e = ap visited_of (sym c.in-Goes.is) ∙ c.in_ok-closed.ensures ∙ ap (λ n. visit gr n (state_of c.in-Some.state)) size in
    let kept : last c.in-Goes.stay (waiting_of below) ≡ waiting_of c.truncate.new.self.items = last_waiting below c.in-Goes.stay ∙ ap waiting_of (sym c.truncate.ensures.items) in
    subst (Underway gr c.args.left.now first (c.loop-left.left - 1)) (ap (λ z. ks ++ z) kept ∙ sym c.in_ok-put_first-in-Goes.ensures)
    (gone c.step_law.ensures gr (is_grammar c.args.program.now c.program_law.ensures.lawful c.program_law.ensures.fits) c.args.left.now first c.loop-left.left (state_of c.in-Some.state) (waiting_of below) c.in-Goes.stay ks c.loop-left-test.true u e)

pub returns-clause-halts : goal.returns-clause-halts
returns-clause-halts c =
    let gr = grammar c.args.program.now in
    let ws = c.loop-left.waiting.items in
    let some : 0 < length (waiting_of ws) = let l = length_waiting ws in let some_item = not_none c.loop-left.waiting.len (sym c.is_empty.ensures ∙ c.if-is_empty.false) in omega (arith, l, some_item, c.loop-left.waiting.ok.0) in
    let none : c.loop-left.left ≡ 0 = omega (arith, c.loop-left-test.false) in
    ap halt_of (at_budget gr c.args.left.now (waiting_of c.args.waiting.now.items) c.loop-left.left (waiting_of ws) some none c.loop-left.invariant)
