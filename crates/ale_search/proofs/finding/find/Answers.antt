use Rattle.std.proofs.Common.{List, length, take, eqb, true, arith, ◌≡◌, ◌∷◌, ◌++◌, [], ◌+◌, ◌-◌, ◌<◌, inl, inr, refl, sym, ap, ◌∙◌, subst}
use Rattle.ale_declared.specs.Lists.{Has}
use Rattle.ale_hierarchy.specs.Order.{hierarchy}
use Rattle.ale_engine.specs.Engine.{Outcome, answers, goes, last}
use Rattle.ale_logic.specs.declared.answer.Answer.{Answer}
use Rattle.ale_logic.specs.Descriptions.{description}
use Rattle.ale_logic.specs.States as plain
use Rattle.ale_logic.specs.Starts.{start}
use Rattle.ale_logic.specs.Visits.{visit}
use Rattle.ale_run_law.proofs.First.{description_starts}
use Rattle.ale_search.specs.Views.{bare, state_of, states_of, waiting_of, visited_of}
use Rattle.ale_search.proofs.Turned.{length-turned, last_turned}
use Rattle.ale_search.proofs.Progress.{Searching, first_of, popped, answered_by, gone, ended, emptied}
use Rattle.ale_search.proofs.finding.find.Goals as goal

pub loop-visits-init : goal.loop-visits-init
loop-visits-init c =
    let h = hierarchy c.args.sig.now in
    let d = description c.args.desc.now in
    let one : waiting_of c.push.new.self.items ≡ start c.args.slots d ∷ [] =
    ap waiting_of (c.in_ok-push.ensures.items ∙ ap (λ z. z ++ c.in_ok-start.field-0 ∷ []) c.new-waiting.ensures.items) ∙ ap (λ z. z ∷ []) c.in_ok-start.ensures in
    subst (λ z. Searching h c.args.budget (start c.args.slots d ∷ []) z 0 (waiting_of c.push.new.self.items)) (sym c.new-answers.ensures.items)
    (subst (Searching h c.args.budget (start c.args.slots d ∷ []) [] 0) (sym one)
    (first_of h c.args.budget (start c.args.slots d) (description_starts h c.args.slots d c.requires).is.is))

pub visit-requires : goal.visit-requires
visit-requires c =
    (popped (hierarchy c.args.sig.now) c.args.budget (start c.args.slots (description c.args.desc.now) ∷ []) c.loop-visits.answers.items c.loop-visits.visits c.loop-visits.waiting.items c.pop.new.self.items c.in-Some.state c.in-Some.ensures.items c.loop-visits.invariant).states (state_of c.in-Some.state) (inl refl)

pub loop-visits-preserved-in_ok-push-in-Answers : goal.loop-visits-preserved-in_ok-push-in-Answers
loop-visits-preserved-in_ok-push-in-Answers c =
    let h = hierarchy c.args.sig.now in
    let first = start c.args.slots (description c.args.desc.now) ∷ [] in
    let below = c.pop.new.self.items in
    let s = popped h c.args.budget first c.loop-visits.answers.items c.loop-visits.visits c.loop-visits.waiting.items below c.in-Some.state c.in-Some.ensures.items c.loop-visits.invariant in
    let size : c.len.result ≡ length (waiting_of below) = let l = length-turned state_of below [] in omega (arith, l, c.len.ensures, c.pop.new.self.ok.0) in
    let e = ap visited_of (sym c.in-Answers.is) ∙ c.in_ok-closed.ensures ∙ ap (λ n. visit (bare h) n (state_of c.in-Some.state)) size in
    subst (λ z. Searching h c.args.budget first z (c.loop-visits.visits + 1) (waiting_of below)) (sym (c.in_ok-push-in-Answers.ensures.items ∙ ap (λ z. c.loop-visits.answers.items ++ z ∷ []) c.answer.ensures))
    (answered_by h c.args.budget first c.loop-visits.answers.items c.loop-visits.visits (state_of c.in-Some.state) (waiting_of below) (record { closed = c.in-Answers.closed; state = state_of c.in-Answers.state }) c.loop-visits-test.true s e)

pub loop-visits-preserved : goal.loop-visits-preserved
loop-visits-preserved c =
    let h = hierarchy c.args.sig.now in
    let first = start c.args.slots (description c.args.desc.now) ∷ [] in
    let below = c.pop.new.self.items in
    let ks = states_of c.in-Goes.states.items in
    let s = popped h c.args.budget first c.loop-visits.answers.items c.loop-visits.visits c.loop-visits.waiting.items below c.in-Some.state c.in-Some.ensures.items c.loop-visits.invariant in
    let size : c.len.result ≡ length (waiting_of below) = let l = length-turned state_of below [] in omega (arith, l, c.len.ensures, c.pop.new.self.ok.0) in
    let e = ap visited_of (sym c.in-Goes.is) ∙ c.in_ok-closed.ensures ∙ ap (λ n. visit (bare h) n (state_of c.in-Some.state)) size in
    let kept : last c.in-Goes.stay (waiting_of below) ≡ waiting_of c.truncate.new.self.items = last_turned state_of below c.in-Goes.stay ∙ ap waiting_of (sym c.truncate.ensures.items) in
    subst (Searching h c.args.budget first c.loop-visits.answers.items (c.loop-visits.visits + 1)) (ap (λ z. ks ++ z) kept ∙ sym c.in_ok-put_before-in-Goes.ensures)
    (gone c.step_law.ensures h c.type_count.ensures.lawful c.args.budget first c.loop-visits.answers.items c.loop-visits.visits (state_of c.in-Some.state) (waiting_of below) c.in-Goes.stay ks c.loop-visits-test.true s e)

pub returns-in_default : goal.returns-in_default
returns-in_default c =
    let h = hierarchy c.args.sig.now in
    let first = start c.args.slots (description c.args.desc.now) ∷ [] in
    let none : length c.loop-visits.waiting.items ≡ 0 = omega (arith, c.loop-visits.waiting.ok.0, c.in_default.ensures.cases.0) in
    ap (λ (xs : List Answer). let r : Outcome Answer = record { answers = xs; visits = c.loop-visits.visits; finished = true } in r) c.of.ensures
    ∙ emptied h c.args.budget first c.loop-visits.answers.items c.loop-visits.visits c.loop-visits.waiting.items none c.loop-visits.invariant

pub returns : goal.returns
returns c =
    let h = hierarchy c.args.sig.now in
    let first = start c.args.slots (description c.args.desc.now) ∷ [] in
    let empty : c.is_empty.result ≡ eqb (length c.loop-visits.waiting.items) 0 = c.is_empty.ensures ∙ ap (λ n. eqb n 0) c.loop-visits.waiting.ok.0 in
    ap (λ (xs : List Answer). let r : Outcome Answer = record { answers = xs; visits = c.loop-visits.visits; finished = c.is_empty.result } in r) c.of-2.ensures
    ∙ ended h c.args.budget first c.loop-visits.answers.items c.loop-visits.visits c.loop-visits.waiting.items c.is_empty.result empty c.loop-visits-test.false c.loop-visits.invariant
