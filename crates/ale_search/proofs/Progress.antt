-- How the outcome so far and the search for the rest go on with each visit.
use Rattle.std.proofs.Common.{eqb, length, append-nil, add-zero, ◌≡◌, ℕ, zero, suc, ◌+◌, ◌-◌, ◌<◌, ◌≤◌, Bool, true, false, List, [], ◌∷◌, ◌++◌, map, take, drop, inl, inr, refl, sym, ap, ◌∙◌, subst, arith, append_assoc}
use Rattle.std.proofs.Math.Dec.{eqb-suc-zero}
use Rattle.ale_declared.specs.Lists.{Has}
use Rattle.ale_hierarchy.specs.Hierarchy.{Hierarchy, IsLawful}
use Rattle.ale_graph.proofs.Lists.{has_either}
use Rattle.ale_engine.specs.Engine.{Visit, answers, goes, Move, moved, move, Outcome, last, search, answers_in, visits_in, waiting_after, is_nothing}
use Rattle.ale_logic.specs.declared.answer.Answer.{Answer}
use Rattle.ale_logic.specs.States.{State}
use Rattle.ale_logic.specs.WellFormed.{IsState}
use Rattle.ale_logic.specs.Visits.{visit, Answer as VisitAnswer}
use Rattle.ale_logic.specs.Steps.{StepLaws}
use Rattle.ale_search.specs.declared.state.State as waiting
use Rattle.ale_search.specs.Outcomes.{seen_answer, told_of, so_far}
use Rattle.ale_search.specs.Views.{bare, turned, state_of, waiting_of}
use Rattle.ale_search.proofs.Turned.{turned_push, length-turned}
use Rattle.ale_search.proofs.Visits.{visit_states}

-- the rest of the search
abbrev pub rest_found : Hierarchy → ℕ → List State → Outcome Answer
rest_found h left sts = told_of (search (visit (bare h)) left sts)

-- the search so far, what waits, and that each waiting state is one
pub record Searching (h : Hierarchy) (budget : ℕ) (first : List State) (found : List Answer) (visits : ℕ) (waiting : List State) : Type 0 where
  pub within : visits ≤ budget
  pub same : so_far found visits (rest_found h (budget - visits) waiting) ≡ rest_found h budget first
  pub states : (st : State) → Has waiting st → IsState h st

all_left : (budget : ℕ) → budget - 0 ≡ budget
all_left budget = omega arith

none_before : (n : ℕ) → 0 + n ≡ n
none_before n = omega arith

-- before the first visit
pub first_of : (h : Hierarchy) (budget : ℕ) (st : State) → IsState h st → Searching h budget (st ∷ []) [] 0 (st ∷ [])
first_of h budget st is = record {
  within = omega arith;
  same = ap (λ (b : ℕ). so_far [] 0 (rest_found h b (st ∷ []))) (all_left budget)
      ∙ ap (λ (n : ℕ). let r : Outcome Answer = record { answers = (rest_found h budget (st ∷ [])).answers; visits = n; finished = (rest_found h budget (st ∷ [])).finished } in r) (none_before (rest_found h budget (st ∷ [])).visits);
  states = λ x p. elim p [ inl e ↦ subst (IsState h) (sym e) is | inr q ↦ absurd q ];
}

left_over : (budget visits : ℕ) → visits < budget → budget - visits ≡ suc (budget - (visits + 1))
left_over budget visits low = omega arith

-- what is found after a move, behind what it found
after : Hierarchy → ℕ → Move State VisitAnswer → Outcome Answer
after h left m = record {
  answers = map seen_answer (m.found ++ answers_in (visit (bare h)) left m.waiting);
  visits = m.visits + visits_in (visit (bare h)) left m.waiting;
  finished = is_nothing (waiting_after (visit (bare h)) left m.waiting);
}

-- one visit of the first
one : (h : Hierarchy) (left : ℕ) (st : State) (rest : List State) (v : Visit State VisitAnswer) → v ≡ visit (bare h) (length rest) st → after h left (moved rest v) ≡ rest_found h (suc left) (st ∷ rest)
unfolding after
one h left st rest v e = ap (λ z. after h left (moved rest z)) e

so_on : (h : Hierarchy) (budget : ℕ) (first : List State) (found : List Answer) (visits : ℕ) (st : State) (rest : List State) (v : Visit State VisitAnswer) → visits < budget → Searching h budget first found visits (st ∷ rest) → v ≡ visit (bare h) (length rest) st → so_far found visits (after h (budget - (visits + 1)) (moved rest v)) ≡ rest_found h budget first
so_on h budget first found visits st rest v low s e =
    ap (so_far found visits) (one h (budget - (visits + 1)) st rest v e)
    ∙ ap (λ n. so_far found visits (rest_found h n (st ∷ rest))) (sym (left_over budget visits low))
    ∙ s.same

rests : (h : Hierarchy) (st : State) (rest : List State) → ((x : State) → Has (st ∷ rest) x → IsState h x) → (x : State) → Has rest x → IsState h x
rests h st rest all x p = all x (inr p)

one_more : (visits n : ℕ) → visits + (1 + n) ≡ visits + 1 + n
one_more visits n = omega arith

-- after an answer
pub answered_by : (h : Hierarchy) (budget : ℕ) (first : List State) (found : List Answer) (visits : ℕ) (st : State) (rest : List State) (a : VisitAnswer) → visits < budget → Searching h budget first found visits (st ∷ rest) → answers a ≡ visit (bare h) (length rest) st → Searching h budget first (found ++ seen_answer a ∷ []) (visits + 1) rest
unfolding after
answered_by h budget first found visits st rest a low s e =
    let left = budget - (visits + 1) in
    let o = rest_found h left rest in
    let now : so_far (found ++ seen_answer a ∷ []) (visits + 1) o ≡ so_far found visits (after h left (moved rest (answers a))) =
    ap (λ (n : ℕ). let r : Outcome Answer = record { answers = (found ++ seen_answer a ∷ []) ++ o.answers; visits = n; finished = o.finished } in r) (sym (one_more visits o.visits))
    ∙ ap (λ (xs : List Answer). let r : Outcome Answer = record { answers = xs; visits = visits + (1 + o.visits); finished = o.finished } in r) (append_assoc found (seen_answer a ∷ []) o.answers) in
    record { within = omega arith; same = now ∙ so_on h budget first found visits st rest (answers a) low s e; states = rests h st rest s.states }

-- what is left of a list was in it
has_dropped : {A : Type 0} (n : ℕ) (xs : List A) (x : A) → Has (drop n xs) x → Has xs x
has_dropped zero xs x has = has
has_dropped (suc n) [] x has = has
has_dropped (suc n) (y ∷ xs) x has = inr (has_dropped n xs x has)

-- after a state that goes on, where the last n of those that wait stay
pub gone : StepLaws → (h : Hierarchy) → IsLawful h → (budget : ℕ) (first : List State) (found : List Answer) (visits : ℕ) (st : State) (rest : List State) (n : ℕ) (ks : List State) → visits < budget → Searching h budget first found visits (st ∷ rest) → goes n ks ≡ visit (bare h) (length rest) st → Searching h budget first found (visits + 1) (ks ++ last n rest)
unfolding after
gone steps h law budget first found visits st rest n ks low s e =
    let left = budget - (visits + 1) in
    let o = rest_found h left (ks ++ last n rest) in
    let now : so_far found (visits + 1) o ≡ so_far found visits (after h left (moved rest (goes n ks))) =
    ap (λ (k : ℕ). let r : Outcome Answer = record { answers = found ++ o.answers; visits = k; finished = o.finished } in r) (sym (one_more visits o.visits)) in
    record {
      within = omega arith;
      same = now ∙ so_on h budget first found visits st rest (goes n ks) low s e;
      states = λ x p. elim (has_either ks (last n rest) x p) [
        | inl q ↦ visit_states steps h law (length rest) st n ks (s.states st (inl refl)) e x q
        | inr q ↦ s.states x (inr (has_dropped (length rest - n) rest x q))
      ];
    }

-- the search ends where nothing waits or the budget is used up
at_end : (h : Hierarchy) (waiting : List State) → rest_found h 0 waiting ≡ record { answers = []; visits = 0; finished = eqb (length waiting) 0 }
at_end h [] = refl
at_end h (x ∷ xs) = ap (λ (b : Bool). let r : Outcome Answer = record { answers = []; visits = 0; finished = b } in r) (sym (eqb-suc-zero (length xs)))

none_left : (h : Hierarchy) (left : ℕ) → rest_found h left [] ≡ record { answers = []; visits = 0; finished = true }
none_left h zero = refl
none_left h (suc left) =
    ap (λ (n : ℕ). let r : Outcome Answer = record { answers = (rest_found h left []).answers; visits = n; finished = (rest_found h left []).finished } in r) (none_more (visits_in (visit (bare h)) left []))
    ∙ none_left h left
  where
    none_more : (n : ℕ) → 0 + n ≡ n
    none_more n = omega arith

rest_none : (found : List Answer) (visits : ℕ) (b : Bool) → so_far found visits (record { answers = []; visits = 0; finished = b }) ≡ record { answers = found; visits = visits; finished = b }
rest_none found visits b = rw (append-nil, add-zero) refl

pub ended : (h : Hierarchy) (budget : ℕ) (first : List State) (found : List Answer) (visits : ℕ) (ws : List waiting.State) (empty : Bool) → empty ≡ eqb (length ws) 0 → budget ≤ visits → Searching h budget first found visits (waiting_of ws) → ◌≡◌ {A = Outcome Answer} (record { answers = found; visits = visits; finished = empty }) (rest_found h budget first)
ended h budget first found visits ws empty is full s =
    let out : budget - visits ≡ 0 = omega arith in
    let len : length (waiting_of ws) ≡ length ws = let l = length-turned state_of ws [] in omega arith in
    sym (rest_none found visits empty)
    ∙ ap (λ (b : Bool). so_far found visits (record { answers = []; visits = 0; finished = b })) (is ∙ ap (λ n. eqb n 0) (sym len))
    ∙ ap (so_far found visits) (sym (at_end h (waiting_of ws)))
    ∙ ap (λ n. so_far found visits (rest_found h n (waiting_of ws))) (sym out)
    ∙ s.same

pub emptied : (h : Hierarchy) (budget : ℕ) (first : List State) (found : List Answer) (visits : ℕ) (ws : List waiting.State) → length ws ≡ 0 → Searching h budget first found visits (waiting_of ws) → ◌≡◌ {A = Outcome Answer} (record { answers = found; visits = visits; finished = true }) (rest_found h budget first)
emptied h budget first found visits [] len s =
    sym (rest_none found visits true) ∙ ap (so_far found visits) (sym (none_left h (budget - visits))) ∙ s.same
emptied h budget first found visits (x ∷ xs) len s = absurd (omega arith)

-- the last element of the stack waits first
pub popped : (h : Hierarchy) (budget : ℕ) (first : List State) (found : List Answer) (visits : ℕ) (ws below : List waiting.State) (x : waiting.State) → ws ≡ below ++ x ∷ [] → Searching h budget first found visits (waiting_of ws) → Searching h budget first found visits (state_of x ∷ waiting_of below)
popped h budget first found visits ws below x e s =
    subst (Searching h budget first found visits) (ap waiting_of e ∙ turned_push state_of below x []) s
