-- What a search that stops at its first answer has to do with the whole search.
use Rattle.std.proofs.Common.{◌≡◌, ℕ, suc, ◌+◌, Bool, false, List, [], ◌∷◌, ◌++◌, refl, ap, ◌∙◌, arith}
use Rattle.ale_engine.specs.Engine.{Outcome, Next, found, ended, spent, next_answer, search, answers_in, visits_in, waiting_after, is_nothing}
use Rattle.ale_engine.specs.EngineLaws.{IsNext}
use Rattle.ale_engine.proofs.Budget.{stops, waits_on, answers_on, visits_on}
use Rattle.ale_logic.specs.States.{State}
use Rattle.ale_logic.specs.Visits.{Answer, visit}
use Rattle.ale_logic.specs.Words.{Grammar}
use Rattle.ale_search.specs.NextLaws.{IsNextOf, NextLaws}

-- an outcome from its parts
outcome : (answers answers' : List Answer) (visits visits' : ℕ) (finished finished' : Bool) → answers ≡ answers' → visits ≡ visits' → finished ≡ finished' → ◌≡◌ {A = Outcome Answer} (record { answers = answers; visits = visits; finished = finished }) (record { answers = answers'; visits = visits'; finished = finished' })
outcome answers answers' visits visits' finished finished' a v f =
    ap (λ (z : List Answer). let r : Outcome Answer = record { answers = z; visits = visits; finished = finished } in r) a
    ∙ ap (λ (z : ℕ). let r : Outcome Answer = record { answers = answers'; visits = z; finished = finished } in r) v
    ∙ ap (λ (z : Bool). let r : Outcome Answer = record { answers = answers'; visits = visits'; finished = z } in r) f

-- the search within two budgets, one after the other
on : (gr : Grammar) (budget more : ℕ) (sts waiting : List State) → waiting_after (visit gr) budget sts ≡ waiting →
    search (visit gr) (budget + more) sts ≡ record { answers = answers_in (visit gr) budget sts ++ answers_in (visit gr) more waiting; visits = visits_in (visit gr) budget sts + visits_in (visit gr) more waiting; finished = is_nothing (waiting_after (visit gr) more waiting) }
on gr budget more sts waiting e = outcome
    (answers_in (visit gr) (budget + more) sts) (answers_in (visit gr) budget sts ++ answers_in (visit gr) more waiting)
    (visits_in (visit gr) (budget + more) sts) (visits_in (visit gr) budget sts + visits_in (visit gr) more waiting)
    (is_nothing (waiting_after (visit gr) (budget + more) sts)) (is_nothing (waiting_after (visit gr) more waiting))
    (answers_on (visit gr) budget more sts ∙ ap (λ z. answers_in (visit gr) budget sts ++ answers_in (visit gr) more z) e)
    (visits_on (visit gr) budget more sts ∙ ap (λ z. visits_in (visit gr) budget sts + visits_in (visit gr) more z) e)
    (ap is_nothing (waits_on (visit gr) budget more sts ∙ ap (waiting_after (visit gr) more) e))

pub next_of : (gr : Grammar) (budget : ℕ) (sts : List State) (n : Next State Answer) → IsNext State Answer (visit gr) budget sts n → IsNextOf gr budget sts n
next_of gr budget sts (found a waiting left) is = record {
  visits = suc is.before;
  some = omega arith;
  spends = is.spends;
  goes_on = ap (λ n. search (visit gr) n sts) is.spends
      ∙ on gr (suc is.before) left sts waiting is.waits
      ∙ outcome
      (answers_in (visit gr) (suc is.before) sts ++ answers_in (visit gr) left waiting) (a ∷ answers_in (visit gr) left waiting)
      (visits_in (visit gr) (suc is.before) sts + visits_in (visit gr) left waiting) (suc is.before + visits_in (visit gr) left waiting)
      (is_nothing (waiting_after (visit gr) left waiting)) (is_nothing (waiting_after (visit gr) left waiting))
      (ap (λ z. z ++ answers_in (visit gr) left waiting) is.found)
      (ap (λ n. n + visits_in (visit gr) left waiting) is.visits)
      refl;
}
next_of gr budget sts (ended left) is = record {
  visits = visits_in (visit gr) budget sts;
  spends = is.spends;
  ends = outcome (answers_in (visit gr) budget sts) [] (visits_in (visit gr) budget sts) (visits_in (visit gr) budget sts) (is_nothing (waiting_after (visit gr) budget sts)) (is_nothing {A = State} []) is.none_found refl (ap is_nothing is.none_waits);
}
next_of gr budget sts (spent waiting) is = record {
  stops = outcome (answers_in (visit gr) budget sts) [] (visits_in (visit gr) budget sts) budget (is_nothing (waiting_after (visit gr) budget sts)) false is.none_found is.visits (ap is_nothing (is.waits ∙ is.some_waits.are));
  goes_on = λ more. on gr budget more sts waiting is.waits
      ∙ outcome
      (answers_in (visit gr) budget sts ++ answers_in (visit gr) more waiting) (answers_in (visit gr) more waiting)
      (visits_in (visit gr) budget sts + visits_in (visit gr) more waiting) (budget + visits_in (visit gr) more waiting)
      (is_nothing (waiting_after (visit gr) more waiting)) (is_nothing (waiting_after (visit gr) more waiting))
      (ap (λ z. z ++ answers_in (visit gr) more waiting) is.none_found)
      (ap (λ n. n + visits_in (visit gr) more waiting) is.visits)
      refl;
}

pub next_law : NextLaws
next_law gr budget sts = next_of gr budget sts (next_answer (visit gr) budget sts) (stops State Answer (visit gr) budget sts)
