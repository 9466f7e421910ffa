-- What a budget is to a search, by induction on it.
use Rattle.std.proofs.Common.{◌≡◌, ℕ, zero, suc, ◌+◌, ◌-◌, ◌<◌, ◌≤◌, Bool, true, false, List, [], ◌∷◌, ◌++◌, length, length-append, append_assoc, refl, sym, ap, ◌∙◌, arith}
use Rattle.std.proofs.lemmas.List.{append-nil}
use Rattle.ale_engine.specs.Engine.{Visit, answers, goes, last, moved, move, waiting_after, answers_in, visits_in, is_nothing, Outcome, search, Next, found, ended, spent, or_on, next_answer}
use Rattle.ale_engine.specs.EngineLaws.{IsWaiting, BudgetLaw, IsFound, HasEnded, IsNext}

at_most_one : {S A : Type 0} (visit : ℕ → S → Visit S A) (sts : List S) → (move visit sts).visits ≤ 1
at_most_one visit [] = omega arith
at_most_one {S = S} {A = A} visit (st ∷ waiting) = go (visit (length waiting) st)
  where
    go : (v : Visit S A) → (moved waiting v).visits ≤ 1
    go (answers a) = omega arith
    go (goes n ks) = omega arith

one_visit : {S A : Type 0} (visit : ℕ → S → Visit S A) (st : S) (waiting : List S) → (move visit (st ∷ waiting)).visits ≡ 1
one_visit {S = S} {A = A} visit st waiting = go (visit (length waiting) st)
  where
    go : (v : Visit S A) → (moved waiting v).visits ≡ 1
    go (answers a) = refl
    go (goes n ks) = refl

found_few : {S A : Type 0} (visit : ℕ → S → Visit S A) (sts : List S) → length (move visit sts).found ≤ (move visit sts).visits
found_few visit [] = omega arith
found_few {S = S} {A = A} visit (st ∷ waiting) = go (visit (length waiting) st)
  where
    go : (v : Visit S A) → length (moved waiting v).found ≤ (moved waiting v).visits
    go (answers a) = omega arith
    go (goes n ks) = omega arith

pub none_after : {S A : Type 0} (visit : ℕ → S → Visit S A) (n : ℕ) → waiting_after visit n [] ≡ []
none_after visit zero = refl
none_after visit (suc n) = none_after visit n

pub none_visited : {S A : Type 0} (visit : ℕ → S → Visit S A) (n : ℕ) → visits_in visit n [] ≡ 0
none_visited visit zero = refl
none_visited visit (suc n) = let rest = none_visited visit n in omega arith

pub none_answered : {S A : Type 0} (visit : ℕ → S → Visit S A) (n : ℕ) → answers_in visit n [] ≡ []
none_answered visit zero = refl
none_answered visit (suc n) = none_answered visit n

pub within : {S A : Type 0} (visit : ℕ → S → Visit S A) (budget : ℕ) (sts : List S) → visits_in visit budget sts ≤ budget
within visit zero sts = omega arith
within visit (suc left) sts =
    let one = at_most_one visit sts in
    let rest = within visit left (move visit sts).waiting in
    omega arith

pub few : {S A : Type 0} (visit : ℕ → S → Visit S A) (budget : ℕ) (sts : List S) → length (answers_in visit budget sts) ≤ visits_in visit budget sts
few visit zero sts = omega arith
few visit (suc left) sts =
    let one = found_few visit sts in
    let rest = few visit left (move visit sts).waiting in
    let both = length-append (move visit sts).found (answers_in visit left (move visit sts).waiting) in
    omega arith

nothing_is : {S : Type 0} (sts : List S) → is_nothing sts ≡ true → sts ≡ []
nothing_is [] e = refl
nothing_is (st ∷ sts) e = absurd cc

pub spends : {S A : Type 0} (visit : ℕ → S → Visit S A) (budget : ℕ) (sts : List S) → is_nothing (waiting_after visit budget sts) ≡ false → (visits_in visit budget sts ≡ budget) × IsWaiting S (waiting_after visit budget sts)
spends visit zero [] fin = absurd cc
spends visit zero (st ∷ waiting) fin = (refl, record { first = st; others = waiting; are = refl })
spends visit (suc left) [] fin = let none = none_after visit left in absurd cc
spends visit (suc left) (st ∷ waiting) fin =
    let one = one_visit visit st waiting in
    let rest = spends visit left (move visit (st ∷ waiting)).waiting fin in
    let visits = rest.0 in
    (omega arith, rest.1)

needed : {S A : Type 0} (visit : ℕ → S → Visit S A) (budget : ℕ) (sts : List S) (n : ℕ) → n < visits_in visit budget sts → IsWaiting S (waiting_after visit n sts)
needed visit zero sts n less = absurd (omega arith)
needed visit (suc left) [] n less = let none = none_visited visit left in absurd (omega arith)
needed visit (suc left) (st ∷ waiting) zero less = record { first = st; others = waiting; are = refl }
needed visit (suc left) (st ∷ waiting) (suc n) less =
    let one = one_visit visit st waiting in
    needed visit left (move visit (st ∷ waiting)).waiting n (omega arith)

pub ends : {S A : Type 0} (visit : ℕ → S → Visit S A) (budget : ℕ) (sts : List S) → is_nothing (waiting_after visit budget sts) ≡ true → waiting_after visit (visits_in visit budget sts) sts ≡ []
ends visit zero sts fin = nothing_is sts fin
ends visit (suc left) [] fin = none_after visit (visits_in visit (suc left) [])
ends visit (suc left) (st ∷ waiting) fin =
    let one = one_visit visit st waiting in
    let rest = ends visit left (move visit (st ∷ waiting)).waiting fin in
    let visits : visits_in visit (suc left) (st ∷ waiting) ≡ suc (visits_in visit left (move visit (st ∷ waiting)).waiting) = omega arith in
    ap (λ n. waiting_after visit n (st ∷ waiting)) visits ∙ rest

pub waits_on : {S A : Type 0} (visit : ℕ → S → Visit S A) (budget more : ℕ) (sts : List S) → waiting_after visit (budget + more) sts ≡ waiting_after visit more (waiting_after visit budget sts)
waits_on visit zero more sts =
    let e : zero + more ≡ more = omega arith in ap (λ n. waiting_after visit n sts) e
waits_on visit (suc left) more sts =
    let e : suc left + more ≡ suc (left + more) = omega arith in
    ap (λ n. waiting_after visit n sts) e ∙ waits_on visit left more (move visit sts).waiting

pub answers_on : {S A : Type 0} (visit : ℕ → S → Visit S A) (budget more : ℕ) (sts : List S) → answers_in visit (budget + more) sts ≡ answers_in visit budget sts ++ answers_in visit more (waiting_after visit budget sts)
answers_on visit zero more sts =
    let e : zero + more ≡ more = omega arith in ap (λ n. answers_in visit n sts) e
answers_on visit (suc left) more sts =
    let e : suc left + more ≡ suc (left + more) = omega arith in
    let m = move visit sts in
    ap (λ n. answers_in visit n sts) e
    ∙ ap (λ xs. (move visit sts).found ++ xs) (answers_on visit left more (move visit sts).waiting)
    ∙ sym (append_assoc (move visit sts).found (answers_in visit left (move visit sts).waiting) (answers_in visit more (waiting_after visit left (move visit sts).waiting)))

pub visits_on : {S A : Type 0} (visit : ℕ → S → Visit S A) (budget more : ℕ) (sts : List S) → visits_in visit (budget + more) sts ≡ visits_in visit budget sts + visits_in visit more (waiting_after visit budget sts)
visits_on visit zero more sts =
    let e : zero + more ≡ more = omega arith in
    let same : visits_in visit (zero + more) sts ≡ visits_in visit more sts = ap (λ n. visits_in visit n sts) e in
    omega arith
visits_on visit (suc left) more sts =
    let e : suc left + more ≡ suc (left + more) = omega arith in
    let same : visits_in visit (suc left + more) sts ≡ visits_in visit (suc (left + more)) sts = ap (λ n. visits_in visit n sts) e in
    let rest = visits_on visit left more (move visit sts).waiting in
    omega arith

-- where nothing waits any more, more visits change nothing
past : {S A : Type 0} (visit : ℕ → S → Visit S A) (budget more : ℕ) (sts : List S) → waiting_after visit budget sts ≡ [] → search visit (budget + more) sts ≡ search visit budget sts
past {S = S} {A = A} visit budget more sts none =
    ap (λ xs. outcome xs (visits_in visit (budget + more) sts) (is_nothing (waiting_after visit (budget + more) sts))) same_answers
    ∙ ap (λ n. outcome (answers_in visit budget sts) n (is_nothing (waiting_after visit (budget + more) sts))) same_visits
    ∙ ap (λ ys. outcome (answers_in visit budget sts) (visits_in visit budget sts) (is_nothing ys)) same_waiting
  where
    outcome : List A → ℕ → Bool → Outcome A
    outcome xs n b = record { answers = xs; visits = n; finished = b }

    same_answers : answers_in visit (budget + more) sts ≡ answers_in visit budget sts
    same_answers =
        answers_on visit budget more sts
        ∙ ap (λ ys. answers_in visit budget sts ++ answers_in visit more ys) none
        ∙ ap (λ xs. answers_in visit budget sts ++ xs) (none_answered visit more)
        ∙ append-nil (answers_in visit budget sts)

    same_visits : visits_in visit (budget + more) sts ≡ visits_in visit budget sts
    same_visits =
        let on = visits_on visit budget more sts in
        let none_more : visits_in visit more (waiting_after visit budget sts) ≡ 0 = ap (λ ys. visits_in visit more ys) none ∙ none_visited visit more in
        omega arith

    same_waiting : waiting_after visit (budget + more) sts ≡ waiting_after visit budget sts
    same_waiting = waits_on visit budget more sts ∙ ap (λ ys. waiting_after visit more ys) none ∙ none_after visit more ∙ sym none

pub settles : {S A : Type 0} (visit : ℕ → S → Visit S A) (budget : ℕ) (sts : List S) → (search visit budget sts).finished ≡ true → (other : ℕ) → visits_in visit budget sts ≤ other → search visit other sts ≡ search visit budget sts
settles visit budget sts fin other le = at_visits other le ∙ sym (at_visits budget (within visit budget sts))
  where
    at_visits : (n : ℕ) → visits_in visit budget sts ≤ n → search visit n sts ≡ search visit (visits_in visit budget sts) sts
    at_visits n le =
        let e : n ≡ visits_in visit budget sts + (n - visits_in visit budget sts) = omega arith in
        ap (λ k. search visit k sts) e ∙ past visit (visits_in visit budget sts) (n - visits_in visit budget sts) sts (ends visit budget sts fin)

pub budget_law : (S A : Type 0) (visit : ℕ → S → Visit S A) (budget : ℕ) (sts : List S) → BudgetLaw S A visit budget sts
budget_law S A visit budget sts = record {
  within = within visit budget sts;
  few = few visit budget sts;
  spent = spends visit budget sts;
  needed = needed visit budget sts;
  ended = ends visit budget sts;
  settled = settles visit budget sts;
  further = λ more. record { answers = answers_on visit budget more sts; visits = visits_on visit budget more sts; waiting = waits_on visit budget more sts };
}

-- stopping at an answer

found_now : {S A : Type 0} (visit : ℕ → S → Visit S A) (left : ℕ) (sts : List S) (a : A) (waiting : List S) → move visit sts ≡ moved waiting (answers a) → IsFound S A visit (suc left) sts a waiting left
found_now visit left sts a waiting e = record {
  before = 0;
  spends = omega arith;
  visits = let one : (move visit sts).visits ≡ 1 = ap (λ m. m.visits) e in omega arith;
  none_before = refl;
  found = ap (λ m. m.found ++ []) e;
  waits = ap (λ m. m.waiting) e;
}

gone_on : {S A : Type 0} (visit : ℕ → S → Visit S A) (left : ℕ) (sts now : List S) → (move visit sts).visits ≡ 1 → (move visit sts).found ≡ [] → (move visit sts).waiting ≡ now → (x : Next S A) → IsNext S A visit left now x → IsNext S A visit (suc left) sts x
gone_on {S = S} {A = A} visit left sts now one none e (found a waiting rest) k = record {
  before = suc k.before;
  spends = let s = k.spends in omega arith;
  visits = let rest : visits_in visit (suc k.before) (move visit sts).waiting ≡ suc k.before = ap (λ ys. visits_in visit (suc k.before) ys) e ∙ k.visits in omega arith;
  none_before = ap (λ xs. xs ++ answers_in visit k.before (move visit sts).waiting) none ∙ ap (λ ys. answers_in visit k.before ys) e ∙ k.none_before;
  found = ap (λ xs. xs ++ answers_in visit (suc k.before) (move visit sts).waiting) none ∙ ap (λ ys. answers_in visit (suc k.before) ys) e ∙ k.found;
  waits = ap (λ ys. waiting_after visit (suc k.before) ys) e ∙ k.waits;
}
gone_on visit left sts now one none e (ended rest) k = record {
  none_found = ap (λ xs. xs ++ answers_in visit left (move visit sts).waiting) none ∙ ap (λ ys. answers_in visit left ys) e ∙ k.none_found;
  none_waits = ap (λ ys. waiting_after visit left ys) e ∙ k.none_waits;
  spends = let s = k.spends in let same : visits_in visit left (move visit sts).waiting ≡ visits_in visit left now = ap (λ ys. visits_in visit left ys) e in omega arith;
}
gone_on visit left sts now one none e (spent waiting) k = record {
  none_found = ap (λ xs. xs ++ answers_in visit left (move visit sts).waiting) none ∙ ap (λ ys. answers_in visit left ys) e ∙ k.none_found;
  waits = ap (λ ys. waiting_after visit left ys) e ∙ k.waits;
  some_waits = k.some_waits;
  visits = let rest : visits_in visit left (move visit sts).waiting ≡ left = ap (λ ys. visits_in visit left ys) e ∙ k.visits in omega arith;
}

nothing_next : (S A : Type 0) (visit : ℕ → S → Visit S A) (left : ℕ) → HasEnded S A visit left [] left
nothing_next S A visit left = record {
  none_found = none_answered visit left;
  none_waits = none_after visit left;
  spends = let none = none_visited visit left in omega arith;
}

pub stops : (S A : Type 0) (visit : ℕ → S → Visit S A) (budget : ℕ) (sts : List S) → IsNext S A visit budget sts (next_answer visit budget sts)
stops S A visit zero [] = nothing_next S A visit zero
stops S A visit zero (st ∷ waiting) = record { none_found = refl; waits = refl; some_waits = record { first = st; others = waiting; are = refl }; visits = refl }
stops S A visit (suc left) [] = nothing_next S A visit (suc left)
stops S A visit (suc left) (st ∷ waiting) = go (stops S A visit left) (visit (length waiting) st) refl
  where
    go : ((ys : List S) → IsNext S A visit left ys (next_answer visit left ys)) → (v : Visit S A) → visit (length waiting) st ≡ v → IsNext S A visit (suc left) (st ∷ waiting) (or_on (next_answer visit left) left (moved waiting v) (moved waiting v).found)
    go ih (answers a) e = found_now visit left (st ∷ waiting) a waiting (ap (moved waiting) e)
    go ih (goes n ks) e =
        let one : (move visit (st ∷ waiting)).visits ≡ 1 = ap (λ v. (moved waiting v).visits) e in
        let none : (move visit (st ∷ waiting)).found ≡ [] = ap (λ v. (moved waiting v).found) e in
        let now : (move visit (st ∷ waiting)).waiting ≡ ks ++ last n waiting = ap (λ v. (moved waiting v).waiting) e in
        gone_on visit left (st ∷ waiting) (ks ++ last n waiting) one none now (next_answer visit left (ks ++ last n waiting)) (ih (ks ++ last n waiting))
