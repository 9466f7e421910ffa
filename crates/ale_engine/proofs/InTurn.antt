-- Searches that are made one after the other within one budget, by induction on them.
use Rattle.std.proofs.Common.{◌≡◌, ℕ, ◌+◌, ◌-◌, ◌<◌, ◌≤◌, Bool, true, false, ◌&&◌, List, [], ◌∷◌, ◌++◌, map, length, length-append, append_assoc, ◌⊎◌, inl, inr, refl, sym, ap, ◌∙◌, subst, arith}
use Rattle.std.proofs.lemmas.Bool.{and_parts}
use Rattle.std.proofs.lemmas.List.{append-nil, length-map}
use Rattle.ale_relation.specs.Has.{Has}
use Rattle.ale_engine.specs.Engine.{Visit, waiting_after, visits_in, answers_in, is_nothing, Outcome, search}
use Rattle.ale_engine.specs.Growth.{Task, Found, followed_by, made_of, run_all}
use Rattle.ale_engine.specs.EngineLaws.{IsPrefix, IsWaiting}
use Rattle.ale_engine.specs.GrowthLaws.{IsMade, HasRun, IsCutOff, RunAllLaw}
use Rattle.ale_engine.proofs.Lists.{has_left, has_right, has_either, in_map, map_has, map_append, none_short}
use Rattle.ale_engine.proofs.Budget as budget

either : (b : Bool) → (b ≡ true) ⊎ (b ≡ false)
either true = inl refl
either false = inr refl

within : {S A B : Type 0} (visit : ℕ → S → Visit S A) (ts : List (Task S A B)) (left : ℕ) → (run_all visit ts left).visits ≤ left
within visit [] left = omega arith
within visit (t ∷ ts) left =
    let one = budget.within visit left t.waiting in
    let rest = within visit ts (left - visits_in visit left t.waiting) in
    omega arith

few : {S A B : Type 0} (visit : ℕ → S → Visit S A) (ts : List (Task S A B)) (left : ℕ) → length (run_all visit ts left).all ≤ (run_all visit ts left).visits
few visit [] left = omega arith
few visit (t ∷ ts) left =
    let one = budget.few visit left t.waiting in
    let rest = few visit ts (left - visits_in visit left t.waiting) in
    let both = length-append (map t.made (answers_in visit left t.waiting)) (run_all visit ts (left - visits_in visit left t.waiting)).all in
    let mapped = length-map (answers_in visit left t.waiting) t.made in
    omega arith

made : {S A B : Type 0} (visit : ℕ → S → Visit S A) (ts : List (Task S A B)) (left : ℕ) (x : B) → Has (run_all visit ts left).all x → IsMade S A B visit ts x
made visit [] left x has = absurd has
made {S = S} {A = A} {B = B} visit (t ∷ ts) left x has = go (made visit ts (left - visits_in visit left t.waiting) x) (has_either (map t.made (answers_in visit left t.waiting)) (run_all visit ts (left - visits_in visit left t.waiting)).all x has)
  where
    go : (Has (run_all visit ts (left - visits_in visit left t.waiting)).all x → IsMade S A B visit ts x) → Has (map t.made (answers_in visit left t.waiting)) x ⊎ Has (run_all visit ts (left - visits_in visit left t.waiting)).all x → IsMade S A B visit (t ∷ ts) x
    go ih (inl here) =
        let r = map_has t.made (answers_in visit left t.waiting) x here in
        record { task = t; has = inl refl; budget = left; answer = r.0; is_answer = r.1; is = r.2 }
    go ih (inr there) =
        let r = ih there in
        record { task = r.task; has = inr r.has; budget = r.budget; answer = r.answer; is_answer = r.is_answer; is = r.is }

has_run : {S A B : Type 0} (visit : ℕ → S → Visit S A) (ts : List (Task S A B)) (left : ℕ) → (run_all visit ts left).finished ≡ true → (t : Task S A B) → Has ts t → HasRun S A B visit t (run_all visit ts left).all
has_run visit [] left fin t has = absurd has
has_run {S = S} {A = A} {B = B} visit (u ∷ ts) left fin t has = go (has_run visit ts (left - visits_in visit left u.waiting)) (and_parts (search visit left u.waiting).finished (run_all visit ts (left - visits_in visit left u.waiting)).finished fin) has
  where
    first : List B
    first = map u.made (answers_in visit left u.waiting)

    rest : Found B
    rest = run_all visit ts (left - visits_in visit left u.waiting)

    go : (rest.finished ≡ true → (t : Task S A B) → Has ts t → HasRun S A B visit t rest.all) → ((search visit left u.waiting).finished ≡ true) × (rest.finished ≡ true) → (t ≡ u) ⊎ Has ts t → HasRun S A B visit t (first ++ rest.all)
    go ih fins (inl e) = subst (λ z. HasRun S A B visit z (first ++ rest.all)) (sym e) (record {
      budget = left;
      ended = fins.0;
      results = λ a is. has_left first rest.all (u.made a) (in_map u.made (answers_in visit left u.waiting) a is);
    })
    go ih fins (inr there) =
        let r = ih fins.1 t there in
        record { budget = r.budget; ended = r.ended; results = λ a is. has_right first rest.all (t.made a) (r.results a is) }

false_of_and : (a b : Bool) → (a && b) ≡ false → (a ≡ false) ⊎ ((a ≡ true) × (b ≡ false))
false_of_and true b e = inr (refl, e)
false_of_and false b e = inl refl

spends : {S A B : Type 0} (visit : ℕ → S → Visit S A) (ts : List (Task S A B)) (left : ℕ) → (run_all visit ts left).finished ≡ false → (run_all visit ts left).visits ≡ left
spends visit [] left fin = absurd cc
spends {S = S} {A = A} {B = B} visit (t ∷ ts) left fin = go (spends visit ts (left - visits_in visit left t.waiting)) (false_of_and (search visit left t.waiting).finished (run_all visit ts (left - visits_in visit left t.waiting)).finished fin)
  where
    rest : Found B
    rest = run_all visit ts (left - visits_in visit left t.waiting)

    go : (rest.finished ≡ false → rest.visits ≡ left - visits_in visit left t.waiting) → ((search visit left t.waiting).finished ≡ false) ⊎ (((search visit left t.waiting).finished ≡ true) × (rest.finished ≡ false)) → visits_in visit left t.waiting + rest.visits ≡ left
    go ih (inl e) =
        let all = (budget.spends visit left t.waiting e).0 in
        let none = within visit ts (left - visits_in visit left t.waiting) in
        omega arith
    go ih (inr e) =
        let all = ih e.1 in
        let low = budget.within visit left t.waiting in
        omega arith

cut_off : {S A B : Type 0} (visit : ℕ → S → Visit S A) (ts : List (Task S A B)) (left : ℕ) → (run_all visit ts left).finished ≡ false → IsCutOff S A B visit ts left
cut_off visit [] left fin = absurd cc
cut_off {S = S} {A = A} {B = B} visit (t ∷ ts) left fin = go (cut_off visit ts (left - visits_in visit left t.waiting)) (false_of_and (search visit left t.waiting).finished (run_all visit ts (left - visits_in visit left t.waiting)).finished fin)
  where
    rest : Found B
    rest = run_all visit ts (left - visits_in visit left t.waiting)

    go : (rest.finished ≡ false → IsCutOff S A B visit ts (left - visits_in visit left t.waiting)) → ((search visit left t.waiting).finished ≡ false) ⊎ (((search visit left t.waiting).finished ≡ true) × (rest.finished ≡ false)) → IsCutOff S A B visit (t ∷ ts) left
    go ih (inl e) =
        let same : left ≡ left - 0 = omega arith in
        record {
          before = [];
          task = t;
          later = ts;
          are = refl;
          waits = subst (λ n. IsWaiting S (waiting_after visit n t.waiting)) same (budget.spends visit left t.waiting e).1;
        }
    go ih (inr e) =
        let r = ih e.1 in
        let same : (left - visits_in visit left t.waiting) - (run_all visit r.before (left - visits_in visit left t.waiting)).visits ≡ left - (visits_in visit left t.waiting + (run_all visit r.before (left - visits_in visit left t.waiting)).visits) = omega arith in
        record {
          before = t ∷ r.before;
          task = r.task;
          later = r.later;
          are = ap (λ us. t ∷ us) r.are;
          waits = subst (λ n. IsWaiting S (waiting_after visit n r.task.waiting)) same r.waits;
        }

not_both : {S : Type 0} (sts : List S) → is_nothing sts ≡ true → IsWaiting S sts → ⊥
not_both [] e w = let no : [] ≡ w.first ∷ w.others = w.are in absurd cc
not_both (st ∷ sts) e w = absurd cc

ended_at : {S A B : Type 0} (visit : ℕ → S → Visit S A) (before : List (Task S A B)) (t : Task S A B) (later : List (Task S A B)) (left : ℕ) → (run_all visit (before ++ t ∷ later) left).finished ≡ true → IsWaiting S (waiting_after visit (left - (run_all visit before left).visits) t.waiting) → ⊥
ended_at {S = S} visit [] t later left fin waits =
    let fins = and_parts (search visit left t.waiting).finished (run_all visit later (left - visits_in visit left t.waiting)).finished fin in
    let same : left - 0 ≡ left = omega arith in
    not_both (waiting_after visit left t.waiting) fins.0 (subst (λ n. IsWaiting S (waiting_after visit n t.waiting)) same waits)
ended_at {S = S} visit (u ∷ before) t later left fin waits =
    let fins = and_parts (search visit left u.waiting).finished (run_all visit (before ++ t ∷ later) (left - visits_in visit left u.waiting)).finished fin in
    let same : left - (visits_in visit left u.waiting + (run_all visit before (left - visits_in visit left u.waiting)).visits) ≡ (left - visits_in visit left u.waiting) - (run_all visit before (left - visits_in visit left u.waiting)).visits = omega arith in
    ended_at visit before t later (left - visits_in visit left u.waiting) fins.1 (subst (λ n. IsWaiting S (waiting_after visit n t.waiting)) same waits)

ended : {S A B : Type 0} (visit : ℕ → S → Visit S A) (ts : List (Task S A B)) (left : ℕ) → (run_all visit ts left).finished ≡ true → IsCutOff S A B visit ts left → ⊥
ended visit ts left fin c = ended_at visit c.before c.task c.later left (subst (λ us. (run_all visit us left).finished ≡ true) c.are fin) c.waits

settles : {S A B : Type 0} (visit : ℕ → S → Visit S A) (ts : List (Task S A B)) (left : ℕ) → (run_all visit ts left).finished ≡ true → (other : ℕ) → (run_all visit ts left).visits ≤ other → run_all visit ts other ≡ run_all visit ts left
settles visit [] left fin other le = refl
settles {S = S} {A = A} {B = B} visit (t ∷ ts) left fin other le =
    let fins = and_parts (search visit left t.waiting).finished (run_all visit ts (left - visits_in visit left t.waiting)).finished fin in
    let one : search visit other t.waiting ≡ search visit left t.waiting = budget.settles visit left t.waiting fins.0 other (omega arith) in
    let rest = settles visit ts (left - visits_in visit left t.waiting) fins.1 (other - visits_in visit left t.waiting) (omega arith) in
    ap (λ (o : Outcome A). followed_by (made_of t o) (run_all visit ts (other - o.visits))) one
    ∙ ap (λ (f : Found B). followed_by (made_of t (search visit left t.waiting)) f) rest

needed : {S A B : Type 0} (visit : ℕ → S → Visit S A) (ts : List (Task S A B)) (left : ℕ) → (run_all visit ts left).finished ≡ true → (fewer : ℕ) → fewer < (run_all visit ts left).visits → (run_all visit ts fewer).finished ≡ false
needed visit ts left fin fewer less = go (either (run_all visit ts fewer).finished)
  where
    go : ((run_all visit ts fewer).finished ≡ true) ⊎ ((run_all visit ts fewer).finished ≡ false) → (run_all visit ts fewer).finished ≡ false
    go (inl e) =
        let low = within visit ts fewer in
        let most = within visit ts left in
        let same = settles visit ts fewer e left (omega arith) in
        let visits : (run_all visit ts left).visits ≡ (run_all visit ts fewer).visits = ap (λ f. f.visits) same in
        absurd (omega arith)
    go (inr e) = e

further : {S A B : Type 0} (visit : ℕ → S → Visit S A) (ts : List (Task S A B)) (left larger : ℕ) → left ≤ larger → IsPrefix (run_all visit ts left).all (run_all visit ts larger).all
further visit [] left larger le = ([], refl)
further {S = S} {A = A} {B = B} visit (t ∷ ts) left larger le = go (λ n m below. further visit ts n m below) (either (search visit left t.waiting).finished)
  where
    rest : ℕ → Outcome A → Found B
    rest n o = run_all visit ts (n - o.visits)

    all : ℕ → Outcome A → List B
    all n o = map t.made o.answers ++ (rest n o).all

    go : ((n m : ℕ) → n ≤ m → IsPrefix (run_all visit ts n).all (run_all visit ts m).all) → ((search visit left t.waiting).finished ≡ true) ⊎ ((search visit left t.waiting).finished ≡ false) → IsPrefix (all left (search visit left t.waiting)) (all larger (search visit larger t.waiting))
    go ih (inl e) =
        let low = budget.within visit left t.waiting in
        let one : search visit larger t.waiting ≡ search visit left t.waiting = budget.settles visit left t.waiting e larger (omega arith) in
        let later = ih (left - visits_in visit left t.waiting) (larger - visits_in visit left t.waiting) (omega arith) in (
          later.0,
          ap (all larger) one
              ∙ ap (λ ys. map t.made (answers_in visit left t.waiting) ++ ys) later.1
              ∙ sym (append_assoc (map t.made (answers_in visit left t.waiting)) (rest left (search visit left t.waiting)).all later.0),
        )
    go ih (inr e) =
        let spent = (budget.spends visit left t.waiting e).0 in
        let low = within visit ts (left - visits_in visit left t.waiting) in
        let short = few visit ts (left - visits_in visit left t.waiting) in
        let none : (rest left (search visit left t.waiting)).all ≡ [] = none_short (rest left (search visit left t.waiting)).all (omega arith) in
        let more : ℕ = larger - left in
        let split : larger ≡ left + more = omega arith in
        let later : List A = answers_in visit more (waiting_after visit left t.waiting) in
        let answers : answers_in visit larger t.waiting ≡ answers_in visit left t.waiting ++ later = ap (λ n. answers_in visit n t.waiting) split ∙ budget.answers_on visit left more t.waiting in (
          map t.made later ++ (rest larger (search visit larger t.waiting)).all,
          ap (λ xs. map t.made xs ++ (rest larger (search visit larger t.waiting)).all) answers
              ∙ ap (λ xs. xs ++ (rest larger (search visit larger t.waiting)).all) (map_append t.made (answers_in visit left t.waiting) later)
              ∙ append_assoc (map t.made (answers_in visit left t.waiting)) (map t.made later) (rest larger (search visit larger t.waiting)).all
              ∙ ap (λ xs. xs ++ (map t.made later ++ (rest larger (search visit larger t.waiting)).all)) (sym (ap (λ ys. map t.made (answers_in visit left t.waiting) ++ ys) none ∙ append-nil (map t.made (answers_in visit left t.waiting)))),
        )

pub run_all_law : (S A B : Type 0) (visit : ℕ → S → Visit S A) (tasks : List (Task S A B)) (left : ℕ) → RunAllLaw S A B visit tasks left
run_all_law S A B visit tasks left = record {
  within = within visit tasks left;
  few = few visit tasks left;
  made = made visit tasks left;
  has_run = has_run visit tasks left;
  spent = spends visit tasks left;
  unfinished = cut_off visit tasks left;
  ended = ended visit tasks left;
  needed = needed visit tasks left;
  settled = settles visit tasks left;
  further = λ larger le. further visit tasks left larger le;
}
