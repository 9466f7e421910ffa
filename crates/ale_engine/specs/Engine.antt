-- Searches of any states: the first state that waits is visited, and gives an answer, or kids, which go before
-- those of the waiting states that stay. Source: depth-first search by backtracking, folklore; budgets own.
use Rattle.std.specs.Prelude.{ℕ, zero, suc, ◌+◌, ◌-◌, Bool, true, false, List, [], ◌∷◌, ◌++◌, length, drop}

-- what a visit gives: an answer, or kids, and how many of the states that wait stay
pub data Visit (S A : Type 0) : Type 0 where
  answers : A → Visit S A
  goes : ℕ → List S → Visit S A

-- what comes of one visit: what was found, what waits now, and how many visits it was (none, where nothing waited)
pub record Move (S A : Type 0) : Type 0 where
  pub found : List A
  pub waiting : List S
  pub visits : ℕ

-- the last n; all, where there are no more than n
abbrev pub last : {A : Type 0} → ℕ → List A → List A
last n xs = drop (length xs - n) xs

abbrev pub moved : {S A : Type 0} → List S → Visit S A → Move S A
moved waiting (answers a) = record { found = a ∷ []; waiting = waiting; visits = 1 }
moved waiting (goes n kids) = record { found = []; waiting = kids ++ last n waiting; visits = 1 }

-- one visit of the first state that waits, which is told how many wait behind it
abbrev pub move : {S A : Type 0} → (ℕ → S → Visit S A) → List S → Move S A
move visit [] = record { found = []; waiting = []; visits = 0 }
move visit (st ∷ waiting) = moved waiting (visit (length waiting) st)

-- what waits after n visits
abbrev pub waiting_after : {S A : Type 0} → (ℕ → S → Visit S A) → ℕ → List S → List S
waiting_after visit zero sts = sts
waiting_after visit (suc n) sts = waiting_after visit n (move visit sts).waiting

-- the answers in n visits, in order
abbrev pub answers_in : {S A : Type 0} → (ℕ → S → Visit S A) → ℕ → List S → List A
answers_in visit zero sts = []
answers_in visit (suc n) sts = (move visit sts).found ++ answers_in visit n (move visit sts).waiting

-- how many of n visits are made: none is made where nothing waits
abbrev pub visits_in : {S A : Type 0} → (ℕ → S → Visit S A) → ℕ → List S → ℕ
visits_in visit zero sts = 0
visits_in visit (suc n) sts = (move visit sts).visits + visits_in visit n (move visit sts).waiting

abbrev pub is_nothing : {A : Type 0} → List A → Bool
is_nothing [] = true
is_nothing (x ∷ xs) = false

-- what a search finds within a budget of visits; it is finished where nothing waits after them
pub record Outcome (A : Type 0) : Type 0 where
  pub answers : List A
  pub visits : ℕ
  pub finished : Bool

abbrev pub search : {S A : Type 0} → (ℕ → S → Visit S A) → ℕ → List S → Outcome A
search visit budget sts = record {
  answers = answers_in visit budget sts;
  visits = visits_in visit budget sts;
  finished = is_nothing (waiting_after visit budget sts);
}

-- a search that stops at its first answer: that answer, what waits then and the visits that are left; or the
-- visits that are left where nothing waits any more; or what waits where no visit is left
pub data Next (S A : Type 0) : Type 0 where
  found : A → List S → ℕ → Next S A
  ended : ℕ → Next S A
  spent : List S → Next S A

-- where something was found, that is next; else the search goes on
abbrev pub or_on : {S A : Type 0} → (List S → Next S A) → ℕ → Move S A → List A → Next S A
or_on on left m [] = on m.waiting
or_on on left m (a ∷ others) = found a m.waiting left

abbrev pub next_answer : {S A : Type 0} → (ℕ → S → Visit S A) → ℕ → List S → Next S A
next_answer visit left [] = ended left
next_answer visit zero (st ∷ waiting) = spent (st ∷ waiting)
next_answer visit (suc left) (st ∷ waiting) = or_on (next_answer visit left) left (move visit (st ∷ waiting)) (move visit (st ∷ waiting)).found
