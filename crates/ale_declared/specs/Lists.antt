-- Words on lists that every definition of the project shares. Each goes down the list by cases.
-- Source: this project's own; common list functions.
use Rattle.std.specs.Prelude.{ℕ, zero, suc, ◌+◌, ◌==◌, Bool, true, false, ◌&&◌, ◌||◌, Option, Some, None, List, [], ◌∷◌, ◌++◌, if◌then◌else◌}
pub use Rattle.ale_relation.specs.Has.{Has}

-- the numbers below n, in order
abbrev pub upto : ℕ → List ℕ
upto zero = []
upto (suc n) = upto n ++ n ∷ []

-- the first element that passes a test
abbrev pub first : {A : Type 0} → (A → Bool) → List A → Option A
first test [] = None
first test (x ∷ xs) = if test x then Some x else first test xs

-- each element passes a test
abbrev pub every : {A : Type 0} → (A → Bool) → List A → Bool
every test [] = true
every test (x ∷ xs) = test x && every test xs

-- the sum of a function over a list
abbrev pub sum_over : {A : Type 0} → (A → ℕ) → List A → ℕ
sum_over f [] = 0
sum_over f (x ∷ xs) = f x + sum_over f xs

-- the number is among the numbers
abbrev pub is_among : ℕ → List ℕ → Bool
is_among x [] = false
is_among x (y ∷ ys) = x == y || is_among x ys
