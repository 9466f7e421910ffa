-- 'While there is something to do, do the first thing': the loop of every step of the closure, and what
-- "the first" means in a list and among pairs. Source: chaotic iteration to a fixed point, folklore.
use Rattle.std.specs.Prelude.{ℕ, zero, suc, Option, Some, None, List, [], ◌∷◌}

abbrev pub or_else : {A : Type 0} → Option A → Option A → Option A
or_else None o = o
or_else (Some a) o = Some a

-- what the first element gives that gives something
abbrev pub first_some : {A B : Type 0} → (A → Option B) → List A → Option B
first_some give [] = None
first_some give (x ∷ xs) = or_else (give x) (first_some give xs)

-- what the first pair gives that gives something; pairs are in order of their first, then second element
abbrev pub first_pair : {A B C : Type 0} → (A → B → Option C) → List A → List B → Option C
first_pair give xs ys = first_some (λ x. first_some (give x) ys) xs

-- while something is found in the state, apply it, at most n times
abbrev pub settle : {S A : Type 0} → (S → Option A) → (A → S → S) → ℕ → S → S
settle find apply zero s = s
settle find apply (suc n) s = elim (find s) [ None ↦ s | Some a ↦ settle find apply n (apply a s) ]
