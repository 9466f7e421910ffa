-- The parts of a file are read one after the other, up to the first that is refused. They are counted from a number on.
use Rattle.std.specs.Prelude.{ℕ, suc, Bool, if◌then◌else◌, Option, Some, None, Result, Ok, Err, List, [], ◌∷◌}
use Rattle.ale_term.specs.declared.lexeme.Lexeme.{Lexeme}
use Rattle.ale_form.specs.declared.error.FormError.{FormError}

-- the number of a part, and why it is refused
abbrev pub Refusal : Type 0
Refusal = ℕ × FormError

pub data AreRead {A : Type 0} (One : List Lexeme → Result A FormError → Type 0) : ℕ → List (List Lexeme) → Result (List A) Refusal → Type 0 where
  all_read : (k : ℕ) → AreRead One k [] (Ok [])
  one_refused : (k : ℕ) (p : List Lexeme) (ps : List (List Lexeme)) (e : FormError) → One p (Err e) → AreRead One k (p ∷ ps) (Err (k, e))
  later_refused : (k : ℕ) (p : List Lexeme) (ps : List (List Lexeme)) (a : A) (r : Refusal) → One p (Ok a) → AreRead One (suc k) ps (Err r) →
      AreRead One k (p ∷ ps) (Err r)
  one_more : (k : ℕ) (p : List Lexeme) (ps : List (List Lexeme)) (a : A) (items : List A) → One p (Ok a) → AreRead One (suc k) ps (Ok items) →
      AreRead One k (p ∷ ps) (Ok (a ∷ items))

-- the same as a function
abbrev pub with_first : {A : Type 0} → A → Result (List A) Refusal → Result (List A) Refusal
with_first a (Ok items) = Ok (a ∷ items)
with_first a (Err r) = Err r

abbrev pub read_with : {A : Type 0} → ℕ → Result A FormError → Result (List A) Refusal → Result (List A) Refusal
read_with k (Ok a) later = with_first a later
read_with k (Err e) later = Err (k, e)

abbrev pub each_read : {A : Type 0} → (List Lexeme → Result A FormError) → ℕ → List (List Lexeme) → Result (List A) Refusal
each_read one k [] = Ok []
each_read one k (p ∷ ps) = read_with k (one p) (each_read one (suc k) ps)

-- the number of the first of which the test is false
abbrev pub first_without : {A : Type 0} → (A → Bool) → ℕ → List A → Option ℕ
first_without test k [] = None
first_without test k (a ∷ items) = if test a then first_without test (suc k) items else Some k
