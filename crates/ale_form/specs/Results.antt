-- What a call that reads a declaration or a command answers: exactly what it is, or why it is none, unless memory ran out.
use Rattle.std.specs.Prelude.{◌≡◌, ◌≤◌, ◌<◌, ℕ, nat_lt, Option, Some, None, Result, Ok, Err, List, if◌then◌else◌}
use Rattle.ale_term.specs.declared.lexeme.Lexeme.{Lexeme}
use Rattle.ale_term.specs.declared.error.ReadError.{ReadError}
use Rattle.ale_term.specs.declared.error.ReadError.TheVariants as read
use Rattle.ale_form.specs.declared.error.FormError.{FormError}
use Rattle.ale_form.specs.declared.error.FormError.TheVariants.{TooDeep, OutOfProfile, NotADeclaration, NoMemory}
use Rattle.ale_form.specs.Nesting.{nesting, nesting_limit}
use Rattle.ale_form.specs.LeftOut.{left_out}

abbrev pub Fails : {A : Type 0} → FormError → Result A FormError → Type 0
Fails TooDeep read = read ≡ Err TooDeep
Fails (OutOfProfile w) read = read ≡ Err (OutOfProfile w)
Fails NotADeclaration read = read ≡ Err NotADeclaration
Fails NoMemory read = Unit {0}

-- the result, seen by `view`, is what is read; it is the refusal where nothing is read
abbrev pub Gives : {A B : Type 0} → (A → B) → Result A FormError → Result B FormError → Type 0
Gives view (Ok x) read = read ≡ Ok (view x)
Gives view (Err e) read = Fails e read

-- What lexemes of a form are read as: nothing where they nest too deep, else where a word stands that is left out, else
-- where they are not of the form.
pub data Answers {A : Type 0} (Is : List Lexeme → A → Type 0) (ls : List Lexeme) : Result A FormError → Type 0 where
  too_deep : nesting_limit < nesting ls → Answers Is ls (Err TooDeep)
  left_word : (w : List ℕ) → nesting ls ≤ nesting_limit → left_out ls ≡ Some w → Answers Is ls (Err (OutOfProfile w))
  of_no_form : nesting ls ≤ nesting_limit → left_out ls ≡ None → ((a : A) → Is ls a → ⊥) → Answers Is ls (Err NotADeclaration)
  of_the_form : (a : A) → nesting ls ≤ nesting_limit → left_out ls ≡ None → Is ls a → Answers Is ls (Ok a)

-- the same as a function, over what is read where nothing else stands against it
abbrev pub formed : {A : Type 0} → Option A → Result A FormError
formed None = Err NotADeclaration
formed (Some a) = Ok a

abbrev pub in_profile : {A : Type 0} → Option (List ℕ) → Result A FormError → Result A FormError
in_profile None found = found
in_profile (Some w) found = Err (OutOfProfile w)

-- what is read, unless something stands against it
abbrev pub after : {A : Type 0} → Result (Unit {0}) FormError → Result A FormError → Result A FormError
after (Ok u) found = found
after (Err e) found = Err e

-- whether lexemes nest too deep, or have a word that is left out
abbrev pub admitted : List Lexeme → Result (Unit {0}) FormError
admitted ls = if nat_lt nesting_limit (nesting ls) then Err TooDeep else in_profile (left_out ls) (Ok tt)

abbrev pub checked : {A : Type 0} → List Lexeme → Option A → Result A FormError
checked ls found = after (admitted ls) (formed found)

-- why something of no form is no declaration and no command
abbrev pub form_error : ReadError → FormError
form_error read.NotTheForm = NotADeclaration
form_error read.NoMemory = NoMemory

abbrev pub form_result : {A : Type 0} → Result A ReadError → Result A FormError
form_result (Ok a) = Ok a
form_result (Err e) = Err (form_error e)
