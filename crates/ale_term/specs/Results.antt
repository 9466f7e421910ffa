-- What a call that reads lexemes answers: exactly what is read, unless memory ran out.
use Rattle.std.specs.Prelude.{◌≡◌, Option, Some, None, Result, Ok, Err}
use Rattle.ale_term.specs.declared.error.ReadError.{ReadError}
use Rattle.ale_term.specs.declared.error.ReadError.TheVariants.{NotTheForm, NoMemory}

abbrev pub Fails : {A : Type 0} → ReadError → Option A → Type 0
Fails NotTheForm read = read ≡ None
Fails NoMemory read = Unit {0}

-- the result, seen by `view`, is what is read; it is the refusal where nothing is read
abbrev pub Gives : {A B : Type 0} → (A → B) → Result A ReadError → Option B → Type 0
Gives view (Ok x) read = read ≡ Some (view x)
Gives view (Err e) read = Fails e read
