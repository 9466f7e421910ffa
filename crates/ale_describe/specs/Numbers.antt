-- A table of the numbers of names, and when it is that of these variables.
-- Source: this project's own.
use Rattle.std.specs.Prelude.{◌≡◌, ℕ, false, if◌then◌else◌, Option, Some, None, List, [], ◌∷◌, String, string_bytes}
use Rattle.std.specs.Str.{chars}
use Rattle.ale_declared.specs.Names.{same_name, named}
use Rattle.ale_describe.specs.Variables.{is_anonymous}

-- the number that the table has for the name
abbrev pub number_in : {Z : Type 0} → List (String Z × ℕ) → List ℕ → Option ℕ
number_in [] x = None
number_in (e ∷ es) x = if same_name x (chars (string_bytes e.0)) then Some e.1 else number_in es x

-- it has the place of each variable with a name
abbrev pub IsNumbered : {Z : Type 0} → List (List ℕ) → List (String Z × ℕ) → Type 0
IsNumbered vs es = (x : List ℕ) → is_anonymous x ≡ false → number_in es x ≡ named vs x
