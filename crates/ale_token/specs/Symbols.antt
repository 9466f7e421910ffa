-- The symbols by their lengths, as the code tells them apart.
use Rattle.std.specs.Prelude.{ℕ, Bool, false, ◌||◌, List, [], ◌∷◌, if◌then◌else◌, codes}
use Rattle.ale_token.specs.Pieces.{begins}

-- whether the text begins with one of these
abbrev pub begins_any : List (List ℕ) → List ℕ → Bool
begins_any [] cs = false
begins_any (s ∷ ss) cs = begins s cs || begins_any ss cs

abbrev pub symbols_of_four : List (List ℕ)
symbols_of_four = codes "===>" ∷ codes "--->" ∷ codes "+++>" ∷ []

abbrev pub symbols_of_three : List (List ℕ)
symbols_of_three = codes "**>" ∷ codes "=\\=" ∷ []

abbrev pub symbols_of_two : List (List ℕ)
symbols_of_two = codes "==" ∷ codes "=@" ∷ codes ":-" ∷ codes "->" ∷ codes "\\+" ∷ []

abbrev pub symbols_of_one : List (List ℕ)
symbols_of_one =
    codes "=" ∷ codes ":" ∷ codes "," ∷ codes ";" ∷ codes "(" ∷ codes ")" ∷ codes "[" ∷ codes "]" ∷ codes "|"
    ∷ codes "@" ∷ codes "!" ∷ codes "/" ∷ codes ">" ∷ []

-- the length of the symbol that the text begins with, those of more characters first
abbrev pub symbol_length : List ℕ → ℕ
symbol_length cs =
    if begins_any symbols_of_four cs then 4
    else if begins_any symbols_of_three cs then 3
    else if begins_any symbols_of_two cs then 2
    else if begins_any symbols_of_one cs then 1
    else 0
