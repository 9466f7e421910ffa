-- The number that decimal digits stand for.
use Rattle.std.specs.Prelude.{◌-◌, ◌+◌, ◌*◌, ℕ, Bool, true, ◌&&◌, min, Option, Some, None, List, [], ◌∷◌}
use Rattle.ale_token.specs.Pieces.{is_digit}
use Rattle.ale_term.specs.declared.lexeme.Lexeme.{Lexeme}
use Rattle.ale_term.specs.declared.lexeme.Lexeme.TheVariants.{Atom, Quoted, Variable, Number, Sign, Other, End}

-- where n stands for the digits before
abbrev pub number_behind : ℕ → List ℕ → ℕ
number_behind n [] = n
number_behind n (c ∷ cs) = number_behind (10 * n + (c - 48)) cs

abbrev pub number_of : List ℕ → ℕ
number_of cs = number_behind 0 cs

-- the greatest number that the program holds
unfoldable pub greatest : ℕ
greatest = 4294967295

-- the number as it is held: a greater one is the greatest
abbrev pub held_behind : ℕ → List ℕ → ℕ
held_behind n cs = min (number_behind n cs) greatest

abbrev pub held : List ℕ → ℕ
held cs = held_behind 0 cs

-- nothing but ASCII digits
abbrev pub are_digits : List ℕ → Bool
are_digits [] = true
are_digits (c ∷ cs) = is_digit c && are_digits cs

-- the digits of a number at the start, and what stands after it
abbrev pub number_at : List Lexeme → Option (List ℕ × List Lexeme)
number_at [] = None
number_at (Number cs ∷ ls) = Some (cs, ls)
number_at (Atom n ∷ ls) = None
number_at (Quoted n ∷ ls) = None
number_at (Variable n ∷ ls) = None
number_at (Sign k ∷ ls) = None
number_at (Other ∷ ls) = None
number_at (End ∷ ls) = None
