-- The declarations that tokens are cut into.
use Rattle.std.specs.Prelude.{◌≡◌, ◌≢◌, ◌⊎◌, ℕ, ◌+◌, ◌≤◌, ◌<◌, Bool, true, false, List, [], ◌∷◌, ◌++◌, length, slice_range, slice_index_or, Result, Ok, Err, if◌then◌else◌}
use Rattle.ale_token.specs.declared.token.Kind.{Kind}
use Rattle.ale_token.specs.declared.token.Kind.TheVariants.{Atom, Quoted, Variable, Number, Symbol, Other, End}
use Rattle.ale_token.specs.declared.token.Token.{Token}
use Rattle.ale_token.specs.declared.token.TokenError.{TokenError}
use Rattle.ale_token.specs.declared.token.TokenError.TheVariants.{BadToken, NoEnd, NoMemory}
use Rattle.ale_token.specs.Tokens.{with_front}

-- none of these tokens is an end
abbrev pub HasNoEnd : List Token → Type 0
HasNoEnd [] = Unit {0}
HasNoEnd (t ∷ ts) = (t.kind ≢ End) × HasNoEnd ts

-- These tokens are cut into these ranges of numbers, the first token having the number `i`: each range goes from
-- the token after the end before it to its own end, and all the tokens stand in them.
pub data Cuts : ℕ → List Token → List (ℕ × ℕ) → Type 0 where
  nothing : (i : ℕ) → Cuts i [] []
  declaration : (i : ℕ) (xs : List Token) (end : Token) (ts : List Token) (ranges : List (ℕ × ℕ))
      → HasNoEnd xs → end.kind ≡ End → Cuts (i + length xs + 1) ts ranges
      → Cuts i (xs ++ end ∷ ts) ((i, i + length xs) ∷ ranges)

-- Tokens stand after the last end of these, the first of them at the place.
pub data Unended : List Token → ℕ → Type 0 where
  at_last : (t : Token) (ts : List Token) → HasNoEnd (t ∷ ts) → Unended (t ∷ ts) t.from
  after_end : (xs : List Token) (end : Token) (ts : List Token) (place : ℕ)
      → HasNoEnd xs → end.kind ≡ End → Unended ts place → Unended (xs ++ end ∷ ts) place

-- the tokens are cut into declarations, or an end is missing
abbrev pub CutOrUnended : ℕ → List Token → Type 0
CutOrUnended i ts = ((ranges : List (ℕ × ℕ)) × Cuts i ts ranges) ⊎ ((place : ℕ) × Unended ts place)

-- why tokens are not cut: an end is missing after the place; want of memory is free
abbrev pub IsUnended : List Token → TokenError → Type 0
IsUnended ts (NoEnd place) = Unended ts place
IsUnended ts (BadToken place) = ⊥
IsUnended ts NoMemory = Unit {0}

-- the range is that of a declaration: it is followed by an end, and has none
pub record IsDeclaration (list : List Token) (range : ℕ × ℕ) : Type 0 where
  pub ordered : range.0 ≤ range.1
  pub within : range.1 < length list
  pub no_end : HasNoEnd (slice_range list range.0 range.1)
  pub ended : (d : Token) → (slice_index_or list range.1 d).kind ≡ End

-- the tokens of a range and their end
abbrev pub with_end : List Token → ℕ × ℕ → List Token
with_end list range = slice_range list range.0 (range.1 + 1)

-- whether the kind is that of an end
abbrev pub is_end : Kind → Bool
is_end End = true
is_end Atom = false
is_end Quoted = false
is_end Variable = false
is_end Number = false
is_end Symbol = false
is_end Other = false

-- what is left after the last end
abbrev pub left_over : List Token → Result (List (ℕ × ℕ)) TokenError
left_over [] = Ok []
left_over (t ∷ ts) = Err (NoEnd t.from)

-- the same cutting as a function: the tokens `xs` stand before the others since the last end, the first of them
-- having the number `i`
abbrev pub cut_on : ℕ → List Token → List Token → Result (List (ℕ × ℕ)) TokenError
cut_on i xs [] = left_over xs
cut_on i xs (t ∷ ts) =
    if is_end t.kind then with_front ((i, i + length xs) ∷ []) (cut_on (i + length xs + 1) [] ts)
    else cut_on i (xs ++ t ∷ []) ts

-- the declarations of all tokens of a text, or the place after which an end is missing
abbrev pub declarations_of : List Token → Result (List (ℕ × ℕ)) TokenError
declarations_of = cut_on 0 []
