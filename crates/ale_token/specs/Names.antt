-- The names that tokens stand for, as lists of characters.
use Rattle.std.specs.Prelude.{◌≡◌, ℕ, ◌+◌, false, ◌==◌, List, [], ◌∷◌, ◌++◌, length, drop, if◌then◌else◌, codes}
use Prim.Native.Char.{code}
use Rattle.ale_token.specs.declared.token.Kind.{Kind}
use Rattle.ale_token.specs.declared.token.Kind.TheVariants.{Atom, Quoted, Variable, Number, Symbol, Other, End}
use Rattle.ale_token.specs.declared.pieces.Piece.TheVariants.{Word}
use Rattle.ale_token.specs.Pieces.{begins, piece}

-- what the characters after the quote that opens a name stand for, up to the quote that closes it: two quotes
-- are one, and every other character is itself
abbrev mutual
  pub unquoted : List ℕ → List ℕ
  unquoted [] = []
  unquoted (c ∷ cs) = if c == code "'" then behind_quote cs else c ∷ unquoted cs

  -- after a quote, which may be the first of two
  pub behind_quote : List ℕ → List ℕ
  behind_quote [] = []
  behind_quote (c ∷ cs) = if c == code "'" then code "'" ∷ unquoted cs else []

-- the name that a token of this kind with these characters stands for
abbrev pub name_of : Kind → List ℕ → List ℕ
name_of Quoted cs = unquoted (drop 1 cs)
name_of Atom cs = cs
name_of Variable cs = cs
name_of Number cs = cs
name_of Symbol cs = cs
name_of Other cs = cs
name_of End cs = cs

-- the characters with two quotes for each
abbrev pub doubled : List ℕ → List ℕ
doubled [] = []
doubled (c ∷ cs) = if c == code "'" then code "'" ∷ code "'" ∷ doubled cs else c ∷ doubled cs

-- the name between quotes
abbrev pub in_quotes : List ℕ → List ℕ
in_quotes name = code "'" ∷ (doubled name ++ code "'" ∷ [])

-- a name between quotes is a quoted token, whatever follows it but a quote
abbrev pub QuotesAreRead : Type 0
QuotesAreRead =
    (name rest : List ℕ) → begins (codes "'") rest ≡ false
    → piece (in_quotes name ++ rest) ≡ Word Quoted (length (doubled name) + 1)

-- and it stands for the name
abbrev pub QuotesMeanTheName : Type 0
QuotesMeanTheName = (name : List ℕ) → name_of Quoted (in_quotes name) ≡ name
