-- The tokens of a whole text. A text is the list of its characters, and places are counted in bytes of UTF-8.
use Rattle.std.specs.Prelude.{◌≡◌, ◌⊎◌, ℕ, zero, suc, ◌+◌, List, [], ◌∷◌, ◌++◌, take, drop, Result, Ok, Err}
use Rattle.std.specs.Char.{len_utf8}
use Rattle.ale_token.specs.declared.token.Kind.{Kind}
use Rattle.ale_token.specs.declared.token.Token.{Token}
use Rattle.ale_token.specs.declared.token.TokenError.{TokenError}
use Rattle.ale_token.specs.declared.token.TokenError.TheVariants.{BadToken, NoEnd, NoMemory}
use Rattle.ale_token.specs.declared.pieces.Piece.{Piece}
use Rattle.ale_token.specs.declared.pieces.Piece.TheVariants.{Gap, Word, Bad}
use Rattle.ale_token.specs.Pieces.{piece}

-- how many bytes these characters take
abbrev pub byte_length : List ℕ → ℕ
byte_length [] = 0
byte_length (c ∷ cs) = len_utf8 c + byte_length cs

-- the token of this kind that begins at the place, with the first of the characters and `n` more
abbrev pub token : Kind → ℕ → ℕ → List ℕ → Token
token kind place n cs = record { kind = kind; from = place; to = place + byte_length (take (suc n) cs) }

-- A text that begins at this place of the source has just these tokens: one after the other a piece begins, up to
-- the end; each is a token, or layout or a comment, which mean nothing.
pub data Reads : ℕ → List ℕ → List Token → Type 0 where
  at_end : (place : ℕ) → Reads place [] []
  past_gap : (place : ℕ) (n : ℕ) (c : ℕ) (cs : List ℕ) (ts : List Token) → piece (c ∷ cs) ≡ Gap n
      → Reads (place + byte_length (take (suc n) (c ∷ cs))) (drop (suc n) (c ∷ cs)) ts
      → Reads place (c ∷ cs) ts
  past_token : (place : ℕ) (n : ℕ) (kind : Kind) (c : ℕ) (cs : List ℕ) (ts : List Token) → piece (c ∷ cs) ≡ Word kind n
      → Reads (place + byte_length (take (suc n) (c ∷ cs))) (drop (suc n) (c ∷ cs)) ts
      → Reads place (c ∷ cs) (token kind place n (c ∷ cs) ∷ ts)

-- In a text that begins at this place of the source no token begins at the bad place, and all before that is
-- tokens, layout and comments.
pub data BadAt : ℕ → List ℕ → ℕ → Type 0 where
  here : (place : ℕ) (c : ℕ) (cs : List ℕ) → piece (c ∷ cs) ≡ Bad → BadAt place (c ∷ cs) place
  after_gap : (place : ℕ) (n : ℕ) (c : ℕ) (cs : List ℕ) (bad : ℕ) → piece (c ∷ cs) ≡ Gap n
      → BadAt (place + byte_length (take (suc n) (c ∷ cs))) (drop (suc n) (c ∷ cs)) bad
      → BadAt place (c ∷ cs) bad
  after_token : (place : ℕ) (n : ℕ) (kind : Kind) (c : ℕ) (cs : List ℕ) (bad : ℕ) → piece (c ∷ cs) ≡ Word kind n
      → BadAt (place + byte_length (take (suc n) (c ∷ cs))) (drop (suc n) (c ∷ cs)) bad
      → BadAt place (c ∷ cs) bad

-- the text that begins at the place has tokens, or is bad somewhere
abbrev pub ReadOrBad : ℕ → List ℕ → Type 0
ReadOrBad place cs = ((ts : List Token) × Reads place cs ts) ⊎ ((bad : ℕ) × BadAt place cs bad)

-- a text is read in one way
abbrev pub ReadInOneWay : Type 0
ReadInOneWay = (cs : List ℕ) (ts us : List Token) → Reads 0 cs ts → Reads 0 cs us → ts ≡ us

-- a text is bad at one place
abbrev pub BadAtOnePlace : Type 0
BadAtOnePlace = (cs : List ℕ) (p q : ℕ) → BadAt 0 cs p → BadAt 0 cs q → p ≡ q

-- no text is both read and bad
abbrev pub NotBoth : Type 0
NotBoth = (cs : List ℕ) (ts : List Token) (p : ℕ) → Reads 0 cs ts → BadAt 0 cs p → ⊥

-- why a text is refused: the place is the bad one, and no token is missing an end; want of memory is free
abbrev pub IsRefusal : List ℕ → TokenError → Type 0
IsRefusal cs (BadToken place) = BadAt 0 cs place
IsRefusal cs (NoEnd place) = ⊥
IsRefusal cs NoMemory = Unit {0}

-- these before those that come later
abbrev pub with_front : {A : Type 0} → List A → Result (List A) TokenError → Result (List A) TokenError
with_front xs (Ok ys) = Ok (xs ++ ys)
with_front xs (Err e) = Err e

-- the tokens where this piece stands at the place, `later` being those of the text after its first character
-- and so many more
abbrev pub begun : Piece → ℕ → List ℕ → (ℕ → Result (List Token) TokenError) → Result (List Token) TokenError
begun (Gap n) place cs later = later n
begun (Word kind n) place cs later = with_front (token kind place n cs ∷ []) (later n)
begun Bad place cs later = Err (BadToken place)

-- the same reading as a function: of the text that begins at the place, the first `n` characters still belong to a
-- piece that began before
abbrev pub tokens_from : ℕ → ℕ → List ℕ → Result (List Token) TokenError
tokens_from place n [] = Ok []
tokens_from place (suc n) (c ∷ cs) = tokens_from (place + len_utf8 c) n cs
tokens_from place zero (c ∷ cs) =
    begun (piece (c ∷ cs)) place (c ∷ cs) (λ n. tokens_from (place + len_utf8 c) n cs)

-- the tokens of a whole text, or its bad place
abbrev pub tokens_of : List ℕ → Result (List Token) TokenError
tokens_of = tokens_from 0 0
