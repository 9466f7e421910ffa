-- Where the tokens of a text stand in it. The text is the list of its bytes, as the places count them.
use Rattle.std.specs.Prelude.{◌≡◌, ℕ, suc, ◌<◌, ◌≤◌, List, [], ◌∷◌, take, drop, slice_range}
use Rattle.std.specs.Str.{chars, IsCharBoundary}
use Rattle.ale_token.specs.declared.token.Token.{Token}
use Rattle.ale_token.specs.declared.pieces.Piece.TheVariants.{Word}
use Rattle.ale_token.specs.Pieces.{piece}

-- the characters of the token's text, which is the bytes from `from` to `to`
abbrev pub spelling : List ℕ → Token → List ℕ
spelling text t = chars (slice_range text t.from t.to)

-- the token stands in the text: it has a byte at least, the text can be cut at both its ends, and what begins
-- at its place is a token of its kind with just its characters
pub record Stands (text : List ℕ) (t : Token) : Type 0 where
  pub rising : t.from < t.to
  pub starts : IsCharBoundary text t.from
  pub ends : IsCharBoundary text t.to
  pub reads : (n : ℕ) × (piece (chars (drop t.from text)) ≡ Word t.kind n)
      × (spelling text t ≡ take (suc n) (chars (drop t.from text)))

-- the first of the tokens begins at the place or after it, and each other one where the one before it ends, or
-- after that
abbrev pub InOrder : ℕ → List Token → Type 0
InOrder place [] = Unit {0}
InOrder place (t ∷ ts) = (place ≤ t.from) × InOrder t.to ts
