-- How names are written: plain where they read as an atom of the language, else between quotes, each quote in them
-- twice. Source: constant names in the ALE 3.2 User's Guide; which characters make an atom is Unicode's
-- XID_Start and XID_Continue, in this project's own profile.
use Rattle.std.specs.Prelude.{◌≡◌, ◌↔◌, ℕ, ◌-◌, Bool, true, false, ◌&&◌, not, eqb, List, [], ◌∷◌, ◌++◌, length, if◌then◌else◌}
use Rattle.unicode_ident.specs.Ident.{is_xid_continue}
use Rattle.ale_declared.specs.Lists.{every}
use Rattle.ale_token.specs.declared.token.Kind.{Kind}
use Rattle.ale_token.specs.declared.token.Kind.TheVariants.{Atom}
use Rattle.ale_token.specs.declared.pieces.Piece.TheVariants.{Word}
use Rattle.ale_token.specs.Pieces.{starts_atom, piece}
use Rattle.ale_token.specs.Names.{name_of, in_quotes}

-- the characters are those of an atom
abbrev pub is_atom : List ℕ → Bool
is_atom [] = false
is_atom (c ∷ cs) = starts_atom c && every is_xid_continue cs

abbrev pub printed_name : List ℕ → List ℕ
printed_name name = if is_atom name then name else in_quotes name

-- the text does not go on with a character that a name could take in
abbrev pub ends_name : List ℕ → Bool
ends_name [] = true
ends_name (c ∷ cs) = not (is_xid_continue c) && not (eqb c 39)

-- what is written of a name, before what ends a name, is one token, and that stands for the name
abbrev pub NamesAreReadBack : Type 0
NamesAreReadBack =
    (name rest : List ℕ) → ends_name rest ≡ true
    → (kind : Kind) × (piece (printed_name name ++ rest) ≡ Word kind (length (printed_name name) - 1))
    × (name_of kind (printed_name name) ≡ name)

-- a name is written plain exactly where the whole of it reads as an atom
abbrev pub PlainIsAtom : Type 0
PlainIsAtom = (name : List ℕ) → (printed_name name ≡ name) ↔ (piece name ≡ Word Atom (length name - 1))
