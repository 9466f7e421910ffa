-- A name between quotes is read as a quoted token, and stands for the name.
use Rattle.std.proofs.Common.{◌≡◌, ℕ, ◌+◌, ◌<◌, ◌≤◌, drop, get_or, string_bytes, String, Bool, true, false, ◌&&◌, List, [], ◌∷◌, ◌++◌, length, Option, Some, refl, sym, ap, ◌∙◌, arith, append_assoc}
use Rattle.std.specs.Prelude.{◌==◌, codes, if◌then◌else◌}
use Rattle.std.specs.Option.{option_map}
use Rattle.std.proofs.lemmas.Bool.{eqb-true}
use Rattle.std.specs.Str.{chars}
use Rattle.std.proofs.Math.Utf8.{encodes}
use Rattle.std.proofs.lemmas.List.{append-nil}
use Rattle.std.proofs.lemmas.Str.{chars_from_encodes, IsUtf8-string_bytes}
use Rattle.unicode_ident.specs.Ident.{is_xid_start}
use Rattle.unicode_ident.proofs.IdentLemmas.{is_xid_start-ascii}
use Rattle.ale_token.specs.declared.token.Kind.TheVariants.{Quoted}
use Rattle.ale_token.specs.declared.pieces.Piece.TheVariants.{Word}
use Rattle.ale_token.specs.Pieces.{begins, closed, piece, quoted, after_quote}
use Rattle.ale_token.specs.Names.{unquoted, behind_quote, doubled, QuotesAreRead, QuotesMeanTheName}

-- a quote that a quote follows or not
one_closes : (b : Bool) (later : Option ℕ) → (b && true) ≡ false
    → (if b then option_map (λ n. n + 2) later else Some 1) ≡ Some 1
one_closes true later h = cc
one_closes false later h = refl

-- a quote before what begins with none closes
closes : (rest : List ℕ) → begins (codes "'") rest ≡ false → after_quote rest ≡ Some 1
closes [] h = refl
closes (c ∷ cs) h = one_closes (c == 39) (quoted cs) h

-- one character of a name, which is a quote or none
one_doubled : (b : Bool) (c : ℕ) (cs rest : List ℕ) (n : ℕ) → (c == 39) ≡ b
    → quoted (doubled cs ++ 39 ∷ rest) ≡ Some (length (doubled cs) + 1)
    → quoted ((if b then 39 ∷ 39 ∷ doubled cs else c ∷ doubled cs) ++ 39 ∷ rest)
    ≡ Some (length (if b then 39 ∷ 39 ∷ doubled cs else c ∷ doubled cs) + 1)
one_doubled true c cs rest n e later = rw later (ap Some (omega arith))
one_doubled false c cs rest n e later = rw (e, later) (ap Some (omega arith))

quoted-doubled : (name rest : List ℕ) → begins (codes "'") rest ≡ false
    → quoted (doubled name ++ 39 ∷ rest) ≡ Some (length (doubled name) + 1)
quoted-doubled [] rest h = closes rest h
quoted-doubled (c ∷ cs) rest h = one_doubled (c == 39) c cs rest 0 refl (quoted-doubled cs rest h)

-- the row of the table that a quote fits
at_quote : (cs : List ℕ) → piece (39 ∷ cs) ≡ closed (Word Quoted) (quoted cs)
unfolding piece
at_quote cs = let plain : is_xid_start 39 ≡ false = is_xid_start-ascii 39 (omega arith) in rw plain refl

pub quotes_are_read : QuotesAreRead
quotes_are_read name rest h =
    ap (λ cs. piece (39 ∷ cs)) (append_assoc (doubled name) (39 ∷ []) rest)
    ∙ at_quote (doubled name ++ 39 ∷ rest)
    ∙ ap (closed (Word Quoted)) (quoted-doubled name rest h)

-- one character of a name, which is a quote or none
one_unquoted : (b : Bool) (c : ℕ) (cs : List ℕ) → (c == 39) ≡ b → unquoted (doubled cs ++ 39 ∷ []) ≡ cs
    → unquoted ((if b then 39 ∷ 39 ∷ doubled cs else c ∷ doubled cs) ++ 39 ∷ []) ≡ c ∷ cs
one_unquoted true c cs e later = let same : c ≡ 39 = eqb-true c 39 e in rw (later, same) refl
one_unquoted false c cs e later = rw (e, later) refl

pub quotes_mean_the_name : QuotesMeanTheName
quotes_mean_the_name [] = refl
quotes_mean_the_name (c ∷ cs) = one_unquoted (c == 39) c cs refl (quotes_mean_the_name cs)

-- where nothing more belongs to the name, it is what was gathered
pub gathered : {Z : Type 0} (name : String Z) (inside rest : List ℕ)
    → string_bytes name ++ encodes (unquoted rest) ≡ encodes (unquoted inside) → unquoted rest ≡ []
    → chars (string_bytes name) ≡ unquoted inside
gathered name inside rest so_far e =
    let same : encodes (unquoted inside) ≡ string_bytes name =
    sym so_far ∙ ap (λ cs. string_bytes name ++ encodes cs) e ∙ append-nil (string_bytes name) in
    sym (chars_from_encodes (unquoted inside) (string_bytes name) (IsUtf8-string_bytes name) same)

pub unquoted-none : (cs : List ℕ) → length cs < 1 → unquoted cs ≡ []
unquoted-none [] h = refl
unquoted-none (c ∷ cs) h = absurd (omega arith)

one_not_doubled : (b : Bool) (later : List ℕ) → (b && true) ≡ false → (if b then 39 ∷ later else []) ≡ []
one_not_doubled true later h = cc
one_not_doubled false later h = refl

not_doubled : (cs : List ℕ) → begins (codes "'") cs ≡ false → behind_quote cs ≡ []
not_doubled [] h = refl
not_doubled (c ∷ cs) h = one_not_doubled (c == 39) (unquoted cs) h

pub unquoted-closed : (c : ℕ) (cs : List ℕ) → 1 ≤ length cs → get_or cs 0 c ≡ 39
    → begins (codes "'") (drop 1 cs) ≡ false → unquoted cs ≡ []
unquoted-closed c [] l e h = absurd (omega arith)
unquoted-closed c (d ∷ cs) l e h = rw e (not_doubled cs h)
