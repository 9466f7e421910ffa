-- What begins at a place of a grammar or command file: layout, a comment, a token, or none of these.
-- A text is the list of its characters. The table is this project's own profile of the language of the
-- ALE 3.2 User's Guide; which characters may start and continue a name is Unicode's XID_Start and XID_Continue.
use Rattle.std.specs.Prelude.{ℕ, suc, ◌<◌, drop, length, max, ◌+◌, ◌-◌, Bool, true, false, ◌&&◌, ◌||◌, not, ◌==◌, nat_le, nat_lt, List, [], ◌∷◌, Option, Some, None, if◌then◌else◌, codes}
use Prim.Native.Char.{code}
use Rattle.std.specs.Option.{option_map}
use Rattle.unicode_ident.specs.Ident.{is_xid_start, is_xid_continue}
use Rattle.ale_token.specs.declared.token.Kind.TheVariants.{Atom, Quoted, Variable, Number, Symbol, Other, End}
use Rattle.ale_token.specs.declared.pieces.Piece.{Piece}
use Rattle.ale_token.specs.declared.pieces.Piece.TheVariants.{Gap, Word, Bad}

-- whether the list has the character
abbrev pub one_of : List ℕ → ℕ → Bool
one_of [] c = false
one_of (d ∷ ds) c = (c == d) || one_of ds c

-- whether the text begins with these characters
abbrev pub begins : List ℕ → List ℕ → Bool
begins [] cs = true
begins (d ∷ ds) [] = false
begins (d ∷ ds) (c ∷ cs) = (c == d) && begins ds cs

-- how many characters the longest of these has that the text begins with, and 0 for none
abbrev pub longest : List (List ℕ) → List ℕ → ℕ
longest [] cs = 0
longest (s ∷ ss) cs = if begins s cs then max (length s) (longest ss cs) else longest ss cs

-- how many characters at the start pass the test
abbrev pub span : (ℕ → Bool) → List ℕ → ℕ
span passes [] = 0
span passes (c ∷ cs) = if passes c then suc (span passes cs) else 0

-- space, tab, line feed, carriage return
abbrev pub is_layout : ℕ → Bool
is_layout c = (c == 32) || (c == 9) || (c == 10) || (c == 13)

-- A to Z
abbrev pub is_capital : ℕ → Bool
is_capital c = nat_le (code "A") c && nat_le c (code "Z")

-- an ASCII digit
abbrev pub is_digit : ℕ → Bool
is_digit c = nat_le (code "0") c && nat_le c (code "9")

-- no line feed
abbrev pub is_in_line : ℕ → Bool
is_in_line c = not (c == 10)

-- a character that may start an identifier and is none of A to Z
abbrev pub starts_atom : ℕ → Bool
starts_atom c = is_xid_start c && not (is_capital c)

-- A to Z or the low line
abbrev pub starts_variable : ℕ → Bool
starts_variable c = is_capital c || (c == code "_")

-- the other characters that are tokens
abbrev pub is_other : ℕ → Bool
is_other = one_of (codes ".+-*\\^<~?#&${}")

-- the symbols of the language
unfoldable pub symbols : List (List ℕ)
symbols =
    codes "===>" ∷ codes "--->" ∷ codes "+++>" ∷ codes "**>" ∷ codes "=\\=" ∷ codes "==" ∷ codes "=@" ∷ codes ":-"
    ∷ codes "->" ∷ codes "\\+" ∷ codes "=" ∷ codes ":" ∷ codes "," ∷ codes ";" ∷ codes "(" ∷ codes ")" ∷ codes "["
    ∷ codes "]" ∷ codes "|" ∷ codes "@" ∷ codes "!" ∷ codes "/" ∷ codes ">" ∷ []

-- up to the next such character and over it: how many characters
abbrev pub up_to : ℕ → List ℕ → Option ℕ
up_to d [] = None
up_to d (c ∷ cs) = if c == d then Some 1 else option_map suc (up_to d cs)

-- after the start of a comment, up to the next "*/" and over it: how many characters
abbrev pub comment : List ℕ → Option ℕ
comment [] = None
comment (c ∷ cs) = if begins (codes "*/") (c ∷ cs) then Some 2 else option_map suc (comment cs)

-- after the quote that opens a name, up to the first quote that no quote follows and over it, where pairs of
-- quotes are read from the left: how many characters
abbrev mutual
  pub quoted : List ℕ → Option ℕ
  quoted [] = None
  quoted (c ∷ cs) = if c == code "'" then after_quote cs else option_map suc (quoted cs)

  -- after a quote, which may be the first of a pair
  pub after_quote : List ℕ → Option ℕ
  after_quote [] = Some 1
  after_quote (c ∷ cs) = if c == code "'" then option_map (λ n. n + 2) (quoted cs) else Some 1

-- what may follow the "." that ends a declaration: layout, a comment by "%" or the end of the text
abbrev pub ends_here : List ℕ → Bool
ends_here [] = true
ends_here (c ∷ cs) = is_layout c || (c == code "%")

-- a piece that reaches so far, or none where it is not closed
abbrev pub closed : (ℕ → Piece) → Option ℕ → Piece
closed reaches None = Bad
closed reaches (Some n) = reaches n

-- the last two rows of the table: a symbol, or another character or text between double quotes
abbrev pub mark_at : ℕ → List ℕ → Piece
mark_at c cs =
    if nat_lt 0 (longest symbols (c ∷ cs)) then Word Symbol (longest symbols (c ∷ cs) - 1)
    else if is_other c then Word Other 0
    else if c == code "\"" then closed (Word Other) (up_to (code "\"") cs)
    else Bad

-- the token that begins with the character `c`, before the text `cs`: the first row of the table that fits,
-- each as long as possible
abbrev pub token_at : ℕ → List ℕ → Piece
token_at c cs =
    if starts_atom c then Word Atom (span is_xid_continue cs)
    else if c == code "'" then closed (Word Quoted) (quoted cs)
    else if starts_variable c then Word Variable (span is_xid_continue cs)
    else if is_digit c then Word Number (span is_digit cs)
    else if (c == code ".") && ends_here cs then Word End 0
    else mark_at c cs

-- what begins at the start of the text; the number counts the characters after the first
unfoldable pub piece : List ℕ → Piece
piece [] = Bad
piece (c ∷ cs) =
    if is_layout c then Gap 0
    else if c == code "%" then Gap (span is_in_line cs)
    else if begins (codes "/*") (c ∷ cs) then closed (λ n. Gap (n + 1)) (comment (drop 1 cs))
    else token_at c cs

-- the piece ends within a text of so many characters
abbrev pub EndsWithin : ℕ → Piece → Type 0
EndsWithin count (Gap n) = n < count
EndsWithin count (Word kind n) = n < count
EndsWithin count Bad = Unit {0}
