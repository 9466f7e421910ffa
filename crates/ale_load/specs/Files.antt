-- A file that is cut into its declarations or commands: the lexemes between its ends, in order.
use Rattle.std.specs.Prelude.{ℕ, ◌<◌, ◌≤◌, nat_lt, Result, Ok, Err, List, [], ◌∷◌, length, slice_range, if◌then◌else◌}
use Rattle.std.specs.Str.{chars, IsUtf8, is_utf8}
use Rattle.std.specs.Str.Lossy.{utf8_valid_len}
use Rattle.ale_token.specs.declared.token.Token.{Token}
use Rattle.ale_token.specs.declared.token.TokenError.{TokenError}
use Rattle.ale_token.specs.declared.token.TokenError.TheVariants.{BadToken, NoEnd}
use Rattle.ale_token.specs.declared.token.TokenError.TheVariants as tokens
use Rattle.ale_token.specs.Tokens.{Reads, BadAt, tokens_of}
use Rattle.ale_token.specs.Declarations.{Cuts, Unended, declarations_of}
use Rattle.ale_term.specs.declared.lexeme.Lexeme.{Lexeme}
use Rattle.ale_term.specs.Lexemes.{lexemes}
use Rattle.ale_load.specs.declared.file_error.FileError.{FileError}
use Rattle.ale_load.specs.declared.file_error.FileError.TheVariants.{TooLong, NotText, Unread, NoMemory}

-- the most bytes that a file may have
abbrev pub file_limit : ℕ
file_limit = 4194304

-- the lexemes of each range of tokens
abbrev pub parts : List ℕ → List Token → List (ℕ × ℕ) → List (List Lexeme)
parts bytes ts [] = []
parts bytes ts (r ∷ rs) = lexemes bytes (slice_range ts r.0 r.1) ∷ parts bytes ts rs

-- the bytes are a text that is not too long
pub record IsText (bytes : List ℕ) : Type 0 where
  pub short : length bytes ≤ file_limit
  pub utf8 : IsUtf8 bytes

-- The file is cut, or is refused: it has too many bytes; or it is no UTF-8, and its longest prefix that is has so many bytes;
-- or no token begins at p; or tokens that begin at p have no end.
pub data IsCut (bytes : List ℕ) : Result (List (List Lexeme)) FileError → Type 0 where
  too_long : file_limit < length bytes → IsCut bytes (Err TooLong)
  no_text : length bytes ≤ file_limit → (IsUtf8 bytes → ⊥) → IsCut bytes (Err (NotText (utf8_valid_len bytes)))
  bad_token : (p : ℕ) → IsText bytes → BadAt 0 (chars bytes) p → IsCut bytes (Err (Unread (BadToken p)))
  no_end : (ts : List Token) (p : ℕ) → IsText bytes → Reads 0 (chars bytes) ts → Unended ts p → IsCut bytes (Err (Unread (NoEnd p)))
  cut : (ts : List Token) (rs : List (ℕ × ℕ)) → IsText bytes → Reads 0 (chars bytes) ts → Cuts 0 ts rs → IsCut bytes (Ok (parts bytes ts rs))

-- why a file with such tokens is not cut
abbrev pub token_fault : TokenError → FileError
token_fault (BadToken p) = Unread (BadToken p)
token_fault (NoEnd p) = Unread (NoEnd p)
token_fault tokens.NoMemory = NoMemory

-- the same as a function, stage by stage
abbrev pub unread : {A : Type 0} → Result A TokenError → Result A FileError
unread (Ok x) = Ok x
unread (Err e) = Err (Unread e)

abbrev pub next : {A B : Type 0} → Result A FileError → (A → Result B FileError) → Result B FileError
next (Ok x) later = later x
next (Err e) later = Err e

abbrev pub tokens_cut : List ℕ → Result (List (List Lexeme)) FileError
tokens_cut text =
    next (unread (tokens_of (chars text))) (λ ts. next (unread (declarations_of ts)) (λ rs. Ok (parts text ts rs)))

abbrev pub text_cut : List ℕ → Result (List (List Lexeme)) FileError
text_cut bytes = if is_utf8 bytes then tokens_cut bytes else Err (NotText (utf8_valid_len bytes))

abbrev pub cut_of : List ℕ → Result (List (List Lexeme)) FileError
cut_of bytes = if nat_lt file_limit (length bytes) then Err TooLong else text_cut bytes
