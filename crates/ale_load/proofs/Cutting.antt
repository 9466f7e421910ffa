-- A file is cut in one way or refused for one cause, which the function gives.
use Rattle.std.proofs.Common.{◌≡◌, ℕ, ◌<◌, ◌≤◌, ◌⊎◌, inl, inr, Bool, true, false, cond, ltb, List, Result, Ok, Err, length, refl, sym, ap, ◌∙◌, subst, arith}
use Rattle.std.specs.Str.{chars, is_utf8}
use Rattle.std.specs.Str.Lossy.{utf8_valid_len}
use Rattle.std.proofs.lemmas.Str.{IsUtf8-from_is_utf8, is_utf8-from_IsUtf8}
use Rattle.std.proofs.lemmas.Bool.Decides.{Decides-ltb, nat_tests}
use Rattle.ale_token.specs.declared.token.Token.{Token}
use Rattle.ale_token.specs.declared.token.TokenError.TheVariants.{BadToken, NoEnd}
use Rattle.ale_token.specs.Tokens.{Reads, ReadOrBad}
use Rattle.ale_token.specs.Declarations.{CutOrUnended}
use Rattle.ale_token.proofs.Reading.{Reads-tokens_from, BadAt-tokens_from, read_or_bad}
use Rattle.ale_token.proofs.Cutting.{Cuts-cut_on, Unended-cut_on, cut_or_unended}
use Rattle.ale_term.specs.declared.lexeme.Lexeme.{Lexeme}
use Rattle.ale_load.specs.declared.file_error.FileError.{FileError}
use Rattle.ale_load.specs.declared.file_error.FileError.TheVariants.{TooLong, NotText, Unread}
use Rattle.ale_load.specs.Files.{file_limit, parts, IsText, IsCut, too_long, no_text, bad_token, no_end, cut, tokens_cut, text_cut, cut_of}

abbrev Cutting : Type 0
Cutting = Result (List (List Lexeme)) FileError

is_long : (bytes : List ℕ) → file_limit < length bytes → cut_of bytes ≡ Err TooLong
is_long bytes low = ap (λ b. cond b (let e : Cutting = Err TooLong in e) (text_cut bytes)) ((Decides-ltb file_limit (length bytes)).1 low)

is_short : (bytes : List ℕ) → length bytes ≤ file_limit → cut_of bytes ≡ text_cut bytes
is_short bytes high =
    let e : ltb file_limit (length bytes) ≡ false = grind (arith, nat_tests) in
    ap (λ b. cond b (let e : Cutting = Err TooLong in e) (text_cut bytes)) e

is_read : (bytes : List ℕ) → IsText bytes → cut_of bytes ≡ tokens_cut bytes
is_read bytes is =
    is_short bytes is.short
    ∙ ap (λ b. cond b (tokens_cut bytes) (let e : Cutting = Err (NotText (utf8_valid_len bytes)) in e)) (is_utf8-from_IsUtf8 bytes is.utf8)

pub false_from : (b : Bool) → (b ≡ true → ⊥) → b ≡ false
false_from true never = absurd (never refl)
false_from false never = refl

-- what the relation says is what the function gives
pub cut_given : (bytes : List ℕ) (r : Result (List (List Lexeme)) FileError) → IsCut bytes r → cut_of bytes ≡ r
cut_given bytes r (too_long low) = is_long bytes low
cut_given bytes r (no_text short other) =
    is_short bytes short
    ∙ ap (λ b. cond b (tokens_cut bytes) (let e : Cutting = Err (NotText (utf8_valid_len bytes)) in e))
    (false_from (is_utf8 bytes) (λ e. other (IsUtf8-from_is_utf8 bytes e)))
cut_given bytes r (bad_token p is bad) = is_read bytes is ∙ rw (BadAt-tokens_from bad) refl
cut_given bytes r (no_end ts p is read missing) = is_read bytes is ∙ rw (Reads-tokens_from read, Unended-cut_on missing 0) refl
cut_given bytes r (cut ts rs is read cuts) = is_read bytes is ∙ rw (Reads-tokens_from read, Cuts-cut_on cuts) refl

-- some cutting or cause is defined for all bytes
pub record HasCut (bytes : List ℕ) : Type 0 where
  pub cutting : Result (List (List Lexeme)) FileError
  pub is : IsCut bytes cutting

made_ranges : (bytes : List ℕ) (ts : List Token) → IsText bytes → Reads 0 (chars bytes) ts → CutOrUnended 0 ts → HasCut bytes
made_ranges bytes ts is read (inl c) = record { cutting = Ok (parts bytes ts (c.0)); is = cut ts (c.0) is read (c.1) }
made_ranges bytes ts is read (inr u) = record { cutting = Err (Unread (NoEnd (u.0))); is = no_end ts (u.0) is read (u.1) }

made_tokens : (bytes : List ℕ) → IsText bytes → ReadOrBad 0 (chars bytes) → HasCut bytes
made_tokens bytes is (inl r) = made_ranges bytes (r.0) is (r.1) (cut_or_unended 0 (r.0))
made_tokens bytes is (inr b) = record { cutting = Err (Unread (BadToken (b.0))); is = bad_token (b.0) is (b.1) }

made_text : (bytes : List ℕ) → length bytes ≤ file_limit → (b : Bool) → is_utf8 bytes ≡ b → HasCut bytes
made_text bytes short true e =
    let utf8 = IsUtf8-from_is_utf8 bytes e in
    made_tokens bytes (record { short = short; utf8 = utf8 }) (read_or_bad 0 (chars bytes))
made_text bytes short false e =
    record { cutting = Err (NotText (utf8_valid_len bytes)); is = no_text short (λ utf8. apart (sym (is_utf8-from_IsUtf8 bytes utf8) ∙ e)) }
  where
    apart : true ≡ false → ⊥
    apart e = absurd cc

pub has_cut : (bytes : List ℕ) → HasCut bytes
has_cut bytes = go (grind arith)
  where
    go : (file_limit < length bytes) ⊎ (length bytes ≤ file_limit) → HasCut bytes
    go (inl low) = record { cutting = Err TooLong; is = too_long low }
    go (inr short) = made_text bytes short (is_utf8 bytes) refl

pub cut_made : (bytes : List ℕ) → IsCut bytes (cut_of bytes)
cut_made bytes = let h = has_cut bytes in subst (IsCut bytes) (sym (cut_given bytes h.cutting h.is)) h.is
