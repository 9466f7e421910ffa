-- What the reading of a file comes to, of bytes that are stated or of any.
use Rattle.std.proofs.Common.{◌≡◌, ℕ, suc, ◌<◌, ◌≤◌, Option, None, Some, IfOk, List, length, replicate, refl, sym, ap, subst, arith, Result, Err}
use Rattle.std.specs.Prelude.{IfSome}
use Rattle.ale_base.specs.declared.reading.ReadError.{ReadError}
use Rattle.ale_base.specs.declared.reading.ReadError.TheVariants as read
use Rattle.ale_load.specs.Files.{file_limit}
use Rattle.ale_print.proofs.Underway.{length_replicate}
use Rattle.ale_top.specs.Reports.{IsInputOf, unread}
use Rattle.ale_top.specs.Runs.{AsStated}

-- some bytes are more than a number of them
longer : (n : ℕ) → (bytes : List ℕ) × (n < length bytes)
longer n =
    let e : length (replicate (suc n) 0) ≡ suc n = length_replicate (suc n) 0 in
    (replicate (suc n) 0, subst (λ z. n < z) (sym e) (omega arith))

pub unread_input : (stated : Option (List ℕ)) (e : ReadError) → IfSome stated (λ all. e ≡ read.TooLong → file_limit < length all) → IfOk (unread e) (IsInputOf stated)
unread_input None read.TooLong h = let r = longer file_limit in (r.0, tt, r.1)
unread_input (Some all) read.TooLong h = (all, refl, h refl)
unread_input stated read.Failed h = tt
unread_input stated read.NoMemory h = tt

pub whole_input : (stated : Option (List ℕ)) (bytes : List ℕ) → IfSome stated (λ all. bytes ≡ all) → length bytes ≤ file_limit
    → (b : List ℕ) × AsStated stated b × (bytes ≡ b) × (length b ≤ file_limit)
whole_input None bytes h low = (bytes, tt, refl, low)
whole_input (Some all) bytes e low = (bytes, sym e, refl, low)

-- what a read says of a file that is too long
pub too_long : (T : Type 0) (P : List ℕ → Type 0) (stated : Option (List ℕ)) (e : ReadError)
    → IfSome stated (λ all. ◌≡◌ {A = Result T ReadError} (Err e) (Err read.TooLong) → (file_limit < length all) × P all)
    → IfSome stated (λ all. e ≡ read.TooLong → file_limit < length all)
too_long T P None e h = tt
too_long T P (Some all) e h = λ same. (h (ap (λ z. Err z) same)).0
