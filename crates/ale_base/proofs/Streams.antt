-- One write after another, and one read after another, where the bytes are told.
use Rattle.std.proofs.Common.{ℕ, ◌+◌, ◌<◌, ◌≡◌, List, ◌++◌, ◌≤◌, ◌⊎◌, inr, length, take, drop, Option, None, Some, IfSome, sym, ◌∙◌, ap, arith, append_assoc, length-append}
use Rattle.std.proofs.Math.Seq.{take-add, drop-append_seam}
use Rattle.std.specs.Io.KnownBytes.{Appends, Consumes}
use Rattle.ale_base.specs.Readings.{TookAtMost}

-- the front of the bytes was appended, and then some of the rest
pub appends-more : (old mid new : Option (List ℕ)) (bytes : List ℕ) (done count : ℕ)
    → Appends old mid (take done bytes) → Appends mid new (take count (drop done bytes)) → Appends old new (take (done + count) bytes)
appends-more None mid new bytes done count first second = tt
appends-more (Some xs) None new bytes done count first second = absurd first
appends-more (Some xs) (Some ys) None bytes done count first second = absurd second
appends-more (Some xs) (Some ys) (Some zs) bytes done count first second =
    second ∙ ap (λ l. l ++ take count (drop done bytes)) first
    ∙ append_assoc xs (take done bytes) (take count (drop done bytes))
    ∙ ap (λ l. xs ++ l) (sym (take-add done count bytes))

-- some bytes were consumed, and then a piece
pub consumes-more : (content mid new : Option (List ℕ)) (bytes piece : List ℕ)
    → IfSome content (λ all. Consumes (Some all) mid bytes) → Consumes mid new piece
    → IfSome content (λ all. Consumes (Some all) new (bytes ++ piece))
consumes-more None mid new bytes piece first second = tt
consumes-more (Some all) None new bytes piece first second = absurd first
consumes-more (Some all) (Some ys) None bytes piece first second = absurd second
consumes-more (Some all) (Some ys) (Some zs) bytes piece first second =
    first ∙ ap (λ l. bytes ++ l) second ∙ sym (append_assoc bytes piece zs)

-- what was consumed stands at the front, and what is left stands after it
pub consumed-front : (all taken rest : List ℕ) (len : ℕ) → all ≡ taken ++ rest → len ≡ length taken
    → rest ≡ drop len all
consumed-front all taken rest len is len_is =
    sym (drop-append_seam taken rest) ∙ ap (λ n. drop n (taken ++ rest)) (sym len_is) ∙ ap (λ l. drop len l) (sym is)

-- more bytes were consumed than the limit, so the content is longer
pub consumes-too_long : (content mid new : Option (List ℕ)) (bytes piece : List ℕ) (limit : ℕ) (fault : Type 0)
    → IfSome content (λ all. Consumes (Some all) mid bytes) → Consumes mid new piece
    → limit + 1 ≡ length bytes + length piece
    → IfSome content (λ all. fault → (limit < length all) × (new ≡ Some (drop (limit + 1) all)))
consumes-too_long None mid new bytes piece limit fault first second len = tt
consumes-too_long (Some all) None new bytes piece limit fault first second len = absurd first
consumes-too_long (Some all) (Some ys) None bytes piece limit fault first second len = absurd second
consumes-too_long (Some all) (Some ys) (Some zs) bytes piece limit fault first second len =
    let is : all ≡ (bytes ++ piece) ++ zs = first ∙ ap (λ l. bytes ++ l) second ∙ sym (append_assoc bytes piece zs) in
    let taken : limit + 1 ≡ length (bytes ++ piece) = len ∙ sym (length-append bytes piece) in
    λ (_ : fault). (
      (let longer : length all ≡ length (bytes ++ piece) + length zs = ap length is ∙ length-append (bytes ++ piece) zs in omega arith),
      ap Some (consumed-front all (bytes ++ piece) zs (limit + 1) is taken),
    )

-- no more bytes were consumed than the limit
pub consumes-within : (content mid new : Option (List ℕ)) (bytes piece : List ℕ) (limit : ℕ) (first second : Type 0)
    → IfSome content (λ all. Consumes (Some all) mid bytes) → Consumes mid new piece
    → length bytes + length piece ≤ limit
    → IfSome content (λ all. first ⊎ second ⊎ TookAtMost limit all new)
consumes-within None mid new bytes piece limit first second taken more within = tt
consumes-within (Some all) mid new bytes piece limit first second taken more within =
    inr (inr (bytes ++ piece, (let len : length (bytes ++ piece) ≡ length bytes + length piece = length-append bytes piece in omega arith), consumes-more (Some all) mid new bytes piece taken more))
