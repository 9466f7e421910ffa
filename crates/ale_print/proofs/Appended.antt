-- How what is written piece by piece comes together.
use Rattle.std.proofs.Common.{◌≡◌, ℕ, ◌<◌, ◌^◌, ◌++◌, true, false, List, Result, Ok, Err, OnOk, is_ok, String, string_bytes, codes, refl, sym, ap, ◌∙◌, append_assoc}
use Rattle.std.specs.Prelude.{encode_utf8_all, if◌then◌else◌}
use Rattle.std.specs.Str.{chars}
use Rattle.std.specs.Fmt.{decimal}
use Rattle.std.proofs.lemmas.Str.{encodes-append, encodes-IsAscii, chars_from_encodes, IsUtf8-string_bytes}
use Rattle.std.proofs.lemmas.Fmt.{IsAscii-decimal}
use Rattle.ale_token.specs.Names.{in_quotes}
use Rattle.ale_print.specs.Naming.{is_atom, printed_name}
use Rattle.ale_print.specs.Texts.{tag_text}

pub on_ok : {T E P Q : Type 0} (r : Result T E) → (P → Q) → OnOk r P → OnOk r Q
on_ok (Ok x) f p = f p
on_ok (Err e) f p = p

-- one text after another
pub both : (old mid new x y : List ℕ) → mid ≡ old ++ encode_utf8_all x → new ≡ mid ++ encode_utf8_all y
    → new ≡ old ++ encode_utf8_all (x ++ y)
both old mid new x y first second =
    second
    ∙ ap (λ z. z ++ encode_utf8_all y) first
    ∙ append_assoc old (encode_utf8_all x) (encode_utf8_all y)
    ∙ ap (λ z. old ++ z) (sym (encodes-append x y))

-- a loop's text so far, and one more
pub one_more : (old mid new x y all : List ℕ) → mid ++ encode_utf8_all (x ++ y) ≡ old ++ encode_utf8_all all
    → new ≡ mid ++ encode_utf8_all x → new ++ encode_utf8_all y ≡ old ++ encode_utf8_all all
one_more old mid new x y all so_far this =
    ap (λ z. z ++ encode_utf8_all y) this
    ∙ append_assoc mid (encode_utf8_all x) (encode_utf8_all y)
    ∙ ap (λ z. mid ++ z) (sym (encodes-append x y))
    ∙ so_far

-- a text of bytes that are its characters
pub plain : (mid new y : List ℕ) → encode_utf8_all y ≡ y → new ≡ mid ++ y → new ≡ mid ++ encode_utf8_all y
plain mid new y same is = is ∙ ap (λ z. mid ++ z) (sym same)

pub said : {E : Type 0} (r : Result (Unit {0}) E) (mid new bytes y : List ℕ) → bytes ≡ encode_utf8_all y
    → new ≡ (if is_ok r then mid ++ bytes else mid) → OnOk r (new ≡ mid ++ encode_utf8_all y)
said (Ok x) mid new bytes y same is = is ∙ ap (λ z. mid ++ z) same
said (Err e) mid new bytes y same is = tt

pub equals : codes " = " ≡ encode_utf8_all (codes " = ")
unfolding lib.Utf8.encode
equals = refl

pub colon : codes ": " ≡ encode_utf8_all (codes ": ")
unfolding lib.Utf8.encode
colon = refl

pub space : codes " " ≡ encode_utf8_all (codes " ")
unfolding lib.Utf8.encode
space = refl

pub two_spaces : codes "  " ≡ encode_utf8_all (codes "  ")
unfolding lib.Utf8.encode
two_spaces = refl

pub new_line : codes "\n" ≡ encode_utf8_all (codes "\n")
unfolding lib.Utf8.encode
new_line = refl

pub differs : codes " =\\= " ≡ encode_utf8_all (codes " =\\= ")
unfolding lib.Utf8.encode
differs = refl

pub also : codes "also " ≡ encode_utf8_all (codes "also ")
unfolding lib.Utf8.encode
also = refl

pub unbound : codes "_" ≡ encode_utf8_all (codes "_")
unfolding lib.Utf8.encode
unbound = refl

-- digits are bytes as they are characters
pub tag_bytes : (k : ℕ) → k < 2 ^ 64 → tag_text k ≡ encode_utf8_all (tag_text k)
unfolding lib.Utf8.encode
tag_bytes k small =
    sym
    (encodes-append (codes "[") (decimal k ++ codes "]")
    ∙ ap (λ z. codes "[" ++ z) (encodes-append (decimal k) (codes "]") ∙ ap (λ z. z ++ codes "]") (encodes-IsAscii (decimal k) (IsAscii-decimal k small))))

-- a name that reads as an atom, and one that doesn't
pub as_atom : (cs : List ℕ) → is_atom cs ≡ true → printed_name cs ≡ cs
as_atom cs h = ap (λ b. if b then cs else in_quotes cs) h

pub as_quoted : (cs : List ℕ) → is_atom cs ≡ false → printed_name cs ≡ in_quotes cs
as_quoted cs h = ap (λ b. if b then cs else in_quotes cs) h

-- what was written to an empty text are its characters
pub whole : {Z : Type 0} (new : String Z) (cs : List ℕ) → string_bytes new ≡ encode_utf8_all cs → chars (string_bytes new) ≡ cs
whole new cs is = sym (chars_from_encodes cs (string_bytes new) (IsUtf8-string_bytes new) (sym is))
