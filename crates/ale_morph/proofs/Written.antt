-- How what is written piece by piece comes together.
use Rattle.std.proofs.Common.{◌≡◌, ℕ, zero, suc, ◌+◌, ◌<◌, ◌≤◌, List, [], ◌∷◌, ◌++◌, length, get_or, drop, Result, Ok, Err, IfOk, refl, sym, ap, ◌∙◌, append_assoc, arith}
use Rattle.std.specs.Prelude.{encode_utf8_all}
use Rattle.std.specs.Str.{chars, IsUtf8}
use Rattle.std.proofs.Math.Seq.{drop-cons}
use Rattle.std.proofs.lemmas.List.{append-nil}
use Rattle.std.proofs.lemmas.Str.{encodes-append, chars_from_encodes}
use Rattle.ale_morph.specs.declared.line.Piece.{Piece}
use Rattle.ale_morph.specs.Fits.{Texts, part, spell}

-- one more
pub written_more : (before after x y all : List ℕ) → before ++ encode_utf8_all (x ++ y) ≡ all → after ≡ before ++ encode_utf8_all x
    → after ++ encode_utf8_all y ≡ all
written_more before after x y all so_far this =
    ap (λ z. z ++ encode_utf8_all y) this
    ∙ append_assoc before (encode_utf8_all x) (encode_utf8_all y)
    ∙ ap (λ z. before ++ z) (sym (encodes-append x y))
    ∙ so_far

pub spell_from : (texts : Texts) (pieces : List Piece) (i next : ℕ) (piece : Piece) → i < length pieces → piece ≡ get_or pieces i piece → next ≡ i + 1
    → spell texts (drop i pieces) ≡ part texts piece ++ spell texts (drop next pieces)
spell_from texts pieces i next piece less is at_next =
    let e : suc i ≡ next = omega arith in
    ap (spell texts) (drop-cons pieces i piece less)
    ∙ ap (λ p. part texts p ++ spell texts (drop (suc i) pieces)) (sym is)
    ∙ ap (λ n. part texts piece ++ spell texts (drop n pieces)) e

none_left : (pieces : List Piece) (i : ℕ) → length pieces ≤ i → drop i pieces ≡ []
none_left [] zero le = refl
none_left [] (suc i) le = refl
none_left (piece ∷ pieces) zero le = absurd (omega arith)
none_left (piece ∷ pieces) (suc i) le = none_left pieces i (omega arith)

-- all of it
pub written_whole : (texts : Texts) (pieces : List Piece) (i : ℕ) (bytes : List ℕ) → IsUtf8 bytes → length pieces ≤ i
    → bytes ++ encode_utf8_all (spell texts (drop i pieces)) ≡ encode_utf8_all (spell texts pieces) → chars bytes ≡ spell texts pieces
written_whole texts pieces i bytes utf8 le so_far =
    sym (chars_from_encodes (spell texts pieces) bytes utf8
    (sym so_far ∙ ap (λ ps. bytes ++ encode_utf8_all (spell texts ps)) (none_left pieces i le) ∙ append-nil bytes))

pub if_ok : {T E : Type 0} {P Q : T → Type 0} (r : Result T E) → ((x : T) → P x → Q x) → IfOk r P → IfOk r Q
if_ok (Ok x) f p = f x p
if_ok (Err e) f p = p
