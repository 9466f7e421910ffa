-- The tokens that a text reads as stand in it, one behind the other.
use Rattle.std.proofs.Common.{◌≡◌, ℕ, zero, suc, ◌+◌, ◌-◌, ◌<◌, ◌≤◌, true, List, [], ◌∷◌, ◌++◌, length, take, drop, refl, sym, ap, ◌∙◌, subst, arith, append_assoc}
use Rattle.std.specs.List.{All}
use Rattle.std.specs.Str.{chars, IsCharBoundary}
use Rattle.std.proofs.Math.Utf8.{encodes, scalars, scalar}
use Rattle.std.proofs.lemmas.Bool.{and_parts, and_from}
use Rattle.std.proofs.lemmas.List.{take_at, drop_at, take-append-drop}
use Rattle.std.proofs.lemmas.List.Elements.{All-nil, All-cons}
use Rattle.std.proofs.lemmas.Str.{chars-encodes, encodes-append, IsCharBoundary-at_seam, len_utf8_bounds}
use Rattle.ale_token.specs.declared.token.Kind.{Kind}
use Rattle.ale_token.specs.declared.token.Token.{Token}
use Rattle.ale_token.specs.declared.pieces.Piece.TheVariants.{Word}
use Rattle.ale_token.specs.Pieces.{piece}
use Rattle.ale_token.specs.Places.{Stands, InOrder}
use Rattle.ale_token.specs.Tokens.{byte_length, token, Reads, at_end, past_gap, past_token}
use Rattle.ale_token.proofs.Reading.{length-encodes, byte_length-append}

-- the tokens of a text are in order
pub Reads-InOrder : {place : ℕ} {cs : List ℕ} {ts : List Token} → Reads place cs ts → (low : ℕ) → low ≤ place → InOrder low ts
Reads-InOrder (at_end place) low h = tt
Reads-InOrder (past_gap place n c cs ts e r) low h = Reads-InOrder r low (omega arith)
Reads-InOrder (past_token place n kind c cs ts e r) low h =
    (h, Reads-InOrder r (place + byte_length (take (suc n) (c ∷ cs))) (omega arith))

-- the characters of a part of a text are characters of Unicode
scalars-take : (n : ℕ) (cs : List ℕ) → scalars cs ≡ true → scalars (take n cs) ≡ true
scalars-take zero cs h = refl
scalars-take (suc n) [] h = refl
scalars-take (suc n) (c ∷ cs) h =
    let parts = and_parts (scalar c) (scalars cs) h in
    and_from (scalar c) (scalars (take n cs)) parts.0 (scalars-take n cs parts.1)

scalars-drop : (n : ℕ) (cs : List ℕ) → scalars cs ≡ true → scalars (drop n cs) ≡ true
scalars-drop zero cs h = h
scalars-drop (suc n) [] h = refl
scalars-drop (suc n) (c ∷ cs) h = scalars-drop n cs (and_parts (scalar c) (scalars cs) h).1

-- a piece between two parts of a text
stands_between : (text ds xs ys : List ℕ) (kind : Kind) (n : ℕ)
    → text ≡ encodes (ds ++ (xs ++ ys)) → scalars xs ≡ true → scalars ys ≡ true → scalars (xs ++ ys) ≡ true
    → 0 < byte_length xs → piece (xs ++ ys) ≡ Word kind n → take (suc n) (xs ++ ys) ≡ xs
    → Stands text (record { kind = kind; from = byte_length ds; to = byte_length ds + byte_length xs })
stands_between text ds xs ys kind n is in_xs in_ys in_both long reads cut =
    let from = byte_length ds in
    let count = byte_length ds + byte_length xs - byte_length ds in
    let before : text ≡ encodes ds ++ encodes (xs ++ ys) = is ∙ encodes-append ds (xs ++ ys) in
    let after : text ≡ encodes (ds ++ xs) ++ encodes ys =
    is ∙ ap encodes (sym (append_assoc ds xs ys)) ∙ encodes-append (ds ++ xs) ys in
    let rest : drop from text ≡ encodes (xs ++ ys) =
    ap (drop from) before ∙ drop_at (encodes ds) (encodes (xs ++ ys)) from (length-encodes ds) in
    let there : chars (drop from text) ≡ xs ++ ys = ap chars rest ∙ chars-encodes (xs ++ ys) in_both in
    let short : length (encodes xs) ≡ count = length-encodes xs ∙ omega arith in
    let bytes : take count (drop from text) ≡ encodes xs =
    ap (take count) (rest ∙ encodes-append xs ys) ∙ take_at (encodes xs) (encodes ys) count short in
    record {
      rising = omega arith;
      starts = subst (IsCharBoundary text) (length-encodes ds)
          (IsCharBoundary-at_seam text (encodes ds) (encodes (xs ++ ys)) before (xs ++ ys, (in_both, refl)));
      ends = subst (IsCharBoundary text) (length-encodes (ds ++ xs) ∙ byte_length-append ds xs)
          (IsCharBoundary-at_seam text (encodes (ds ++ xs)) (encodes ys) after (ys, (in_ys, refl)));
      reads = (
        n,
        ap piece there ∙ reads,
        ap chars bytes ∙ chars-encodes xs in_xs ∙ sym (ap (take (suc n)) there ∙ cut),
      );
    }

-- the part of a text that a piece is, and what follows it
parted : (text ds cs : List ℕ) (n : ℕ) → text ≡ encodes (ds ++ cs) → text ≡ encodes (ds ++ (take n cs ++ drop n cs))
parted text ds cs n is = rw take-append-drop is

-- the tokens of what follows a part of a text stand in the text
pub Reads-Stands : {place : ℕ} {cs : List ℕ} {ts : List Token} → Reads place cs ts → (text ds : List ℕ)
    → place ≡ byte_length ds → text ≡ encodes (ds ++ cs) → scalars cs ≡ true → All (Stands text) ts
Reads-Stands (at_end place) text ds at is known = All-nil (Stands text)
Reads-Stands (past_gap place n c cs ts e r) text ds at is known =
    let xs = take (suc n) (c ∷ cs) in
    let ys = drop (suc n) (c ∷ cs) in
    Reads-Stands r text (ds ++ xs) (cc (byte_length-append ds xs))
    (parted text ds (c ∷ cs) (suc n) is ∙ ap encodes (sym (append_assoc ds xs ys))) (scalars-drop (suc n) (c ∷ cs) known)
Reads-Stands (past_token place n kind c cs ts e r) text ds at is known =
    let xs = take (suc n) (c ∷ cs) in
    let ys = drop (suc n) (c ∷ cs) in
    let all : xs ++ ys ≡ c ∷ cs = take-append-drop (suc n) (c ∷ cs) in
    let here = stands_between text ds xs ys kind n (parted text ds (c ∷ cs) (suc n) is)
    (scalars-take (suc n) (c ∷ cs) known) (scalars-drop (suc n) (c ∷ cs) known) (ap scalars all ∙ known)
    (omega (arith, len_utf8_bounds c)) (ap piece all ∙ e) (ap (take (suc n)) all) in
    All-cons (Stands text) (token kind place n (c ∷ cs)) ts
    (subst (λ p. Stands text (token kind p n (c ∷ cs))) (sym at) here)
    (Reads-Stands r text (ds ++ xs) (cc (byte_length-append ds xs))
    (parted text ds (c ∷ cs) (suc n) is ∙ ap encodes (sym (append_assoc ds xs ys))) (scalars-drop (suc n) (c ∷ cs) known))
