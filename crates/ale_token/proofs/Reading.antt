-- The function that reads tokens gives what the relation says, and the relation has one answer for each text.
use Rattle.std.proofs.Common.{◌≡◌, ℕ, zero, suc, ◌+◌, ◌<◌, ◌≤◌, List, [], ◌∷◌, ◌++◌, length, take, drop, Result, Ok, Err, refl, sym, ap, ◌∙◌, subst, inl, inr, arith, add-zero, add_assoc, append_assoc}
use Rattle.std.specs.Char.{len_utf8}
use Rattle.std.proofs.Math.Utf8.{encodes, encode}
use Rattle.std.proofs.lemmas.Str.{length-encode}
use Rattle.std.proofs.lemmas.List.{length-append, length-drop}
use Rattle.ale_token.specs.declared.token.TokenError.{TokenError}
use Rattle.ale_token.specs.declared.token.Token.{Token}
use Rattle.ale_token.specs.declared.token.Kind.{Kind}
use Rattle.ale_token.specs.declared.token.TokenError.TheVariants.{BadToken}
use Rattle.ale_token.specs.declared.pieces.Piece.{Piece}
use Rattle.ale_token.specs.declared.pieces.Piece.TheVariants.{Gap, Word, Bad}
use Rattle.ale_token.specs.Pieces.{piece}
use Rattle.ale_token.specs.Tokens.{byte_length, token, Reads, at_end, past_gap, past_token, BadAt, here, after_gap, after_token, with_front, begun, tokens_from, ReadOrBad}

-- the bytes of a text are as many as its characters take
pub length-encodes : (cs : List ℕ) → length (encodes cs) ≡ byte_length cs
length-encodes [] = refl
length-encodes (c ∷ cs) = rw (length-append (encode c) (encodes cs), length-encode c, length-encodes cs) refl

-- two texts, one after the other
pub byte_length-append : (cs ds : List ℕ) → byte_length (cs ++ ds) ≡ byte_length cs + byte_length ds
byte_length-append [] ds = omega arith
byte_length-append (c ∷ cs) ds = let r = byte_length-append cs ds in omega arith

-- these before those, before what comes later
pub with_front-append : {A : Type 0} (xs ys : List A) (later : Result (List A) TokenError)
    → with_front (xs ++ ys) later ≡ with_front xs (with_front ys later)
with_front-append xs ys (Ok zs) = ap Ok (append_assoc xs ys zs)
with_front-append xs ys (Err e) = refl

-- the rest of a piece is passed
pub tokens_from-passes : (n place : ℕ) (cs : List ℕ)
    → tokens_from place n cs ≡ tokens_from (place + byte_length (take n cs)) 0 (drop n cs)
tokens_from-passes zero place [] = refl
tokens_from-passes zero place (c ∷ cs) = ap (λ p. tokens_from p 0 (c ∷ cs)) (sym (add-zero place))
tokens_from-passes (suc n) place [] = refl
tokens_from-passes (suc n) place (c ∷ cs) =
    tokens_from-passes n (place + len_utf8 c) cs
    ∙ ap (λ p. tokens_from p 0 (drop n cs)) (add_assoc place (len_utf8 c) (byte_length (take n cs)))

-- the function at a gap
pub tokens_from-gap : (place n : ℕ) (cs : List ℕ) → piece cs ≡ Gap n
    → tokens_from place 0 cs ≡ tokens_from (place + byte_length (take (suc n) cs)) 0 (drop (suc n) cs)
unfolding piece
tokens_from-gap place n [] e = cc
tokens_from-gap place n (c ∷ cs) e =
    ap (λ p. begun p place (c ∷ cs) (λ k. tokens_from (place + len_utf8 c) k cs)) e
    ∙ tokens_from-passes (suc n) place (c ∷ cs)

-- the function at a token
pub tokens_from-token : (place n : ℕ) (kind : Kind) (cs : List ℕ) → piece cs ≡ Word kind n
    → tokens_from place 0 cs
    ≡ with_front (token kind place n cs ∷ []) (tokens_from (place + byte_length (take (suc n) cs)) 0 (drop (suc n) cs))
unfolding piece
tokens_from-token place n kind [] e = cc
tokens_from-token place n kind (c ∷ cs) e =
    ap (λ p. begun p place (c ∷ cs) (λ k. tokens_from (place + len_utf8 c) k cs)) e
    ∙ ap (with_front (token kind place n (c ∷ cs) ∷ [])) (tokens_from-passes (suc n) place (c ∷ cs))

-- the function where nothing begins
pub tokens_from-bad : (place : ℕ) (cs : List ℕ) → 0 < length cs → piece cs ≡ Bad
    → tokens_from place 0 cs ≡ Err (BadToken place)
tokens_from-bad place [] h e = absurd (omega arith)
tokens_from-bad place (c ∷ cs) h e =
    ap (λ p. begun p place (c ∷ cs) (λ k. tokens_from (place + len_utf8 c) k cs)) e

-- what the relation reads, the function gives
pub Reads-tokens_from : {place : ℕ} {cs : List ℕ} {ts : List Token} → Reads place cs ts → tokens_from place 0 cs ≡ Ok ts
Reads-tokens_from (at_end place) = refl
Reads-tokens_from (past_gap place n c cs ts e r) = tokens_from-gap place n (c ∷ cs) e ∙ Reads-tokens_from r
Reads-tokens_from (past_token place n kind c cs ts e r) =
    tokens_from-token place n kind (c ∷ cs) e ∙ ap (with_front (token kind place n (c ∷ cs) ∷ [])) (Reads-tokens_from r)

-- where the relation finds a bad place, the function does
pub BadAt-tokens_from : {place : ℕ} {cs : List ℕ} {bad : ℕ} → BadAt place cs bad
    → tokens_from place 0 cs ≡ Err (BadToken bad)
BadAt-tokens_from (here place c cs e) = tokens_from-bad place (c ∷ cs) (omega arith) e
BadAt-tokens_from (after_gap place n c cs bad e b) = tokens_from-gap place n (c ∷ cs) e ∙ BadAt-tokens_from b
BadAt-tokens_from (after_token place n kind c cs bad e b) =
    tokens_from-token place n kind (c ∷ cs) e ∙ ap (with_front (token kind place n (c ∷ cs) ∷ [])) (BadAt-tokens_from b)

-- a text is read or bad, as the text behind its first piece is
one_piece : (place c : ℕ) (cs : List ℕ) (p : Piece) → piece (c ∷ cs) ≡ p
    → ((n : ℕ) → ReadOrBad (place + byte_length (take (suc n) (c ∷ cs))) (drop (suc n) (c ∷ cs)))
    → ReadOrBad place (c ∷ cs)
one_piece place c cs (Gap n) e later =
    elim (later n) [
      | inl r ↦ inl (r.0, past_gap place n c cs r.0 e r.1)
      | inr b ↦ inr (b.0, after_gap place n c cs b.0 e b.1)
    ]
one_piece place c cs (Word kind n) e later =
    elim (later n) [
      | inl r ↦ inl (token kind place n (c ∷ cs) ∷ r.0, past_token place n kind c cs r.0 e r.1)
      | inr b ↦ inr (b.0, after_token place n kind c cs b.0 e b.1)
    ]
one_piece place c cs Bad e later = inr (place, here place c cs e)

-- each text of so many characters is read or bad
read_or_bad_below : (k place : ℕ) (cs : List ℕ) → length cs ≤ k → ReadOrBad place cs
read_or_bad_below k place [] h = inl ([], at_end place)
read_or_bad_below zero place (c ∷ cs) h = absurd (omega arith)
read_or_bad_below (suc k) place (c ∷ cs) h =
    one_piece place c cs (piece (c ∷ cs)) refl
    (λ n. read_or_bad_below k (place + byte_length (take (suc n) (c ∷ cs))) (drop n cs) (omega (arith, length-drop n cs)))

pub read_or_bad : (place : ℕ) (cs : List ℕ) → ReadOrBad place cs
read_or_bad place cs = read_or_bad_below (length cs) place cs (omega arith)

-- what the function gives, the relation reads
pub tokens_from-Reads : (place : ℕ) (cs : List ℕ) (ts : List Token) → tokens_from place 0 cs ≡ Ok ts → Reads place cs ts
tokens_from-Reads place cs ts e =
    elim (read_or_bad place cs) [
      | inl r ↦ let f = Reads-tokens_from r.1 in let same : r.0 ≡ ts = cc in subst (Reads place cs) same r.1
      | inr b ↦ let f = BadAt-tokens_from b.1 in cc
    ]

-- where the function finds a bad place, the relation does, and it finds no other error
pub tokens_from-BadAt : (place : ℕ) (cs : List ℕ) (e : TokenError) → tokens_from place 0 cs ≡ Err e
    → (bad : ℕ) × (e ≡ BadToken bad) × BadAt place cs bad
tokens_from-BadAt place cs e f =
    elim (read_or_bad place cs) [
      | inl r ↦ let g = Reads-tokens_from r.1 in cc
      | inr b ↦ let g = BadAt-tokens_from b.1 in (b.0, cc, b.1)
    ]
