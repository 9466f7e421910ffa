-- The function that cuts tokens gives what the relation says, and the relation has one answer.
use Rattle.std.proofs.Common.{◌≡◌, ◌≢◌, ◌⊎◌, ℕ, ◌+◌, ◌-◌, ◌<◌, ◌≤◌, true, false, List, [], ◌∷◌, ◌++◌, length, take, drop, get_or, Ok, Err, refl, sym, ap, ◌∙◌, subst, inl, inr, arith, append_assoc}
use Rattle.std.proofs.lemmas.List.{append-nil, take_more, drop_more, drop_all, take_rest, get_or-drop, length-drop, length-take-le}
use Rattle.ale_token.specs.declared.token.Kind.{Kind}
use Rattle.ale_token.specs.declared.token.Kind.TheVariants.{Atom, Quoted, Variable, Number, Symbol, Other, End}
use Rattle.ale_token.specs.declared.token.Token.{Token}
use Rattle.ale_token.specs.declared.token.TokenError.{TokenError}
use Rattle.ale_token.specs.declared.token.TokenError.TheVariants.{NoEnd}
use Rattle.ale_token.specs.Tokens.{with_front}
use Rattle.ale_token.specs.Declarations.{HasNoEnd, Cuts, nothing, declaration, Unended, at_last, after_end, CutOrUnended, is_end, left_over, cut_on, declarations_of}

-- the test and the fact that it tests
is_end-false : (kind : Kind) → kind ≢ End → is_end kind ≡ false
is_end-false End h = absurd (h refl)
is_end-false Atom h = refl
is_end-false Quoted h = refl
is_end-false Variable h = refl
is_end-false Number h = refl
is_end-false Symbol h = refl
is_end-false Other h = refl

is_end_cases : (kind : Kind) → (kind ≡ End) ⊎ (kind ≢ End)
is_end_cases End = inl refl
is_end_cases Atom = inr (λ e. cc)
is_end_cases Quoted = inr (λ e. cc)
is_end_cases Variable = inr (λ e. cc)
is_end_cases Number = inr (λ e. cc)
is_end_cases Symbol = inr (λ e. cc)
is_end_cases Other = inr (λ e. cc)

-- the function at a token
pub cut_on-more : (i : ℕ) (xs : List Token) (t : Token) (ts : List Token) → is_end t.kind ≡ false
    → cut_on i xs (t ∷ ts) ≡ cut_on i (xs ++ t ∷ []) ts
cut_on-more i xs t ts e = rw e refl

pub cut_on-end : (i : ℕ) (xs : List Token) (t : Token) (ts : List Token) → is_end t.kind ≡ true
    → cut_on i xs (t ∷ ts) ≡ with_front ((i, i + length xs) ∷ []) (cut_on (i + length xs + 1) [] ts)
cut_on-end i xs t ts e = rw e refl

-- tokens that are no ends are passed
cut_on-passes : (i : ℕ) (xs ys ts : List Token) → HasNoEnd ys → cut_on i xs (ys ++ ts) ≡ cut_on i (xs ++ ys) ts
cut_on-passes i xs [] ts h = ap (λ zs. cut_on i zs ts) (sym (append-nil xs))
cut_on-passes i xs (y ∷ ys) ts h =
    cut_on-more i xs y (ys ++ ts) (is_end-false y.kind h.0)
    ∙ cut_on-passes i (xs ++ y ∷ []) ys ts h.1
    ∙ ap (λ zs. cut_on i zs ts) (append_assoc xs (y ∷ []) ys)

-- what the relation cuts, the function does
pub Cuts-cut_on : {i : ℕ} {ts : List Token} {ranges : List (ℕ × ℕ)} → Cuts i ts ranges → cut_on i [] ts ≡ Ok ranges
Cuts-cut_on (nothing i) = refl
Cuts-cut_on (declaration i xs end ts ranges h e r) =
    cut_on-passes i [] xs (end ∷ ts) h
    ∙ cut_on-end i xs end ts (ap is_end e)
    ∙ ap (with_front ((i, i + length xs) ∷ [])) (Cuts-cut_on r)

pub Unended-cut_on : {ts : List Token} {place : ℕ} → Unended ts place → (i : ℕ) → cut_on i [] ts ≡ Err (NoEnd place)
Unended-cut_on (at_last t ts h) i =
    ap (cut_on i []) (sym (append-nil (t ∷ ts))) ∙ cut_on-passes i [] (t ∷ ts) [] h
Unended-cut_on (after_end xs end ts place h e u) i =
    cut_on-passes i [] xs (end ∷ ts) h
    ∙ cut_on-end i xs end ts (ap is_end e)
    ∙ ap (with_front ((i, i + length xs) ∷ [])) (Unended-cut_on u (i + length xs + 1))

-- one more token that is no end
HasNoEnd-push : (xs : List Token) (t : Token) → HasNoEnd xs → t.kind ≢ End → HasNoEnd (xs ++ t ∷ [])
HasNoEnd-push [] t h e = (e, tt)
HasNoEnd-push (x ∷ xs) t h e = (h.0, HasNoEnd-push xs t h.1 e)

-- tokens without an end are none, or lack one
no_more : (i : ℕ) (xs : List Token) → HasNoEnd xs → CutOrUnended i xs
no_more i [] h = inl ([], nothing i)
no_more i (x ∷ xs) h = inr (x.from, at_last x xs h)

-- a declaration before what is cut or lacks an end
one_declaration : (i : ℕ) (xs : List Token) (end : Token) (ts : List Token) → HasNoEnd xs → end.kind ≡ End
    → CutOrUnended (i + length xs + 1) ts → CutOrUnended i (xs ++ end ∷ ts)
one_declaration i xs end ts h e (inl r) = inl ((i, i + length xs) ∷ r.0, declaration i xs end ts r.0 h e r.1)
one_declaration i xs end ts h e (inr u) = inr (u.0, after_end xs end ts u.0 h e u.1)

-- tokens are cut or lack an end
cut_or_unended_on : (i : ℕ) (xs ts : List Token) → HasNoEnd xs → CutOrUnended i (xs ++ ts)
cut_or_unended_on i xs [] h = subst (CutOrUnended i) (sym (append-nil xs)) (no_more i xs h)
cut_or_unended_on i xs (t ∷ ts) h =
    elim (is_end_cases t.kind) [
      | inl e ↦ one_declaration i xs t ts h e (cut_or_unended_on (i + length xs + 1) [] ts tt)
      | inr e ↦ subst (CutOrUnended i) (append_assoc xs (t ∷ []) ts) (cut_or_unended_on i (xs ++ t ∷ []) ts (HasNoEnd-push xs t h e))
    ]

pub cut_or_unended : (i : ℕ) (ts : List Token) → CutOrUnended i ts
cut_or_unended i ts = cut_or_unended_on i [] ts tt

-- what the function gives, the relation says
pub declarations_of-Cuts : (ts : List Token) (ranges : List (ℕ × ℕ)) → declarations_of ts ≡ Ok ranges → Cuts 0 ts ranges
declarations_of-Cuts ts ranges e =
    elim (cut_or_unended 0 ts) [
      | inl r ↦ let f = Cuts-cut_on r.1 in let same : r.0 ≡ ranges = cc in subst (Cuts 0 ts) same r.1
      | inr u ↦ let f = Unended-cut_on u.1 0 in cc
    ]

pub declarations_of-Unended : (ts : List Token) (e : TokenError) → declarations_of ts ≡ Err e
    → (place : ℕ) × (e ≡ NoEnd place) × Unended ts place
declarations_of-Unended ts e f =
    elim (cut_or_unended 0 ts) [
      | inl r ↦ let g = Cuts-cut_on r.1 in cc
      | inr u ↦ let g = Unended-cut_on u.1 0 in (u.0, cc, u.1)
    ]

-- the loop's step over a token
step_take : (list : List Token) (from at : ℕ) (d : Token) → from ≤ at → at < length list
    → take (at + 1 - from) (drop from list) ≡ take (at - from) (drop from list) ++ get_or list at d ∷ []
step_take list from at d h l =
    let one : at + 1 - from ≡ at - from + 1 = omega arith in
    let place : from + (at - from) ≡ at = omega arith in
    let in_rest : at - from < length (drop from list) = omega (arith, length-drop from list) in
    ap (λ n. take n (drop from list)) one
    ∙ take_more (drop from list) (at - from) d in_rest
    ∙ ap (λ x. take (at - from) (drop from list) ++ x ∷ []) (get_or-drop from list (at - from) d ∙ ap (λ n. get_or list n d) place)

pub cut_on-step : (list : List Token) (from at : ℕ) (d : Token) → from ≤ at → at < length list
    → is_end (get_or list at d).kind ≡ false
    → cut_on from (take (at - from) (drop from list)) (drop at list)
    ≡ cut_on from (take (at + 1 - from) (drop from list)) (drop (at + 1) list)
cut_on-step list from at d h l e =
    ap (cut_on from (take (at - from) (drop from list))) (drop_more list at d l)
    ∙ cut_on-more from (take (at - from) (drop from list)) (get_or list at d) (drop (at + 1) list) e
    ∙ ap (λ xs. cut_on from xs (drop (at + 1) list)) (sym (step_take list from at d h l))

pub cut_on-close : (list : List Token) (from at : ℕ) (d : Token) → from ≤ at → at < length list
    → is_end (get_or list at d).kind ≡ true
    → cut_on from (take (at - from) (drop from list)) (drop at list)
    ≡ with_front ((from, at) ∷ []) (cut_on (at + 1) (take (at + 1 - (at + 1)) (drop (at + 1) list)) (drop (at + 1) list))
cut_on-close list from at d h l e =
    let xs = take (at - from) (drop from list) in
    let count : from + length xs ≡ at =
    omega (arith, length-take-le (at - from) (drop from list) (omega (arith, length-drop from list))) in
    let none : at + 1 - (at + 1) ≡ 0 = omega arith in
    ap (cut_on from xs) (drop_more list at d l)
    ∙ cut_on-end from xs (get_or list at d) (drop (at + 1) list) e
    ∙ rw (count, none) refl

-- the loop's end
pub cut_on-finish : (list : List Token) (from at : ℕ) → length list ≤ at → at ≤ length list
    → cut_on from (take (at - from) (drop from list)) (drop at list) ≡ left_over (drop from list)
cut_on-finish list from at h l =
    let e : at ≡ length list = omega arith in
    ap (cut_on from (take (at - from) (drop from list))) (drop_all at list h)
    ∙ ap (λ n. left_over (take (n - from) (drop from list))) e
    ∙ ap left_over (take_rest list from)
