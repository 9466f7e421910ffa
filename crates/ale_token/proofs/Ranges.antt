-- What the ranges of a cutting are in the list of the tokens.
use Rattle.std.proofs.Common.{◌≡◌, ℕ, suc, ◌+◌, ◌-◌, List, [], ◌∷◌, ◌++◌, length, take, drop, get_or, Result, Ok, Err, IfOk, IfErr, refl, sym, ap, ◌∙◌, subst, arith, append_assoc, length-append}
use Rattle.std.specs.List.{All, flat_map}
use Rattle.std.proofs.lemmas.List.{take_at, drop_at, get_or_at}
use Rattle.std.proofs.lemmas.List.Elements.{All-nil, All-cons}
use Rattle.ale_token.specs.declared.token.Kind.TheVariants.{End}
use Rattle.ale_token.specs.declared.token.Token.{Token}
use Rattle.ale_token.specs.declared.token.TokenError.{TokenError}
use Rattle.ale_token.specs.declared.token.TokenError.TheVariants.{BadToken, NoEnd, NoMemory}
use Rattle.ale_token.specs.Answers.{Gives}
use Rattle.ale_token.specs.Declarations.{HasNoEnd, Cuts, nothing, declaration, Unended, IsUnended, IsDeclaration, with_end, declarations_of}
use Rattle.ale_token.proofs.Cutting.{declarations_of-Cuts, declarations_of-Unended}

-- what begins at the first token of a declaration
drop_before : (list before rest : List Token) (i : ℕ) → list ≡ before ++ rest → i ≡ length before → drop i list ≡ rest
drop_before list before rest i is at = ap (drop i) is ∙ drop_at before rest i (sym at)

-- the declaration in the list
one_in_list : (list before xs : List Token) (end : Token) (ts : List Token) (i : ℕ)
    → list ≡ before ++ (xs ++ end ∷ ts) → i ≡ length before → HasNoEnd xs → end.kind ≡ End
    → IsDeclaration list (i, i + length xs)
one_in_list list before xs end ts i is at h e =
    let there : list ≡ (before ++ xs) ++ end ∷ ts = is ∙ sym (append_assoc before xs (end ∷ ts)) in
    let count : length xs ≡ i + length xs - i = omega arith in
    let place : length (before ++ xs) ≡ i + length xs = length-append before xs ∙ omega arith in
    let all : length list ≡ length before + (length xs + suc (length ts)) =
    ap length is ∙ length-append before (xs ++ end ∷ ts) ∙ ap (λ n. length before + n) (length-append xs (end ∷ ts)) in
    let part : take (i + length xs - i) (drop i list) ≡ xs =
    ap (take (i + length xs - i)) (drop_before list before (xs ++ end ∷ ts) i is at)
    ∙ take_at xs (end ∷ ts) (i + length xs - i) count in
    record {
      ordered = omega arith;
      within = omega arith;
      no_end = subst HasNoEnd (sym part) h;
      ended = λ d. ap (λ t. t.kind) (ap (λ l. get_or l (i + length xs) d) there ∙ get_or_at (before ++ xs) end ts d (i + length xs) place) ∙ e;
    }

-- the declaration and its end
one_with_end : (list before xs : List Token) (end : Token) (ts : List Token) (i : ℕ)
    → list ≡ before ++ (xs ++ end ∷ ts) → i ≡ length before
    → with_end list (i, i + length xs) ≡ xs ++ end ∷ []
one_with_end list before xs end ts i is at =
    let count : length (xs ++ end ∷ []) ≡ i + length xs + 1 - i = length-append xs (end ∷ []) ∙ omega arith in
    ap (take (i + length xs + 1 - i)) (drop_before list before (xs ++ end ∷ ts) i is at
    ∙ sym (append_assoc xs (end ∷ []) ts))
    ∙ take_at (xs ++ end ∷ []) ts (i + length xs + 1 - i) count

-- what stands before the next declaration
next_before : (list before xs : List Token) (end : Token) (ts : List Token)
    → list ≡ before ++ (xs ++ end ∷ ts) → list ≡ (before ++ (xs ++ end ∷ [])) ++ ts
next_before list before xs end ts is =
    is ∙ ap (λ l. before ++ l) (sym (append_assoc xs (end ∷ []) ts)) ∙ sym (append_assoc before (xs ++ end ∷ []) ts)

next_at : (before xs : List Token) (end : Token) (i : ℕ) → i ≡ length before
    → i + length xs + 1 ≡ length (before ++ (xs ++ end ∷ []))
next_at before xs end i at =
    sym (length-append before (xs ++ end ∷ []) ∙ ap (λ n. length before + n) (length-append xs (end ∷ [])) ∙ omega arith)

-- each range is a declaration's
pub Cuts-each : {i : ℕ} {ts : List Token} {ranges : List (ℕ × ℕ)} → Cuts i ts ranges → (list before : List Token)
    → list ≡ before ++ ts → i ≡ length before → All {X = ℕ × ℕ} (IsDeclaration list) ranges
Cuts-each (nothing i) list before is at = All-nil {X = ℕ × ℕ} (IsDeclaration list)
Cuts-each (declaration i xs end ts ranges h e r) list before is at =
    All-cons {X = ℕ × ℕ} (IsDeclaration list) (i, i + length xs) ranges (one_in_list list before xs end ts i is at h e)
    (Cuts-each r list (before ++ (xs ++ end ∷ [])) (next_before list before xs end ts is) (next_at before xs end i at))

-- the declarations and their ends, one after the other, are the tokens
pub Cuts-joined : {i : ℕ} {ts : List Token} {ranges : List (ℕ × ℕ)} → Cuts i ts ranges → (list before : List Token)
    → list ≡ before ++ ts → i ≡ length before → flat_map {X = ℕ × ℕ} (with_end list) ranges ≡ ts
Cuts-joined (nothing i) list before is at = refl
Cuts-joined (declaration i xs end ts ranges h e r) list before is at =
    ap (λ l. l ++ flat_map {X = ℕ × ℕ} (with_end list) ranges) (one_with_end list before xs end ts i is at)
    ∙ ap (λ l. (xs ++ end ∷ []) ++ l)
    (Cuts-joined r list (before ++ (xs ++ end ∷ [])) (next_before list before xs end ts is) (next_at before xs end i at))
    ∙ append_assoc xs (end ∷ []) ts

-- what follows for a call that gives what the function cuts
pub Gives-cut : {V : Type 0} (view : V → List (ℕ × ℕ)) (r : Result V TokenError) (ts : List Token)
    → Gives {A = ℕ × ℕ} view r (declarations_of ts) → IfOk r (λ v. Cuts 0 ts (view v))
Gives-cut view (Ok v) ts g = declarations_of-Cuts ts (view v) g
Gives-cut view (Err e) ts g = tt

pub Gives-each : {V : Type 0} (view : V → List (ℕ × ℕ)) (r : Result V TokenError) (ts : List Token)
    → Gives {A = ℕ × ℕ} view r (declarations_of ts) → IfOk r (λ v. All {X = ℕ × ℕ} (IsDeclaration ts) (view v))
Gives-each view (Ok v) ts g = Cuts-each (declarations_of-Cuts ts (view v) g) ts [] refl refl
Gives-each view (Err e) ts g = tt

pub Gives-joined : {V : Type 0} (view : V → List (ℕ × ℕ)) (r : Result V TokenError) (ts : List Token)
    → Gives {A = ℕ × ℕ} view r (declarations_of ts) → IfOk r (λ v. flat_map {X = ℕ × ℕ} (with_end ts) (view v) ≡ ts)
Gives-joined view (Ok v) ts g = Cuts-joined (declarations_of-Cuts ts (view v) g) ts [] refl refl
Gives-joined view (Err e) ts g = tt

pub Gives-unended : {V : Type 0} (view : V → List (ℕ × ℕ)) (r : Result V TokenError) (ts : List Token)
    → Gives {A = ℕ × ℕ} view r (declarations_of ts) → IfErr r (IsUnended ts)
Gives-unended view (Ok v) ts g = tt
Gives-unended view (Err NoMemory) ts g = tt
Gives-unended view (Err (NoEnd p)) ts g =
    let u = declarations_of-Unended ts (NoEnd p) g in
    let same : u.0 ≡ p = cc in subst (Unended ts) same u.2
Gives-unended view (Err (BadToken p)) ts g = let u = declarations_of-Unended ts (BadToken p) g in cc
