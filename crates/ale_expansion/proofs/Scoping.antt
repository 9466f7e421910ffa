-- The scopes of frames.
use Rattle.std.proofs.Common.{◌≡◌, refl, sym, ap, ◌∙◌, subst, ℕ, zero, suc, ◌+◌, ◌<◌, ◌⊎◌, List, [], ◌∷◌, ◌++◌, length, length-append, get_or, inl, inr, arith}
use Rattle.std.proofs.lemmas.List.{get_or_append_left}
use Rattle.std.proofs.Math.Seq.{get_or-append_seam}
use Rattle.ale_macro.specs.Expanding.{LibraryData}
use Rattle.ale_expansion.specs.declared.frame.Frame.{Frame}
use Rattle.ale_expansion.specs.declared.rest.Rest.{Rest}
use Rattle.ale_expansion.specs.declared.rest.Rest.TheVariants as rest
use Rattle.ale_expansion.specs.Marks.{path_at}
use Rattle.ale_expansion.specs.Walking.{Base, Found, Scope, scope_at, all_standing, scope_of, scopes_from, templates, result_with, plug, AreFrames, IsRest, AreRests}

pub scopes_more : (l : LibraryData) (paths : List (List ℕ)) (known : List Scope) (fs : List Frame) (f : Frame) → scopes_from l paths known (fs ++ f ∷ []) ≡ scopes_from l paths known fs ++ scope_of l paths (scopes_from l paths known fs) f ∷ []
scopes_more l paths known [] f = refl
scopes_more l paths known (g ∷ fs) f = scopes_more l paths (known ++ scope_of l paths known g ∷ []) fs f

pub how_many_scopes : (l : LibraryData) (paths : List (List ℕ)) (known : List Scope) (fs : List Frame) → length (scopes_from l paths known fs) ≡ length known + length fs
how_many_scopes l paths known [] = omega arith
how_many_scopes l paths known (f ∷ fs) =
    how_many_scopes l paths (known ++ scope_of l paths known f ∷ []) fs ∙ omega (arith, length-append known (scope_of l paths known f ∷ []))

pub scopes_stay : (l : LibraryData) (paths : List (List ℕ)) (known : List Scope) (fs : List Frame) (i : ℕ) → i < length known → scope_at (scopes_from l paths known fs) i ≡ scope_at known i
scopes_stay l paths known [] i h = refl
scopes_stay l paths known (f ∷ fs) i h =
    scopes_stay l paths (known ++ scope_of l paths known f ∷ []) fs i (omega (arith, h, length-append known (scope_of l paths known f ∷ [])))
    ∙ get_or_append_left known (scope_of l paths known f ∷ []) (record { path = []; args = [] }) i h

-- a frame's scope stands on that in which it is written
pub frame_scope : (l : LibraryData) (paths : List (List ℕ)) (p : ℕ) (known : List Scope) (fs : List Frame) (k : ℕ) (d : Frame) → AreFrames l.macros p (length known) fs → k < length fs → scope_at (scopes_from l paths known fs) (length known + k) ≡ scope_of l paths (scopes_from l paths known fs) (get_or fs k d)
frame_scope l paths p known [] k d are h = absurd (omega (arith, h))
frame_scope l paths p known (f ∷ fs) zero d are h =
    let s = scope_of l paths known f in
    let wider : length (known ++ s ∷ []) ≡ length known + 1 = length-append known (s ∷ []) in
    let here : length known + 0 ≡ length known = omega arith in
    ap (scope_at (scopes_from l paths (known ++ s ∷ []) fs)) here
    ∙ (scopes_stay l paths (known ++ s ∷ []) fs (length known) (omega (arith, wider))
    ∙ (get_or-append_seam known s [] (record { path = []; args = [] })
    ∙ written wider are.0.1))
  where
    with_outer : Scope → Scope
    with_outer a = record { path = path_at paths f.path; args = all_standing l a (templates f.args.now) }

    written : length (known ++ scope_of l paths known f ∷ []) ≡ length known + 1 → (f.outer < length known) ⊎ (f.args.now ≡ []) →
        scope_of l paths known f ≡ scope_of l paths (scopes_from l paths (known ++ scope_of l paths known f ∷ []) fs) f
    written wider (inl h) =
        ap (λ (a : Scope). with_outer a)
        (sym (scopes_stay l paths (known ++ scope_of l paths known f ∷ []) fs f.outer (omega (arith, h, wider))
        ∙ get_or_append_left known (scope_of l paths known f ∷ []) (record { path = []; args = [] }) f.outer h))
    written wider (inr e) = rw e refl
frame_scope l paths p known (f ∷ fs) (suc k) d are h =
    let s = scope_of l paths known f in
    let wider : length (known ++ s ∷ []) ≡ length known + 1 = length-append known (s ∷ []) in
    let same : suc (length known) ≡ length (known ++ s ∷ []) = omega (arith, wider) in
    let there : length known + suc k ≡ length (known ++ s ∷ []) + k = omega (arith, wider) in
    ap (scope_at (scopes_from l paths (known ++ s ∷ []) fs)) there
    ∙ frame_scope l paths p (known ++ s ∷ []) fs k d (subst (λ n. AreFrames l.macros p n fs) same are.1) (omega (arith, h))

-- paths that are added change no scope
pub scopes_wider : (l : LibraryData) (paths more : List (List ℕ)) (i : ℕ) (known : List Scope) (fs : List Frame) → AreFrames l.macros (length paths) i fs → scopes_from l (paths ++ more) known fs ≡ scopes_from l paths known fs
scopes_wider l paths more i known [] are = refl
scopes_wider l paths more i known (f ∷ fs) are =
    rw (get_or_append_left paths more [] f.path are.0.0) (scopes_wider l paths more (suc i) (known ++ scope_of l paths known f ∷ []) fs are.1)

-- these scopes are among those
abbrev pub AreAmong : ℕ → List Scope → List Scope → Type 0
AreAmong n ss ts = (i : ℕ) → i < n → scope_at ts i ≡ scope_at ss i

abbrev pub on : LibraryData → List Scope → Base
on l ss = record { library = l; scopes = ss }

result_with_same : (l : LibraryData) (ss ts : List Scope) (n : ℕ) (k : Rest) (r : Found) → AreAmong n ss ts → IsRest l.macros n k → result_with (on l ts) k r ≡ result_with (on l ss) k r
result_with_same l ss ts n (rest.At f) r same is = refl
result_with_same l ss ts n rest.Differs r same is = refl
result_with_same l ss ts n (rest.All done after i) r same is = rw (same i is.0) refl
result_with_same l ss ts n (rest.Any done after i) r same is = rw (same i is.0) refl
result_with_same l ss ts n (rest.Head after end i) r same is = rw (same i is.0) refl
result_with_same l ss ts n (rest.Tail member) r same is = refl

-- what is still to be done comes to the same where scopes were added
pub plug_same : (l : LibraryData) (ss ts : List Scope) (n : ℕ) (ks : List Rest) (r : Found) → AreAmong n ss ts → AreRests l.macros n ks → plug (on l ts) ks r ≡ plug (on l ss) ks r
plug_same l ss ts n [] r same are = refl
plug_same l ss ts n (k ∷ ks) r same are =
    ap (result_with (on l ts) k) (plug_same l ss ts n ks r same are.1) ∙ result_with_same l ss ts n k (plug (on l ss) ks r) same are.0
