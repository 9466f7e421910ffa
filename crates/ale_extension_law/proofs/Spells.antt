-- The words of phrases: later phrases alone stand within a phrase, so they have words without a loop.
use Rattle.std.proofs.Common.{◌≡◌, ℕ, zero, suc, ◌+◌, ◌<◌, ◌≤◌, Bool, true, false, eqb, List, [], ◌∷◌, ◌++◌, ◌⊎◌, inl, inr, refl, sym, ap, ◌∙◌, subst, arith, if◌then◌else◌}
use Rattle.std.proofs.lemmas.Bool.{eqb-true, eq-eqb}
use Rattle.ale_declared.specs.Lists.{Has, sum_over}
use Rattle.ale_hierarchy.specs.Hierarchy.{Hierarchy}
use Rattle.ale_logic.specs.Programs.{Word}
use Rattle.ale_logic.specs.States.{Piece, word, phrase, State}
use Rattle.ale_logic.specs.Spelling.{spell, pieces_of, spelled}
use Rattle.ale_logic.specs.WellFormed.{Scope, scope_of, FitPieces, IsState, times_sought, times_found, IsSaidOnce}
use Rattle.ale_logic.specs.Steps.{SpellingLaws}

abbrev one_if : Bool → ℕ
one_if b = if b then 1 else 0

-- pieces of phrase g are spelled alike by words that are alike on later phrases
spell_alike : (c : Scope) (g : ℕ) (ps : List Piece) (a b : ℕ → List Word) → FitPieces c g ps → ((p : ℕ) → g < p → p < c.phrases → a p ≡ b p) → spell a ps ≡ spell b ps
spell_alike c g [] a b fit alike = refl
spell_alike c g (word w ∷ ps) a b fit alike = ap (λ ws. w ∷ ws) (spell_alike c g ps a b fit alike)
spell_alike c g (phrase p ∷ ps) a b (later, low, fit) alike =
    ap (λ ws. ws ++ spell a ps) (alike p later low) ∙ ap (λ ws. b p ++ ws) (spell_alike c g ps a b fit alike)

-- the pieces of a phrase are said, or there are none
pieces_said : (xs : List (ℕ × List Piece)) (g : ℕ) → Has xs (g, pieces_of xs g) ⊎ (pieces_of xs g ≡ [])
pieces_said [] g = inr refl
pieces_said (x ∷ xs) g = go (pieces_said xs g) (eqb x.0 g) refl
  where
    go : Has xs (g, pieces_of xs g) ⊎ (pieces_of xs g ≡ []) → (b : Bool) → eqb x.0 g ≡ b → Has (x ∷ xs) (g, (if b then x.1 else pieces_of xs g)) ⊎ ((if b then x.1 else pieces_of xs g) ≡ [])
    go ih true e = let same : x.0 ≡ g = eqb-true x.0 g e in inl (inl (ap (λ n. (n, x.1)) (sym same)))
    go (inl there) false e = inl (inr there)
    go (inr none) false e = inr none

found_there : (xs : List (ℕ × List Piece)) (g : ℕ) → 0 < sum_over (times_found g) xs → Has xs (g, pieces_of xs g)
found_there [] g some = absurd (omega arith)
found_there (x ∷ xs) g some = go (found_there xs g) (eqb x.0 g) refl some
  where
    go : (0 < sum_over (times_found g) xs → Has xs (g, pieces_of xs g)) → (b : Bool) → eqb x.0 g ≡ b → 0 < one_if b + sum_over (times_found g) xs → Has (x ∷ xs) (g, (if b then x.1 else pieces_of xs g))
    go ih true e some = let same : x.0 ≡ g = eqb-true x.0 g e in inl (ap (λ n. (n, x.1)) (sym same))
    go ih false e some = inr (ih (omega arith))

is_found : (xs : List (ℕ × List Piece)) (g : ℕ) (ps : List Piece) → Has xs (g, ps) → 0 < sum_over (times_found g) xs
is_found [] g ps k = absurd k
is_found (x ∷ xs) g ps (inl e) =
    let first : g ≡ x.0 = ap (λ (p : ℕ × List Piece). p.0) e in
    let one : times_found g x ≡ 1 = ap one_if (eq-eqb x.0 g (sym first)) in
    omega arith
is_found (x ∷ xs) g ps (inr k) = let rest = is_found xs g ps k in omega arith

only_one : (xs : List (ℕ × List Piece)) (g : ℕ) (ps : List Piece) → sum_over (times_found g) xs ≤ 1 → Has xs (g, ps) → pieces_of xs g ≡ ps
only_one [] g ps one k = absurd k
only_one (x ∷ xs) g ps one k = go (only_one xs g ps) (eqb x.0 g) refl one k
  where
    go : (sum_over (times_found g) xs ≤ 1 → Has xs (g, ps) → pieces_of xs g ≡ ps) → (b : Bool) → eqb x.0 g ≡ b → one_if b + sum_over (times_found g) xs ≤ 1 → ((g, ps) ≡ x) ⊎ Has xs (g, ps) → (if b then x.1 else pieces_of xs g) ≡ ps
    go ih true e one (inl same) = ap (λ (p : ℕ × List Piece). p.1) (sym same)
    go ih true e one (inr there) = let some = is_found xs g ps there in absurd (omega arith)
    go ih false e one (inl same) =
        let first : g ≡ x.0 = ap (λ (p : ℕ × List Piece). p.0) same in
        let yes : eqb x.0 g ≡ true = eq-eqb x.0 g (sym first) in
        absurd cc
    go ih false e one (inr there) = ih (omega arith) there

module _ (h : Hierarchy) (st : State) (is : IsState h st) where
  fits : (g : ℕ) → FitPieces (scope_of st) g (pieces_of st.said g)
  fits g = go (pieces_said st.said g)
    where
      go : Has st.said (g, pieces_of st.said g) ⊎ (pieces_of st.said g ≡ []) → FitPieces (scope_of st) g (pieces_of st.said g)
      go (inl there) = (is.said g (pieces_of st.said g) there).1
      go (inr none) = subst (FitPieces (scope_of st) g) (sym none) tt

  -- as many steps as there are phrases from this one on are enough
  steady : (n m g : ℕ) → g < st.phrases → st.phrases ≤ g + n → st.phrases ≤ g + m → spelled n st.said g ≡ spelled m st.said g
  steady zero m g low a b = absurd (omega arith)
  steady (suc n) zero g low a b = absurd (omega arith)
  steady (suc n) (suc m) g low a b = spell_alike (scope_of st) g (pieces_of st.said g) (spelled n st.said) (spelled m st.said) (fits g) (λ p later below. steady n m p below (omega arith) (omega arith))

  module _ (once : IsSaidOnce st) where
    spelled_as : (g : ℕ) (ps : List Piece) → Has st.said (g, ps) → spelled st.phrases st.said g ≡ spell (spelled st.phrases st.said) ps
    spelled_as g ps k =
        let low = (is.said g ps k).0 in
        let one = once g low in
        let same : pieces_of st.said g ≡ ps = only_one st.said g ps (omega arith) k in
        steady st.phrases (suc st.phrases) g low (omega arith) (omega arith) ∙ ap (spell (spelled st.phrases st.said)) same

    only : st.agenda ≡ [] → (words : ℕ → List Word) → ((g : ℕ) (ps : List Piece) → Has st.said (g, ps) → words g ≡ spell words ps) → (n g : ℕ) → g < st.phrases → st.phrases ≤ g + n → words g ≡ spelled n st.said g
    only none words said zero g low few = absurd (omega arith)
    only none words said (suc n) g low few =
        let sought : sum_over (times_sought g) st.agenda ≡ 0 = ap (sum_over (times_sought g)) none in
        let one = once g low in
        let there : Has st.said (g, pieces_of st.said g) = found_there st.said g (omega arith) in
        said g (pieces_of st.said g) there
        ∙ spell_alike (scope_of st) g (pieces_of st.said g) words (spelled n st.said) (fits g) (λ p later below. only none words said n p below (omega arith))

pub spelling_law : SpellingLaws
spelling_law h st is once = record {
  spelled_as = spelled_as h st is once;
  only = λ none words said g low. only h st is once none words said st.phrases g low (omega arith);
}
