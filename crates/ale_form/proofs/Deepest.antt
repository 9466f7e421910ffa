-- Whether the count passes a limit anywhere is whether the greatest does.
use Rattle.std.proofs.Common.{◌≡◌, ℕ, Bool, true, false, ◌||◌, ltb, max, List, [], ◌∷◌, refl, sym, ap, ◌∙◌, arith}
use Rattle.std.proofs.lemmas.Bool.{ltb-true, lt-ltb, le-ltb, ltb-false}
use Rattle.std.proofs.Math.Nat.{le-max_left, le-max_right, max-le}
use Rattle.ale_term.specs.declared.lexeme.Lexeme.{Lexeme}
use Rattle.ale_form.specs.Nesting.{Depth, at_start, deepest, nesting, nesting_limit, passes, behind}

one_passes : (k a b : ℕ) → (ltb k a || ltb k b) ≡ ltb k (max a b)
one_passes k a b = go (ltb k a) refl (ltb k b) refl
  where
    go : (p : Bool) → ltb k a ≡ p → (q : Bool) → ltb k b ≡ q → (ltb k a || ltb k b) ≡ ltb k (max a b)
    go true e q f = rw e (sym (lt-ltb k (max a b) (omega (arith, ltb-true k a e, le-max_left a b))))
    go false e true f = rw (e, f) (sym (lt-ltb k (max a b) (omega (arith, ltb-true k b f, le-max_right a b))))
    go false e false f = rw (e, f) (sym (le-ltb k (max a b) (max-le (ltb-false k a e) (ltb-false k b f))))

pub passes_deepest : (k : ℕ) (d : Depth) (ls : List Lexeme) → passes k d ls ≡ ltb k (deepest d ls)
passes_deepest k d [] = refl
passes_deepest k d (l ∷ ls) = ap (λ b. ltb k d.count || b) (passes_deepest k (behind l d) ls) ∙ one_passes k d.count (deepest (behind l d) ls)

pub is_too_deep : (b : Bool) (k : ℕ) (ls : List Lexeme) → k ≡ nesting_limit → b ≡ passes k at_start ls → ltb nesting_limit (nesting ls) ≡ b
is_too_deep b k ls e f = sym (f ∙ ap (λ j. passes j at_start ls) e ∙ passes_deepest nesting_limit at_start ls)
