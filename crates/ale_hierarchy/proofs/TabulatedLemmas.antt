-- Lists of a function's values at the numbers below a bound.
use Rattle.std.proofs.Common.{◌≡◌, sym, ◌∙◌, subst, refl, ℕ, zero, suc, ◌+◌, ◌<◌, Bool, cond, Option, None, List, [], ◌∷◌, ◌++◌, length, get_or, inl, inr, arith, length-append, add-one}
use Rattle.std.specs.List.{filter}
use Rattle.std.proofs.lemmas.List.Elements.{filter-append}
use Rattle.std.proofs.lemmas.List.{same_lists, map-append, get_or_append_left}
use Rattle.std.proofs.Math.Seq.{get_or-append_seam}
use Rattle.ale_declared.specs.Lists.{upto}
use Rattle.ale_hierarchy.specs.Stages.{tabulated, entry}
use Rattle.ale_declared.proofs.ListLemmas.{less_or_last}

-- one value more
pub tabulated-push : {A : Type 0} (f : ℕ → A) (n : ℕ) → tabulated f (n + 1) ≡ tabulated f n ++ f n ∷ []
tabulated-push f n = rw add-one (map-append f (upto n) (n ∷ []))

pub length-tabulated : {A : Type 0} (f : ℕ → A) (n : ℕ) → length (tabulated f n) ≡ n
length-tabulated f zero = refl
length-tabulated f (suc n) =
    let rest : length (tabulated f n) ≡ n = length-tabulated f n in
    rw (map-append f (upto n) (n ∷ []), length-append (tabulated f n) (f n ∷ [])) (omega arith)

-- the value at a number
pub get_or-tabulated : {A : Type 0} (f : ℕ → A) (n k : ℕ) (z : A) → k < n → get_or (tabulated f n) k z ≡ f k
get_or-tabulated f zero k z below = absurd (omega arith)
get_or-tabulated f (suc n) k z below =
    let long : length (tabulated f n) ≡ n = length-tabulated f n in
    elim (less_or_last n k below) [
      | inl less ↦
          let within : k < length (tabulated f n) = omega arith in
          rw (map-append f (upto n) (n ∷ [])) (get_or_append_left (tabulated f n) (f n ∷ []) z k within ∙ get_or-tabulated f n k z less)
      | inr same ↦
          rw (map-append f (upto n) (n ∷ []), same) (subst (λ i. get_or (tabulated f n ++ f n ∷ []) i z ≡ f n) long (get_or-append_seam (tabulated f n) (f n) [] z))
    ]

-- a list is that of its values
pub tabulated-ext : {A : Type 0} (xs : List A) (f : ℕ → A) (n : ℕ) → length xs ≡ n → ((k : ℕ) (z : A) → k < n → get_or xs k z ≡ f k) → xs ≡ tabulated f n
tabulated-ext xs f n long h =
    same_lists xs (tabulated f n) (rw (length-tabulated f n) long) (λ k z below.
    let within : k < n = omega arith in
    h k z within ∙ sym (get_or-tabulated f n k z within))

-- the entry of a table whose rows are tabulated
pub entry-tabulated : (rows : List (List (Option ℕ))) (g : ℕ → ℕ → Option ℕ) (m n a b : ℕ) → rows ≡ tabulated (λ x. tabulated (g x) n) m → a < m → b < n → entry rows a b ≡ g a b
entry-tabulated rows g m n a b is inside within =
    rw (is, get_or-tabulated (λ x. tabulated (g x) n) m a [] inside) (get_or-tabulated (g a) n b None within)

pub length-row : (rows : List (List (Option ℕ))) (g : ℕ → ℕ → Option ℕ) (m n a : ℕ) → rows ≡ tabulated (λ x. tabulated (g x) n) m → a < m → length (get_or rows a []) ≡ n
length-row rows g m n a is inside =
    rw (is, get_or-tabulated (λ x. tabulated (g x) n) m a [] inside) (length-tabulated (g a) n)

-- where more may be listed
pub filter-upto : (test : ℕ → Bool) (n : ℕ) → filter test (upto (n + 1)) ≡ filter test (upto n) ++ cond (test n) (n ∷ []) []
filter-upto test n = rw (add-one, filter-append test (upto n) (n ∷ [])) refl

-- within a list the default doesn't matter
pub get_or-default : {A : Type 0} (xs : List A) (k : ℕ) (y z : A) → k < length xs → get_or xs k y ≡ get_or xs k z
get_or-default [] k y z below = absurd (omega arith)
get_or-default (x ∷ xs) zero y z below = refl
get_or-default (x ∷ xs) (suc k) y z below = get_or-default xs k y z (omega arith)

-- a list of values that gets one more
pub tabulated_more : {A : Type 0} (f : ℕ → A) (n : ℕ) (xs ys : List A) (y : A) → xs ≡ tabulated f n → ys ≡ xs ++ y ∷ [] → y ≡ f n → ys ≡ tabulated f (n + 1)
tabulated_more f n xs ys y so_far more is = rw (more, so_far, is) (sym (tabulated-push f n))
