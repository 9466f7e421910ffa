-- What the numbers below a bound give, and one more: the edges of restrictions, as they are listed.
use Rattle.std.proofs.Common.{◌≡◌, sym, ap, ◌∙◌, refl, ℕ, suc, ◌+◌, Option, Some, None, List, [], ◌∷◌, ◌++◌, add-one, append_assoc, append-nil}
use Rattle.std.specs.List.{filter_map}
use Rattle.std.proofs.lemmas.List.Elements.{filter_map-append}
use Rattle.ale_declared.specs.Lists.{upto}

filter_map_last : {B : Type 0} (g : ℕ → Option B) (n : ℕ) → filter_map g (upto (suc n)) ≡ filter_map g (upto n) ++ filter_map g (n ∷ [])
filter_map_last g n = filter_map-append g (upto n) (n ∷ [])

pub filter_map_more : {B : Type 0} (g : ℕ → Option B) (n : ℕ) (y : B) (start before now : List B) → g n ≡ Some y → before ≡ start ++ filter_map g (upto n) → now ≡ before ++ y ∷ [] → now ≡ start ++ filter_map g (upto (n + 1))
filter_map_more g n y start before now is so_far more =
    rw add-one
    (more ∙ ap (λ xs. xs ++ y ∷ []) so_far ∙ append_assoc start (filter_map g (upto n)) (y ∷ []) ∙ ap (λ xs. start ++ xs) (sym (filter_map_last g n ∙ ap (λ xs. filter_map g (upto n) ++ xs) (one g n y is))))
  where
    one : {B : Type 0} (g : ℕ → Option B) (n : ℕ) (y : B) → g n ≡ Some y → filter_map g (n ∷ []) ≡ y ∷ []
    one g n y is = rw is refl

pub filter_map_no_more : {B : Type 0} (g : ℕ → Option B) (n : ℕ) (start before : List B) → g n ≡ None → before ≡ start ++ filter_map g (upto n) → before ≡ start ++ filter_map g (upto (n + 1))
filter_map_no_more g n start before is so_far =
    rw add-one
    (so_far ∙ ap (λ xs. start ++ xs) (sym (filter_map_last g n ∙ ap (λ xs. filter_map g (upto n) ++ xs) (none g n is) ∙ append-nil (filter_map g (upto n)))))
  where
    none : {B : Type 0} (g : ℕ → Option B) (n : ℕ) → g n ≡ None → filter_map g (n ∷ []) ≡ []
    none g n is = rw is refl
