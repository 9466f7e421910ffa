-- Lists of values with classes in place of nodes, and the test of two lists.
use Rattle.std.proofs.Common.{◌≡◌, ℕ, ◌+◌, ◌≤◌, ◌<◌, Bool, true, false, ◌&&◌, eqb, ltb, leb, List, [], ◌∷◌, drop, length, get_or, arith, ◌⊎◌, inl, inr, refl, sym, ap, ◌∙◌, option_map}
use Rattle.std.proofs.lemmas.Bool.{and_parts, and_from, eqb-true, eq-eqb, le-leb, lt-leb}
use Rattle.std.proofs.lemmas.List.{drop_all, drop_more}
use Rattle.ale_declared.specs.Lists.{every}
use Rattle.ale_graph.specs.Structures.{value_in, is_rising}
use Rattle.ale_graph.specs.Drafts.{mapped, same_lists}
use Rattle.ale_graph.proofs.Entries.{value_front, value_behind, same_or_not}

pub mapped_value : (g : ℕ → ℕ) (xs : List (ℕ × ℕ)) (f : ℕ) → value_in (mapped g xs) f ≡ option_map g (value_in xs f)
mapped_value g [] f = refl
mapped_value g (x ∷ xs) f = go (mapped_value g xs f) (same_or_not x.0 f)
  where
    go : value_in (mapped g xs) f ≡ option_map g (value_in xs f) → (x.0 ≡ f) ⊎ (x.0 ≡ f → ⊥) → value_in (mapped g (x ∷ xs)) f ≡ option_map g (value_in (x ∷ xs) f)
    go ih (inl e) = value_front (x.0, g x.1) (mapped g xs) f e ∙ sym (ap (option_map g) (value_front x xs f e))
    go ih (inr n) = value_behind (x.0, g x.1) (mapped g xs) f n ∙ ih ∙ sym (ap (option_map g) (value_behind x xs f n))

every_mapped : (g : ℕ → ℕ) (f : ℕ) (xs : List (ℕ × ℕ)) → every (λ (w : ℕ × ℕ). ltb f w.0) (mapped g xs) ≡ every (λ (w : ℕ × ℕ). ltb f w.0) xs
every_mapped g f [] = refl
every_mapped g f (x ∷ xs) = ap (λ t. ltb f x.0 && t) (every_mapped g f xs)

pub mapped_rises : (g : ℕ → ℕ) (xs : List (ℕ × ℕ)) → is_rising (mapped g xs) ≡ is_rising xs
mapped_rises g [] = refl
mapped_rises g (x ∷ xs) = ap (λ t. t && is_rising (mapped g xs)) (every_mapped g x.0 xs) ∙ ap (λ t. every (λ (w : ℕ × ℕ). ltb x.0 w.0) xs && t) (mapped_rises g xs)

pub same_to : (g : ℕ → ℕ) (xs ys : List (ℕ × ℕ)) → same_lists g xs ys ≡ true → mapped g xs ≡ mapped g ys
same_to g [] [] e = refl
same_to g [] (y ∷ ys) e = let bad : true ≡ false = sym e in absurd cc
same_to g (x ∷ xs) [] e = let bad : true ≡ false = sym e in absurd cc
same_to g (x ∷ xs) (y ∷ ys) e =
    let both = and_parts (eqb x.0 y.0 && eqb (g x.1) (g y.1)) (same_lists g xs ys) e in
    let front = and_parts (eqb x.0 y.0) (eqb (g x.1) (g y.1)) both.0 in
    let first = eqb-true x.0 y.0 front.0 in
    let second = eqb-true (g x.1) (g y.1) front.1 in
    let rest = same_to g xs ys both.1 in
    λ i. (first i, second i) ∷ rest i

head_one : {A : Type 0} (x y : A) (xs ys : List A) → x ∷ xs ≡ y ∷ ys → (x ≡ y) × (xs ≡ ys)
head_one x y xs ys e = (cc, cc)

pub same_from : (g : ℕ → ℕ) (xs ys : List (ℕ × ℕ)) → mapped g xs ≡ mapped g ys → same_lists g xs ys ≡ true
same_from g [] [] e = refl
same_from g [] (y ∷ ys) e = absurd cc
same_from g (x ∷ xs) [] e = absurd cc
same_from g (x ∷ xs) (y ∷ ys) e =
    let parts = head_one (x.0, g x.1) (y.0, g y.1) (mapped g xs) (mapped g ys) e in
    and_from (eqb x.0 y.0 && eqb (g x.1) (g y.1)) (same_lists g xs ys)
    (and_from (eqb x.0 y.0) (eqb (g x.1) (g y.1)) (eq-eqb x.0 y.0 (ap (λ (z : ℕ × ℕ). z.0) parts.0)) (eq-eqb (g x.1) (g y.1) (ap (λ (z : ℕ × ℕ). z.1) parts.0)))
    (same_from g xs ys parts.1)

pub bool_one : (a b : Bool) → (a ≡ true → b ≡ true) → (b ≡ true → a ≡ true) → a ≡ b
bool_one true b to back = sym (to refl)
bool_one false true to back = back refl
bool_one false false to back = refl

-- where the first list ends, the second one is no longer
pub same_end : (g : ℕ → ℕ) (xs ys : List (ℕ × ℕ)) (i : ℕ) → i ≤ length xs → length xs ≤ i → same_lists g (drop i xs) (drop i ys) ≡ same_lists g xs ys → leb (length ys) (length xs) ≡ same_lists g xs ys
same_end g xs ys i le ge e = go (grind arith)
  where
    rest : (zs : List (ℕ × ℕ)) → drop i ys ≡ zs → same_lists g [] zs ≡ same_lists g xs ys
    rest zs q = sym (ap (λ z. same_lists g z (drop i ys)) (drop_all i xs ge) ∙ ap (same_lists g []) q) ∙ e

    go : (length ys ≤ i) ⊎ (i < length ys) → leb (length ys) (length xs) ≡ same_lists g xs ys
    go (inl l) = le-leb (length ys) (length xs) (omega arith) ∙ rest [] (drop_all i ys l)
    go (inr l) = lt-leb (length ys) (length xs) (omega arith) ∙ rest (get_or ys i (0, 0) ∷ drop (i + 1) ys) (drop_more ys i (0, 0) l)
