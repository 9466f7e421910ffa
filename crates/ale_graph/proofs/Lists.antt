-- Lemmas on membership, sums and tests over lists, and on the first numbers.
use Rattle.std.proofs.Common.{◌≡◌, ℕ, zero, suc, ◌+◌, ◌<◌, ◌≤◌, Bool, true, List, [], ◌∷◌, ◌++◌, map, length, get_or, length-append, ◌⊎◌, inl, inr, refl, sym, ap, ◌∙◌, subst, arith, Some, None}
use Rattle.std.proofs.Math.ListN.{get_or-append}
use Rattle.std.proofs.Math.Seq.{get_or-append_seam}
use Rattle.std.proofs.lemmas.Bool.{and_parts, and_from}
use Rattle.ale_declared.specs.Lists.{Has, upto, every, sum_over}

pub some_one : {A : Type 0} {a b : A} → Some a ≡ Some b → a ≡ b
some_one e = cc

pub none_some : {A : Type 0} {a : A} → None ≡ Some a → ⊥
none_some e = absurd cc

pub has_left : {A : Type 0} (xs ys : List A) (x : A) → Has xs x → Has (xs ++ ys) x
has_left [] ys x h = absurd h
has_left (y ∷ xs) ys x (inl e) = inl e
has_left (y ∷ xs) ys x (inr h) = inr (has_left xs ys x h)

pub has_right : {A : Type 0} (xs ys : List A) (x : A) → Has ys x → Has (xs ++ ys) x
has_right [] ys x h = h
has_right (y ∷ xs) ys x h = inr (has_right xs ys x h)

pub has_either : {A : Type 0} (xs ys : List A) (x : A) → Has (xs ++ ys) x → Has xs x ⊎ Has ys x
has_either [] ys x h = inr h
has_either (y ∷ xs) ys x (inl e) = inl (inl e)
has_either (y ∷ xs) ys x (inr h) = elim (has_either xs ys x h) [ inl k ↦ inl (inr k) | inr k ↦ inr k ]

pub has_map : {A B : Type 0} (f : A → B) (xs : List A) (y : B) → Has (map f xs) y → (x : A) × Has xs x × (y ≡ f x)
has_map f [] y h = absurd h
has_map f (x ∷ xs) y (inl e) = (x, inl refl, e)
has_map f (x ∷ xs) y (inr h) = let r = has_map f xs y h in (r.0, inr r.1, r.2)

pub has_upto : (n a : ℕ) → a < n → Has (upto n) a
has_upto zero a lt = absurd (omega arith)
has_upto (suc n) a lt = go (has_upto n a) (grind arith)
  where
    go : (a < n → Has (upto n) a) → (a < n) ⊎ (a ≡ n) → Has (upto n ++ n ∷ []) a
    go ih (inl l) = has_left (upto n) (n ∷ []) a (ih l)
    go ih (inr e) = has_right (upto n) (n ∷ []) a (inl e)

pub below_upto : (n a : ℕ) → Has (upto n) a → a < n
below_upto zero a h = absurd h
below_upto (suc n) a h = go (below_upto n a) (has_either (upto n) (n ∷ []) a h)
  where
    go : (Has (upto n) a → a < n) → Has (upto n) a ⊎ Has (n ∷ []) a → a < suc n
    go ih (inl k) = let l = ih k in omega arith
    go ih (inr (inl e)) = omega arith
    go ih (inr (inr k)) = absurd k

pub length_upto : (n : ℕ) → length (upto n) ≡ n
length_upto zero = refl
length_upto (suc n) = let l = length-append (upto n) (n ∷ []) in let ih = length_upto n in omega arith

pub get_upto : (n a d : ℕ) → a < n → get_or (upto n) a d ≡ a
get_upto zero a d lt = absurd (omega arith)
get_upto (suc n) a d lt = go (get_upto n a d) (grind arith)
  where
    go : (a < n → get_or (upto n) a d ≡ a) → (a < n) ⊎ (a ≡ n) → get_or (upto n ++ n ∷ []) a d ≡ a
    go ih (inl l) = get_or-append (upto n) (n ∷ []) d a (subst (λ z. a < z) (sym (length_upto n)) l) ∙ ih l
    go ih (inr e) =
        let at : a ≡ length (upto n) = e ∙ sym (length_upto n) in
        ap (λ z. get_or (upto n ++ n ∷ []) z d) at ∙ get_or-append_seam (upto n) n [] d ∙ sym e

pub every_has : {A : Type 0} (test : A → Bool) (xs : List A) (x : A) → every test xs ≡ true → Has xs x → test x ≡ true
every_has test [] x e h = absurd h
every_has test (y ∷ xs) x e (inl p) = rw p (and_parts (test y) (every test xs) e).0
every_has test (y ∷ xs) x e (inr h) = every_has test xs x (and_parts (test y) (every test xs) e).1 h

pub every_from : {A : Type 0} (test : A → Bool) (xs : List A) → ((x : A) → Has xs x → test x ≡ true) → every test xs ≡ true
every_from test [] all = refl
every_from test (y ∷ xs) all = and_from (test y) (every test xs) (all y (inl refl)) (every_from test xs (λ x h. all x (inr h)))

pub sum_append : {A : Type 0} (f : A → ℕ) (xs ys : List A) → sum_over f (xs ++ ys) ≡ sum_over f xs + sum_over f ys
sum_append f [] ys = omega arith
sum_append f (x ∷ xs) ys = let ih = sum_append f xs ys in omega arith

pub sum_upto : (f : ℕ → ℕ) (n : ℕ) → sum_over f (upto (suc n)) ≡ sum_over f (upto n) + f n
sum_upto f n = let e = sum_append f (upto n) (n ∷ []) in omega arith

pub sum_le : {A : Type 0} (f g : A → ℕ) (xs : List A) → ((x : A) → Has xs x → f x ≤ g x) → sum_over f xs ≤ sum_over g xs
sum_le f g [] all = omega arith
sum_le f g (x ∷ xs) all =
    let ih = sum_le f g xs (λ y h. all y (inr h)) in
    let first = all x (inl refl) in
    omega arith

-- a sum falls by as much as one of its parts, where no part rises
pub sum_drop : {A : Type 0} (f g : A → ℕ) (xs : List A) (a : A) (d : ℕ) → ((x : A) → Has xs x → f x ≤ g x) → Has xs a → f a + d ≤ g a → sum_over f xs + d ≤ sum_over g xs
sum_drop f g [] a d all h le = absurd h
sum_drop f g (x ∷ xs) a d all (inl e) le =
    let rest = sum_le f g xs (λ y h. all y (inr h)) in
    let one : f x + d ≤ g x = rw e at le in
    omega arith
sum_drop f g (x ∷ xs) a d all (inr h) le =
    let rest = sum_drop f g xs a d (λ y k. all y (inr k)) h le in
    let first = all x (inl refl) in
    omega arith
