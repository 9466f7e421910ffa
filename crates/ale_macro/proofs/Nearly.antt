-- Numbers that are told apart below a limit alone: sums and products of such, and parts that are counted so.
use Rattle.std.proofs.Common.{◌≡◌, ℕ, zero, suc, ◌+◌, ◌*◌, ◌^◌, ◌<◌, ◌≤◌, ◌⊎◌, min, max, List, [], ◌∷◌, ◌++◌, length, length-append, get_or, set, drop, replicate, refl, sym, ap, ◌∙◌, subst, inl, inr, arith, mul-zero, zero-mul, mul-suc, mul-add, add-mul, mul_assoc, mul_comm, mul-le-mul}
use Rattle.ale_macro.specs.Sizes.{Near, weighted}

near_cases : (l a b : ℕ) → Near l a b → (a ≡ b) ⊎ ((l ≤ a) × (l ≤ b))
near_cases l a b h = grind arith

pub near_times : (l a b c : ℕ) → Near l a b → Near l (a * c) (b * c)
near_times l a b c h = elim (near_cases l a b h) [ inl e ↦ ap (λ z. min (z * c) l) e | inr both ↦ many c both ]
  where
    many : (n : ℕ) → (l ≤ a) × (l ≤ b) → Near l (a * n) (b * n)
    many zero both = let x : a * 0 ≡ 0 = mul-zero a in let y : b * 0 ≡ 0 = mul-zero b in omega arith
    many (suc n) both =
        let x : a * suc n ≡ a * n + a = mul-suc a n in
        let y : b * suc n ≡ b * n + b = mul-suc b n in
        let p : l ≤ a = both.0 in
        let q : l ≤ b = both.1 in
        omega arith

pub near_product : (l a b : ℕ) → Near l (min a l * min b l) (a * b)
near_product l a b =
    let cut_a : Near l (min a l) a = omega arith in
    let cut_b : Near l (min b l) b = omega arith in
    near_times l (min a l) a (min b l) cut_a
    ∙ (ap (λ z. min z l) (mul_comm a (min b l))
    ∙ (near_times l (min b l) b a cut_b
    ∙ ap (λ z. min z l) (mul_comm b a)))

pub product_fits : (a b : ℕ) → min a 100001 * min b 100001 < 2 ^ 64
product_fits a b =
    let p : min a 100001 ≤ 100001 = omega arith in
    let q : min b 100001 ≤ 100001 = omega arith in
    let both : min a 100001 * min b 100001 ≤ 100001 * 100001 = mul-le-mul p q in
    omega arith

pub weighted_none : (cs : List ℕ) → weighted cs [] ≡ 0
weighted_none [] = refl
weighted_none (c ∷ cs) = refl

-- one more parameter that stands nowhere
pub weighted_push : (cs xs : List ℕ) → weighted (cs ++ 0 ∷ []) xs ≡ weighted cs xs
weighted_push [] [] = refl
weighted_push [] (x ∷ xs) = let e : 0 * x ≡ 0 = zero-mul x in omega arith
weighted_push (c ∷ cs) [] = refl
weighted_push (c ∷ cs) (x ∷ xs) = ap (λ n. c * x + n) (weighted_push cs xs)

pub weighted_next : (cs : List ℕ) (i p : ℕ) (ps : List ℕ) → weighted (drop i cs) (p ∷ ps) ≡ get_or cs i 0 * p + weighted (drop (i + 1) cs) ps
weighted_next cs i p ps = go cs i ∙ ap (λ j. get_or cs i 0 * p + weighted (drop j cs) ps) (plus i)
  where
    plus : (n : ℕ) → suc n ≡ n + 1
    plus n = omega arith

    go : (ds : List ℕ) (n : ℕ) → weighted (drop n ds) (p ∷ ps) ≡ get_or ds n 0 * p + weighted (drop (suc n) ds) ps
    go [] zero = let e : 0 * p ≡ 0 = zero-mul p in omega arith
    go [] (suc n) = let e : 0 * p ≡ 0 = zero-mul p in omega arith
    go (d ∷ ds) zero = refl
    go (d ∷ ds) (suc n) = go ds n

pub weighted_put : (l : ℕ) (cs : List ℕ) (i c t : ℕ) (xs : List ℕ) → i < length cs → length xs ≡ length cs → Near l c (get_or cs i 0 + t) →
    Near l (weighted (set cs i c) xs) (weighted cs xs + t * get_or xs i 1)
weighted_put l [] i c t xs low same near = absurd (omega arith)
weighted_put l (d ∷ cs) zero c t [] low same near = absurd (omega arith)
weighted_put l (d ∷ cs) zero c t (x ∷ xs) low same near =
    let first : Near l (c * x) ((d + t) * x) = near_times l c (d + t) x near in
    let split : (d + t) * x ≡ d * x + t * x = add-mul d t x in
    omega arith
weighted_put l (d ∷ cs) (suc i) c t [] low same near = absurd (omega arith)
weighted_put l (d ∷ cs) (suc i) c t (x ∷ xs) low same near =
    let rest : Near l (weighted (set cs i c) xs) (weighted cs xs + t * get_or xs i 1) = weighted_put l cs i c t xs (omega arith) (omega arith) near in
    omega arith

-- a part, and then what is in it
pub counted_within : (l v w z t s : ℕ) → Near l w (v + t) → Near l z (w + t * s) → Near l z (v + t * suc s)
counted_within l v w z t s first then = let e : t * suc s ≡ t * s + t = mul-suc t s in omega arith

-- one of several
pub counted_one : (l v w goal t x s : ℕ) → Near l w (v + t * x) → Near l (v + t * (x + s)) goal → Near l (w + t * s) goal
counted_one l v w goal t x s step all = let e : t * (x + s) ≡ t * x + t * s = mul-add t x s in omega arith

-- an argument, as often as it stands
pub counted_use : (l v w goal t u n x s : ℕ) → Near l n (t * u) → Near l w (v + n * x) → Near l (v + t * (u * x + s)) goal → Near l (w + t * s) goal
counted_use l v w goal t u n x s often step all =
    let times : Near l (n * x) (t * u * x) = near_times l n (t * u) x often in
    let apart : t * u * x ≡ t * (u * x) = mul_assoc t u x in
    let e : t * (u * x + s) ≡ t * (u * x) + t * s = mul-add t (u * x) s in
    omega arith

-- a member of a list, with its cell
pub counted_member : (l v u w goal t c x s : ℕ) → Near l c (t * 4) → Near l u (v + c) → Near l w (u + t * x) → Near l (v + t * (4 + (x + s))) goal → Near l (w + t * s) goal
counted_member l v u w goal t c x s cell own step all =
    let e : t * (4 + (x + s)) ≡ t * 4 + t * (x + s) = mul-add t 4 (x + s) in
    let f : t * (x + s) ≡ t * x + t * s = mul-add t x s in
    omega arith

pub pushed_nothing : (old new : List ℕ) (n : ℕ) → new ≡ old ++ 0 ∷ [] → length old ≡ n → ((xs : List ℕ) → weighted old xs ≡ 0) → (length new ≡ n + 1) × ((xs : List ℕ) → weighted new xs ≡ 0)
pushed_nothing old new n is long none =
    let e : length new ≡ length (old ++ 0 ∷ []) = ap length is in
    let f : length (old ++ 0 ∷ []) ≡ length old + 1 = length-append old (0 ∷ []) in
    (omega arith, λ xs. ap (λ u. weighted u xs) is ∙ (weighted_push old xs ∙ none xs))
