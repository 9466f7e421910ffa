-- Where no number leads back to itself there is an order of dependence: by how many numbers each leads to.
use Rattle.std.proofs.Common.{◌≡◌, ℕ, zero, suc, ◌<◌, ◌≤◌, ◌⊎◌, Bool, true, List, [], ◌∷◌, ◌++◌, length, refl, inl, inr, arith}
use Rattle.std.specs.Prelude.{◌==◌}
use Rattle.std.specs.List.{filter}
use Rattle.std.proofs.lemmas.Bool.{cases_Bool, eqb-true, eq-eqb}
use Rattle.ale_relation.specs.Has.{Has}
use Rattle.ale_relation.specs.Paths.{here, Leads}
use Rattle.ale_relation.proofs.Paths.{reaches_from_leads}
use Rattle.ale_declared.specs.Lists.{upto}
use Rattle.ale_declared.proofs.ListLemmas.{Has-append_left, Has-append_right, Has-append_cases, upto_below, upto_has, Has-filter, filter_has, length-filter-upto-le, length-filter-lt}
use Rattle.ale_hierarchy.specs.Order.{leads_through}
use Rattle.ale_hierarchy.proofs.PathLemmas.{EndsBelow, leads_through_to, leads_through_from, Leads_through, Through_leads}
use Rattle.ale_order.specs.Orders.{IsCyclic, Distinct, CallsKnown, IsOrder}

distinct_append : (xs ys : List ℕ) → Distinct xs → Distinct ys → ((m : ℕ) → Has xs m → Has ys m → ⊥) → Distinct (xs ++ ys)
distinct_append [] ys p q apart = q
distinct_append (x ∷ xs) ys p q apart =
    (λ h. elim (Has-append_cases xs ys x h) [ inl old ↦ p.0 old | inr new ↦ apart x (inl refl) new ], distinct_append xs ys p.1 q (λ m h k. apart m (inr h) k))

distinct_filter : (test : ℕ → Bool) (xs : List ℕ) → Distinct xs → Distinct (filter test xs)
distinct_filter test [] p = tt
distinct_filter test (x ∷ xs) p = elim (cases_Bool (test x)) [
  | inl t ↦ rw t (λ h. p.0 (filter_has test xs x h).0, distinct_filter test xs p.1)
  | inr f ↦ rw f (distinct_filter test xs p.1)
]

distinct_upto : (n : ℕ) → Distinct (upto n)
distinct_upto zero = tt
distinct_upto (suc n) =
    distinct_append (upto n) (n ∷ []) (distinct_upto n) (λ h. h, tt)
    (λ m h k. elim k [ inl e ↦ let low : m < n = upto_below n m h in absurd (omega arith) | inr z ↦ z ])

-- what is known of calls stays so with more known before
known_more : (calls : List (ℕ × ℕ)) (known xs ys : List ℕ) → CallsKnown calls known xs → ((m : ℕ) → Has ys m → (k : ℕ) → Has {A = ℕ × ℕ} calls (m, k) → Has known k ⊎ Has xs k) → CallsKnown calls known (xs ++ ys)
known_more calls known [] [] p each = tt
known_more calls known [] (y ∷ ys) p each = (
  λ k c. elim (each y (inl refl) k c) [ inl h ↦ h | inr z ↦ absurd z ],
  known_more calls (y ∷ known) [] ys tt (λ m h k c. elim (each m (inr h) k c) [ inl old ↦ inl (inr old) | inr z ↦ absurd z ]),
)
known_more calls known (x ∷ xs) ys p each = (
  p.0,
  known_more calls (x ∷ known) xs ys p.1 (λ m h k c. elim (each m h k c) [
    | inl old ↦ inl (inr old)
    | inr new ↦ elim new [ inl e ↦ inl (inl e) | inr more ↦ inr more ]
  ]),
)

module _ (calls : List (ℕ × ℕ)) (size : ℕ) (ends : EndsBelow calls size) (free : (m : ℕ) → IsCyclic calls m → ⊥) where
  abbrev leads : ℕ → ℕ → Bool
  leads m k = leads_through calls size m k

  leads_from : (m k : ℕ) → Leads calls m k → leads m k ≡ true
  leads_from m k l = leads_through_from calls size m k (Through_leads calls size m k ends l)

  leads_to : (m k : ℕ) → leads m k ≡ true → Leads calls m k
  leads_to m k t = Leads_through calls size m k (leads_through_to calls size m k t)

  -- how many a number leads to
  abbrev height : ℕ → ℕ
  height m = length (filter (leads m) (upto size))

  lower : (m k : ℕ) → Has {A = ℕ × ℕ} calls (m, k) → height k < height m
  lower m k c =
      length-filter-lt (leads k) (leads m) (upto size) k
      (λ y t. leads_from m y (k, c, reaches_from_leads calls k y (leads_to k y t)))
      (upto_has size k (ends m k c).1)
      (elim (cases_Bool (leads k k)) [ inl t ↦ absurd (free k (leads_to k k t)) | inr f ↦ f ])
      (leads_from m k (k, c, here k))

  abbrev layer : ℕ → List ℕ
  layer n = filter (λ m. height m == n) (upto size)

  abbrev layers : ℕ → List ℕ
  layers zero = []
  layers (suc n) = layers n ++ layer n

  in_layer : (n m : ℕ) → Has (layer n) m → (m < size) × (height m ≡ n)
  in_layer n m h = let p = filter_has (λ k. height k == n) (upto size) m h in (upto_below size m p.0, eqb-true (height m) n p.1)

  has_layer : (n m : ℕ) → m < size → height m ≡ n → Has (layer n) m
  has_layer n m low e = Has-filter (λ k. height k == n) (upto size) m (upto_has size m low) (eq-eqb (height m) n e)

  in_layers : (n m : ℕ) → Has (layers n) m → (m < size) × (height m < n)
  in_layers zero m h = absurd h
  in_layers (suc n) m h = elim (Has-append_cases (layers n) (layer n) m h) [
    | inl old ↦ let p = in_layers n m old in let low : height m < n = p.1 in (p.0, omega arith)
    | inr new ↦ let p = in_layer n m new in let same : height m ≡ n = p.1 in (p.0, omega arith)
  ]

  has_layers : (n m : ℕ) → m < size → height m < n → Has (layers n) m
  has_layers zero m low less = absurd (omega arith)
  has_layers (suc n) m low less = elim (cases (height m) n less) [
    | inl old ↦ Has-append_left (layers n) (layer n) m (has_layers n m low old)
    | inr new ↦ Has-append_right (layers n) (layer n) m (has_layer n m low new)
  ]
    where
      cases : (a b : ℕ) → a < suc b → (a < b) ⊎ (a ≡ b)
      cases a b h = grind arith

  distinct_layers : (n : ℕ) → Distinct (layers n)
  distinct_layers zero = tt
  distinct_layers (suc n) =
      distinct_append (layers n) (layer n) (distinct_layers n) (distinct_filter (λ m. height m == n) (upto size) (distinct_upto size))
      (λ m h k. let low : height m < n = (in_layers n m h).1 in let same : height m ≡ n = (in_layer n m k).1 in absurd (omega arith))

  known_layers : (n : ℕ) → CallsKnown calls [] (layers n)
  known_layers zero = tt
  known_layers (suc n) =
      known_more calls [] (layers n) (layer n) (known_layers n)
      (λ m h k c. let same : height m ≡ n = (in_layer n m h).1 in let less : height k < height m = lower m k c in inr (has_layers n k (ends m k c).1 (omega arith)))

  pub order_is : (order : List ℕ) × IsOrder calls size order
  order_is = (
    layers (suc size),
    record {
      once = distinct_layers (suc size);
      each = λ m. (λ h. (in_layers (suc size) m h).0, λ low. let most : height m ≤ size = length-filter-upto-le (leads m) size in has_layers (suc size) m low (omega arith));
      after = known_layers (suc size);
    },
  )
