-- What the first thing found is, and what holds when a loop has settled: its invariant, and nothing found.
use Rattle.std.proofs.Common.{◌≡◌, ℕ, zero, suc, ◌<◌, ◌≤◌, List, [], ◌∷◌, ◌++◌, inl, inr, refl, ap, ◌∙◌, arith, Option, Some, None}
use Rattle.ale_declared.specs.Lists.{Has}
use Rattle.ale_graph.specs.Settled.{or_else, first_some, first_pair, settle}

pub some_found : {A B : Type 0} (give : A → Option B) (xs : List A) (b : B) → first_some give xs ≡ Some b → (x : A) × Has xs x × (give x ≡ Some b)
some_found give [] b e = absurd cc
some_found give (x ∷ xs) b e = go (some_found give xs b) (give x) refl e
  where
    go : (first_some give xs ≡ Some b → (y : _) × Has xs y × (give y ≡ Some b)) → (o : Option _) → give x ≡ o → or_else o (first_some give xs) ≡ Some b → (y : _) × Has (x ∷ xs) y × (give y ≡ Some b)
    go ih None is e = let r = ih e in (r.0, inr r.1, r.2)
    go ih (Some c) is e = (x, inl refl, is ∙ e)

pub some_none : {A B : Type 0} (give : A → Option B) (xs : List A) (x : A) → first_some give xs ≡ None → Has xs x → give x ≡ None
some_none give [] x e h = absurd h
some_none give (y ∷ xs) x e h = go (some_none give xs x) (give y) refl e h
  where
    go : (first_some give xs ≡ None → Has xs x → give x ≡ None) → (o : Option _) → give y ≡ o → or_else o (first_some give xs) ≡ None → Has (y ∷ xs) x → give x ≡ None
    go ih None is e (inl p) = ap give p ∙ is
    go ih None is e (inr h) = ih e h
    go ih (Some c) is e h = absurd cc

-- what an earlier element gives stands, whatever follows
pub some_longer : {A B : Type 0} (give : A → Option B) (xs ys : List A) (b : B) → first_some give xs ≡ Some b → first_some give (xs ++ ys) ≡ Some b
some_longer give [] ys b e = absurd cc
some_longer give (x ∷ xs) ys b e = go (some_longer give xs ys b) (give x) e
  where
    go : (first_some give xs ≡ Some b → first_some give (xs ++ ys) ≡ Some b) → (o : Option _) → or_else o (first_some give xs) ≡ Some b → or_else o (first_some give (xs ++ ys)) ≡ Some b
    go ih None e = ih e
    go ih (Some c) e = e

pub record IsFound {A B C : Type 0} (give : A → B → Option C) (xs : List A) (ys : List B) (c : C) : Type 0 where
  pub x : A
  pub y : B
  pub in_xs : Has xs x
  pub in_ys : Has ys y
  pub gives : give x y ≡ Some c

pub pair_found : {A B C : Type 0} (give : A → B → Option C) (xs : List A) (ys : List B) (c : C) → first_pair give xs ys ≡ Some c → IsFound give xs ys c
pair_found give xs ys c e =
    let r = some_found (λ x. first_some (give x) ys) xs c e in
    let q = some_found (give r.0) ys c r.2 in
    record { x = r.0; y = q.0; in_xs = r.1; in_ys = q.1; gives = q.2 }

pub pair_none : {A B C : Type 0} (give : A → B → Option C) (xs : List A) (ys : List B) (x : A) (y : B) → first_pair give xs ys ≡ None → Has xs x → Has ys y → give x y ≡ None
pair_none give xs ys x y e h k = some_none (give x) ys y (some_none (λ a. first_some (give a) ys) xs x e h) k

-- one step of a loop: a number falls, and the invariant is kept
pub record IsStep {S A : Type 0} (find : S → Option A) (apply : A → S → S) (size : S → ℕ) (Keep : S → Type 0) : Type 0 where
  pub less : (s : S) (a : A) → Keep s → find s ≡ Some a → size (apply a s) < size s
  pub kept : (s : S) (a : A) → Keep s → find s ≡ Some a → Keep (apply a s)

pub record IsSettled {S A : Type 0} (find : S → Option A) (Keep : S → Type 0) (s : S) : Type 0 where
  pub kept : Keep s
  pub none : find s ≡ None

pub settled : {S A : Type 0} (find : S → Option A) (apply : A → S → S) (size : S → ℕ) (Keep : S → Type 0) → IsStep find apply size Keep → (n : ℕ) (s : S) → Keep s → size s ≤ n → IsSettled find Keep (settle find apply n s)
settled find apply size Keep step zero s k le = record { kept = k; none = go (find s) refl }
  where
    go : (o : Option _) → find s ≡ o → find s ≡ None
    go None e = e
    go (Some a) e = let l = step.less s a k e in absurd (omega arith)
settled find apply size Keep step (suc n) s k le = go (settled find apply size Keep step n) (find s) refl
  where
    go : ((t : _) → Keep t → size t ≤ n → IsSettled find Keep (settle find apply n t)) → (o : Option _) → find s ≡ o → IsSettled find Keep (elim o [ None ↦ s | Some a ↦ settle find apply n (apply a s) ])
    go ih None e = record { kept = k; none = e }
    go ih (Some a) e = let l = step.less s a k e in ih (apply a s) (step.kept s a k e) (omega arith)

-- what each step keeps holds at the end
pub settle_keeps : {S A : Type 0} (find : S → Option A) (apply : A → S → S) (Keep : S → Type 0) → ((s : S) (a : A) → Keep s → find s ≡ Some a → Keep (apply a s)) → (n : ℕ) (s : S) → Keep s → Keep (settle find apply n s)
settle_keeps find apply Keep step zero s k = k
settle_keeps find apply Keep step (suc n) s k = go (settle_keeps find apply Keep step n) (find s) refl
  where
    go : ((t : _) → Keep t → Keep (settle find apply n t)) → (o : Option _) → find s ≡ o → Keep (elim o [ None ↦ s | Some a ↦ settle find apply n (apply a s) ])
    go ih None e = k
    go ih (Some a) e = ih (apply a s) (step s a k e)

pub all_none : {A B : Type 0} (give : A → Option B) (xs : List A) → ((x : A) → Has xs x → give x ≡ None) → first_some give xs ≡ None
all_none give [] all = refl
all_none give (x ∷ xs) all = go (give x) (all x (inl refl)) (all_none give xs (λ y h. all y (inr h)))
  where
    go : (o : Option _) → o ≡ None → first_some give xs ≡ None → or_else o (first_some give xs) ≡ None
    go None e r = r
    go (Some b) e r = absurd (none_some' e)
      where
        none_some' : {B : Type 0} {b : B} → Some b ≡ None → ⊥
        none_some' e = absurd cc

-- what is left to do once something is found, or not
abbrev go_on : {S A : Type 0} → (S → Option A) → (A → S → S) → ℕ → S → Option A → S
go_on find apply n s None = s
go_on find apply n s (Some a) = settle find apply n (apply a s)

-- whatever bounds the number of steps, the loop ends with the same
pub settle_more : {S A : Type 0} (find : S → Option A) (apply : A → S → S) (size : S → ℕ) (Keep : S → Type 0) → IsStep find apply size Keep → (n m : ℕ) (s : S) → Keep s → size s ≤ n → size s ≤ m → settle find apply n s ≡ settle find apply m s
settle_more find apply size Keep step zero zero s k le le' = refl
settle_more find apply size Keep step zero (suc m) s k le le' = go (find s) refl
  where
    go : (o : Option _) → find s ≡ o → s ≡ go_on find apply m s o
    go None e = refl
    go (Some a) e = let l = step.less s a k e in absurd (omega arith)
settle_more find apply size Keep step (suc n) zero s k le le' = go (find s) refl
  where
    go : (o : Option _) → find s ≡ o → go_on find apply n s o ≡ s
    go None e = refl
    go (Some a) e = let l = step.less s a k e in absurd (omega arith)
settle_more find apply size Keep step (suc n) (suc m) s k le le' = go (settle_more find apply size Keep step n m) (find s) refl
  where
    go : ((t : _) → Keep t → size t ≤ n → size t ≤ m → settle find apply n t ≡ settle find apply m t) → (o : Option _) → find s ≡ o → go_on find apply n s o ≡ go_on find apply m s o
    go ih None e = refl
    go ih (Some a) e = let l = step.less s a k e in ih (apply a s) (step.kept s a k e) (omega arith) (omega arith)

-- one step of the loop
pub settle_step : {S A : Type 0} (find : S → Option A) (apply : A → S → S) (size : S → ℕ) (Keep : S → Type 0) → IsStep find apply size Keep → (s : S) (a : A) → Keep s → find s ≡ Some a → settle find apply (size s) s ≡ settle find apply (size (apply a s)) (apply a s)
settle_step find apply size Keep step s a k e = go (size s) refl
  where
    go : (n : ℕ) → size s ≡ n → settle find apply n s ≡ settle find apply (size (apply a s)) (apply a s)
    go zero q = let l = step.less s a k e in absurd (omega arith)
    go (suc n) q =
        let l = step.less s a k e in
        ap (λ o. go_on find apply n s o) e
        ∙ settle_more find apply size Keep step n (size (apply a s)) (apply a s) (step.kept s a k e) (omega arith) (omega arith)

-- the loop's end
pub settle_none : {S A : Type 0} (find : S → Option A) (apply : A → S → S) (n : ℕ) (s : S) → find s ≡ None → settle find apply n s ≡ s
settle_none find apply zero s e = refl
settle_none find apply (suc n) s e = ap (λ o. go_on find apply n s o) e
