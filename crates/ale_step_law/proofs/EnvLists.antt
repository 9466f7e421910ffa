-- Lists of environments: with one more variable bound, and with one more environment.
use Rattle.std.proofs.Common.{◌≡◌, ◌≢◌, ℕ, ◌+◌, ◌<◌, ◌≤◌, Bool, true, false, eqb, List, [], ◌∷◌, ◌++◌, length, ◌⊎◌, inl, inr, refl, sym, ap, ◌∙◌, subst, arith, slice_set, replicate, Option, Some, None}
use Rattle.std.proofs.lemmas.Bool.{eqb-true, eq-eqb}
use Rattle.std.proofs.lemmas.List.{get_or-set_same, get_or-set_other, get_or-replicate, get_or_past, length-replicate, length-set, length-append, get_or_append_left}
use Rattle.std.proofs.Math.Seq.{get_or-append_seam}
use Rattle.ale_graph.proofs.Lists.{some_one}
use Rattle.ale_logic.specs.Words.{Environment, bound_in}
use Rattle.ale_logic.specs.States.{env_at, bound}

-- nothing is bound in an environment that is not there, and a variable that is bound is in one that is
pub bound_inside : (envs : List Environment) (e v n : ℕ) → bound envs e v ≡ Some n → e < length envs
bound_inside envs e v n b = go (grind arith)
  where
    go : (e < length envs) ⊎ (length envs ≤ e) → e < length envs
    go (inl low) = low
    go (inr far) =
        let none : bound envs e v ≡ None = ap (λ z. bound_in z v) (get_or_past envs e [] far) in
        let clash : None ≡ Some n = sym none ∙ b in absurd cc

env_same : (envs : List Environment) (e : ℕ) (env : Environment) → e < length envs → env_at (slice_set envs e env) e ≡ env
env_same envs e env low = get_or-set_same envs e env [] low

env_other : (envs : List Environment) (e d : ℕ) (env : Environment) → d ≢ e → env_at (slice_set envs e env) d ≡ env_at envs d
env_other envs e d env far = get_or-set_other envs e d env [] far

-- the list with one variable bound
abbrev pub binding_of : List Environment → ℕ → ℕ → ℕ → List Environment
binding_of envs e v n = slice_set envs e (slice_set (env_at envs e) v (Some n))

apart : (a b : ℕ) → eqb a b ≡ false → a ≢ b
apart a b e same = let clash : true ≡ false = sym (eq-eqb a b same) ∙ e in absurd cc

pub bind_length : (envs : List Environment) (e v n : ℕ) → length (binding_of envs e v n) ≡ length envs
bind_length envs e v n = length-set envs e (slice_set (env_at envs e) v (Some n))

pub bind_lengths : (envs : List Environment) (e v n d : ℕ) → e < length envs → length (env_at (binding_of envs e v n) d) ≡ length (env_at envs d)
bind_lengths envs e v n d low = go (eqb d e) refl
  where
    go : (b : Bool) → eqb d e ≡ b → length (env_at (binding_of envs e v n) d) ≡ length (env_at envs d)
    go true b =
        let same : d ≡ e = eqb-true d e b in
        let is : env_at (binding_of envs e v n) e ≡ slice_set (env_at envs e) v (Some n) = env_same envs e (slice_set (env_at envs e) v (Some n)) low in
        ap (λ z. length (env_at (binding_of envs e v n) z)) same ∙ ap length is ∙ length-set (env_at envs e) v (Some n) ∙ ap (λ z. length (env_at envs z)) (sym same)
    go false b = ap length (env_other envs e d (slice_set (env_at envs e) v (Some n)) (apart d e b))

pub bind_same : (envs : List Environment) (e v n : ℕ) → e < length envs → v < length (env_at envs e) → bound (binding_of envs e v n) e v ≡ Some n
bind_same envs e v n low inside =
    ap (λ z. bound_in z v) (env_same envs e (slice_set (env_at envs e) v (Some n)) low) ∙ get_or-set_same (env_at envs e) v (Some n) None inside

-- in the same environment another variable, in another environment every one is bound as before
bind_other : (envs : List Environment) (e v n d w : ℕ) → e < length envs → (eqb d e ≡ true → w ≢ v) → bound (binding_of envs e v n) d w ≡ bound envs d w
bind_other envs e v n d w low far = go (eqb d e) refl
  where
    go : (b : Bool) → eqb d e ≡ b → bound (binding_of envs e v n) d w ≡ bound envs d w
    go true b =
        let same : d ≡ e = eqb-true d e b in
        let is : env_at (binding_of envs e v n) e ≡ slice_set (env_at envs e) v (Some n) = env_same envs e (slice_set (env_at envs e) v (Some n)) low in
        ap (λ z. bound (binding_of envs e v n) z w) same ∙ ap (λ z. bound_in z w) is ∙ get_or-set_other (env_at envs e) v w (Some n) None (far b) ∙ ap (λ z. bound envs z w) (sym same)
    go false b = ap (λ z. bound_in z w) (env_other envs e d (slice_set (env_at envs e) v (Some n)) (apart d e b))

-- what holds of the new variable's node and of those that were bound holds of each
pub bind_cases : (envs : List Environment) (e v n d w m : ℕ) (P : ℕ → ℕ → ℕ → Type 0) → e < length envs → v < length (env_at envs e) → P e v n → (bound envs d w ≡ Some m → P d w m) → bound (binding_of envs e v n) d w ≡ Some m → P d w m
bind_cases envs e v n d w m P low inside new old b = go (eqb d e) refl (eqb w v) refl
  where
    go : (t : Bool) → eqb d e ≡ t → (u : Bool) → eqb w v ≡ u → P d w m
    go true t true u =
        let one : d ≡ e = eqb-true d e t in
        let two : w ≡ v = eqb-true w v u in
        let is : Some n ≡ Some m = sym (bind_same envs e v n low inside) ∙ ap (λ z. bound (binding_of envs e v n) z v) (sym one) ∙ ap (bound (binding_of envs e v n) d) (sym two) ∙ b in
        subst (λ z. P z w m) (sym one) (subst (λ z. P e z m) (sym two) (subst (P e v) (some_one is) new))
    go true t false u = old (sym (bind_other envs e v n d w low (λ q. apart w v u)) ∙ b)
    go false t u q = old (sym (bind_other envs e v n d w low (λ z. let clash : true ≡ false = sym z ∙ t in absurd cc)) ∙ b)

-- what was bound before an unbound variable was bound is still bound
pub bind_before : (envs : List Environment) (e v n d w m : ℕ) → e < length envs → bound envs e v ≡ None → bound envs d w ≡ Some m → bound (binding_of envs e v n) d w ≡ Some m
bind_before envs e v n d w m low free b = bind_other envs e v n d w low far ∙ b
  where
    far : eqb d e ≡ true → w ≢ v
    far q same =
        let one : d ≡ e = eqb-true d e q in
        let clash : None ≡ Some m = sym free ∙ ap (λ z. bound envs z v) (sym one) ∙ ap (bound envs d) (sym same) ∙ b in
        absurd cc

-- the list with one more environment
pub env_old : (envs : List Environment) (env : Environment) (e : ℕ) → e < length envs → env_at (envs ++ env ∷ []) e ≡ env_at envs e
env_old envs env e low = get_or_append_left envs (env ∷ []) [] e low

pub env_new : (envs : List Environment) (env : Environment) → env_at (envs ++ env ∷ []) (length envs) ≡ env
env_new envs env = get_or-append_seam envs env [] []

pub more_envs : (envs : List Environment) (env : Environment) → length (envs ++ env ∷ []) ≡ length envs + 1
more_envs envs env = length-append envs (env ∷ [])

pub bound_old : (envs : List Environment) (env : Environment) (e v n : ℕ) → bound envs e v ≡ Some n → bound (envs ++ env ∷ []) e v ≡ Some n
bound_old envs env e v n b = ap (λ z. bound_in z v) (env_old envs env e (bound_inside envs e v n b)) ∙ b

-- nothing is bound in a new environment
pub none_bound : (slots v n : ℕ) → bound_in (replicate slots None) v ≡ Some n → ⊥
none_bound slots v n e = go (grind arith)
  where
    go : (v < slots) ⊎ (slots ≤ v) → ⊥
    go (inl low) = let clash : None ≡ Some n = sym (get_or-replicate slots v None None low) ∙ e in absurd cc
    go (inr far) =
        let past : length (replicate {A = Option ℕ} slots None) ≤ v = let l = length-replicate {A = Option ℕ} slots None in omega arith in
        let clash : None ≡ Some n = sym (get_or_past (replicate slots None) v None past) ∙ e in absurd cc

pub bound_back : (envs : List Environment) (slots e v n : ℕ) → bound (envs ++ replicate slots None ∷ []) e v ≡ Some n → bound envs e v ≡ Some n
bound_back envs slots e v n b = go (grind arith)
  where
    inside : e < length (envs ++ replicate slots None ∷ [])
    inside = bound_inside (envs ++ replicate slots None ∷ []) e v n b

    go : (e < length envs) ⊎ (length envs ≤ e) → bound envs e v ≡ Some n
    go (inl low) = sym (ap (λ z. bound_in z v) (env_old envs (replicate slots None) e low)) ∙ b
    go (inr far) =
        let long = more_envs envs (replicate slots None) in
        let last : e ≡ length envs = omega (arith, inside, long) in
        let is : bound_in (replicate slots None) v ≡ Some n = sym (ap (λ z. bound_in z v) (env_new envs (replicate slots None))) ∙ ap (λ z. bound (envs ++ replicate slots None ∷ []) z v) (sym last) ∙ b in
        absurd (none_bound slots v n is)

pub new_length : (envs : List Environment) (slots : ℕ) → length (env_at (envs ++ replicate slots None ∷ []) (length envs)) ≡ slots
new_length envs slots = ap length (env_new envs (replicate slots None)) ∙ length-replicate {A = Option ℕ} slots None
