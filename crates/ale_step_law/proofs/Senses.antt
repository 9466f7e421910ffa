-- Senses that go on: with new nodes, a new environment, new phrases; each agrees with the one before on what there was.
use Rattle.std.proofs.Common.{◌≡◌, ℕ, ◌+◌, ◌-◌, ◌<◌, Bool, true, false, eqb, ltb, if◌then◌else◌, List, refl, ap, ◌∙◌, arith, cond}
use Rattle.std.proofs.lemmas.Bool.{eqb-true, eq-eqb, ltb-true, lt-ltb}
use Rattle.ale_logic.specs.Programs.{Word}
use Rattle.ale_logic.specs.Satisfaction.{Sense}

-- below `from` as before, and from there on by f
abbrev pub shift : {A : Type 0} → (ℕ → A) → ℕ → (ℕ → A) → ℕ → A
shift old from f n = if ltb n from then old n else f (n - from)

pub shift_old : {A : Type 0} (old : ℕ → A) (from : ℕ) (f : ℕ → A) (n : ℕ) → n < from → shift old from f n ≡ old n
shift_old old from f n low = ap (λ z. cond z (old n) (f (n - from))) (lt-ltb n from low)

pub shift_new : {A : Type 0} (old : ℕ → A) (from : ℕ) (f : ℕ → A) (k : ℕ) → shift old from f (from + k) ≡ f k
shift_new old from f k = go (ltb (from + k) from) refl
  where
    go : (b : Bool) → ltb (from + k) from ≡ b → shift old from f (from + k) ≡ f k
    go true b = let low : from + k < from = ltb-true (from + k) from b in absurd (omega arith)
    go false b =
        let is : from + k - from ≡ k = omega arith in
        ap (λ z. cond z (old (from + k)) (f (from + k - from))) b ∙ ap f is

pub shift_first : {A : Type 0} (old : ℕ → A) (from : ℕ) (f : ℕ → A) → shift old from f from ≡ f 0
shift_first old from f = let is : from ≡ from + 0 = omega arith in ap (shift old from f) is ∙ shift_new old from f 0

-- the environment with this number stands for the assignment
abbrev pub with_nodes : Sense → ℕ → (ℕ → ℕ) → Sense
with_nodes x next f = record x { node = shift x.node next f }

abbrev pub with_words : Sense → ℕ → (ℕ → List Word) → Sense
with_words x phrases f = record x { words = shift x.words phrases f }

abbrev pub with_assignment : Sense → ℕ → (ℕ → ℕ) → Sense
with_assignment x e assign = record x { var = λ d. if eqb d e then assign else x.var d }

pub var_old : (x : Sense) (e : ℕ) (assign : ℕ → ℕ) (d : ℕ) → d < e → (with_assignment x e assign).var d ≡ x.var d
var_old x e assign d low = go (eqb d e) refl
  where
    go : (b : Bool) → eqb d e ≡ b → (with_assignment x e assign).var d ≡ x.var d
    go true b = let same : d ≡ e = eqb-true d e b in absurd (omega arith)
    go false b = ap (λ z. cond {A = ℕ → ℕ} z assign (x.var d)) b

pub var_new : (x : Sense) (e : ℕ) (assign : ℕ → ℕ) → (with_assignment x e assign).var e ≡ assign
var_new x e assign = ap (λ z. cond {A = ℕ → ℕ} z assign (x.var e)) (eq-eqb e e refl)
