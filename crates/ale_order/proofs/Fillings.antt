-- A table is filled in an order of dependence: one step.
use Rattle.std.proofs.Common.{◌≡◌, ℕ, ◌<◌, ◌⊎◌, List, [], ◌∷◌, Option, Some, None, get_or, length, set, refl, sym, ◌∙◌, subst, inl, inr}
use Rattle.std.proofs.lemmas.Bool.{cases_eq}
use Rattle.std.proofs.lemmas.List.{get_or-set_same, get_or-set_other, length-set}
use Rattle.std.proofs.lemmas.Option.{none-some}
use Rattle.ale_relation.specs.Has.{Has}
use Rattle.ale_order.specs.Entries.{IsKnown, HasRight, RestsOnCalled}
use Rattle.ale_order.specs.Orders.{Distinct, CallsKnown, IsOrder}

-- while the table is filled: those of `rest` have no entry yet, and all others a right one
pub record IsFilling {T : Type 0} (calls : List (ℕ × ℕ)) (is_right : ℕ → List (Option T) → T → Type 0) (size : ℕ) (table : List (Option T)) (rest : List ℕ) : Type 0 where
  pub wide : length table ≡ size
  pub below : (m : ℕ) → Has rest m → m < size
  pub each : (m : ℕ) → m < size → Has rest m ⊎ HasRight is_right table m
  pub apart : (m : ℕ) → Has rest m → get_or table m None ≡ None
  pub closed : (m k : ℕ) → IsKnown table m → Has {A = ℕ × ℕ} calls (m, k) → IsKnown table k
  pub once : Distinct rest
  pub known : List ℕ
  pub are_known : (k : ℕ) → Has known k → IsKnown table k
  pub after : CallsKnown calls known rest

pub begin_filling : {T : Type 0} (calls : List (ℕ × ℕ)) (is_right : ℕ → List (Option T) → T → Type 0) (size : ℕ) (table : List (Option T)) (order : List ℕ) → length table ≡ size → ((m : ℕ) → get_or table m None ≡ None) → IsOrder calls size order → IsFilling calls is_right size table order
begin_filling calls is_right size table order wide none s = record {
  wide = wide;
  below = λ m h. (s.each m).0 h;
  each = λ m below. inl ((s.each m).1 below);
  apart = λ m h. none m;
  closed = λ m k g call. absurd (none-some g.0 (sym (none m) ∙ g.1));
  once = s.once;
  known = [];
  are_known = λ k h. absurd h;
  after = s.after;
}

-- what the first of the rest calls is known
pub calls_known : {T : Type 0} (calls : List (ℕ × ℕ)) (is_right : ℕ → List (Option T) → T → Type 0) (size : ℕ) (table : List (Option T)) (m : ℕ) (list rest : List ℕ) → list ≡ m ∷ rest → IsFilling calls is_right size table list → (k : ℕ) → Has {A = ℕ × ℕ} calls (m, k) → IsKnown table k
calls_known calls is_right size table m list rest first s k call =
    let at : IsFilling calls is_right size table (m ∷ rest) = subst (λ (xs : List ℕ). IsFilling calls is_right size table xs) first s in
    at.are_known k (at.after.0 k call)

entered : {T : Type 0} (calls : List (ℕ × ℕ)) (is_right : ℕ → List (Option T) → T → Type 0) (size : ℕ) (table : List (Option T)) (m : ℕ) (rest : List ℕ) (e : T) → RestsOnCalled calls is_right → is_right m table e → IsFilling calls is_right size table (m ∷ rest) → IsFilling calls is_right size (set table m (Some e)) rest
entered {T} calls is_right size table m rest e rests right s = record {
  wide = length-set table m (Some e) ∙ s.wide;
  below = λ k h. s.below k (inr h);
  each = λ k below. elim (s.each k below) [
    | inl h ↦ elim h [
      | inl same ↦ inr (subst (λ (x : ℕ). HasRight is_right (set table m (Some e)) x) (sym same) (e, put, right_still m e not_itself right))
      | inr g ↦ inl g
    ]
    | inr h ↦ inr (h.0, kept k h.0 h.1, right_still k h.0 (λ call. unknown (s.closed k m (h.0, h.1) call)) h.2)
  ];
  apart = λ k h. other k (λ same. s.once.0 (subst (λ (x : ℕ). Has rest x) same h)) ∙ s.apart k (inr h);
  closed = closed;
  once = s.once.1;
  known = m ∷ s.known;
  are_known = λ k h. elim h [
    | inl same ↦ subst (λ (x : ℕ). IsKnown (set table m (Some e)) x) (sym same) (e, put)
    | inr g ↦ wider k (s.are_known k g)
  ];
  after = s.after.1;
}
  where
    put : get_or (set table m (Some e)) m None ≡ Some e
    put =
        get_or-set_same table m (Some e) None (subst (λ (n : ℕ). m < n) (sym s.wide) (s.below m (inl refl)))

    other : (k : ℕ) → (k ≡ m → ⊥) → get_or (set table m (Some e)) k None ≡ get_or table k None
    other k n = get_or-set_other table m k (Some e) None n

    unknown : IsKnown table m → ⊥
    unknown g = none-some g.0 (sym (s.apart m (inl refl)) ∙ g.1)

    kept : (k : ℕ) (x : T) → get_or table k None ≡ Some x → get_or (set table m (Some e)) k None ≡ Some x
    kept k x is =
        other k (λ same. unknown (subst (λ (y : ℕ). IsKnown table y) same (x, is))) ∙ is

    wider : (k : ℕ) → IsKnown table k → IsKnown (set table m (Some e)) k
    wider k g = (g.0, kept k g.0 g.1)

    not_itself : Has {A = ℕ × ℕ} calls (m, m) → ⊥
    not_itself call = unknown (s.are_known m (s.after.0 m call))

    right_still : (k : ℕ) (x : T) → (Has {A = ℕ × ℕ} calls (k, m) → ⊥) → is_right k table x → is_right k (set table m (Some e)) x
    right_still k x apart =
        rests k table (set table m (Some e)) x (λ j call. other j (λ same. apart (subst (λ (y : ℕ). Has {A = ℕ × ℕ} calls (k, y)) same call)))

    closed : (j k : ℕ) → IsKnown (set table m (Some e)) j → Has {A = ℕ × ℕ} calls (j, k) → IsKnown (set table m (Some e)) k
    closed j k g call =
        elim (cases_eq j m) [
          | inl same ↦ wider k (s.are_known k (s.after.0 k (subst (λ (y : ℕ). Has {A = ℕ × ℕ} calls (y, k)) same call)))
          | inr n ↦ wider k (s.closed j k (g.0, sym (other j n) ∙ g.1) call)
        ]

pub fill_step : {T : Type 0} (calls : List (ℕ × ℕ)) (is_right : ℕ → List (Option T) → T → Type 0) (size : ℕ) (table after : List (Option T)) (m : ℕ) (list rest : List ℕ) (e : T) → RestsOnCalled calls is_right → list ≡ m ∷ rest → is_right m table e → after ≡ set table m (Some e) → IsFilling calls is_right size table list → IsFilling calls is_right size after rest
fill_step calls is_right size table after m list rest e rests first right after_is s =
    rw after_is (entered calls is_right size table m rest e rests right (subst (λ (xs : List ℕ). IsFilling calls is_right size table xs) first s))

pub filled_all : {T : Type 0} (calls : List (ℕ × ℕ)) (is_right : ℕ → List (Option T) → T → Type 0) (size : ℕ) (table : List (Option T)) (list : List ℕ) → list ≡ [] → IsFilling calls is_right size table list → (m : ℕ) → m < size → HasRight is_right table m
filled_all calls is_right size table list ended s m below =
    elim (s.each m below) [
      | inl h ↦ absurd (subst (λ (xs : List ℕ). Has xs m) ended h)
      | inr h ↦ h
    ]
