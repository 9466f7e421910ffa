-- A value put at the end of a row.
use Rattle.std.proofs.Common.{◌≡◌, ℕ, zero, suc, ◌<◌, true, cond, eqb, List, [], ◌∷◌, ◌++◌, length, get_or, set, refl, sym, ap, ◌∙◌, subst, inl, inr}
use Rattle.std.proofs.lemmas.Bool.{cases_Bool, eqb-true, eqb-false}
use Rattle.std.specs.Prelude.{map, drop}
use Rattle.std.proofs.lemmas.List.{append_assoc, get_or-set_same, get_or-set_other, get_or-map, map-set, length-map, length-set}
use Rattle.ale_relation.specs.Has.{Has}
use Rattle.ale_relation.specs.Paths.{ends_below}
use Rattle.ale_relation.proofs.Paths.{has_below}
use Rattle.ale_order.specs.Calls.{called, callers, row, with_value}

-- `f` gives the rows of a table, which may be held in another form; a push into one
pub push_row : {V : Type 0} (f : V → List ℕ) (rows : List V) (at value : ℕ) (before after : V) → at < length rows → before ≡ get_or rows at before → f after ≡ f before ++ value ∷ [] → map f (set rows at after) ≡ with_value (map f rows) at value
push_row f rows at value before after within read pushed =
    let here : row (map f rows) at ≡ f before = get_or-map f rows at before [] within ∙ ap f (sym read) in
    map-set f rows at after ∙ ap (λ (xs : List ℕ). set (map f rows) at xs) (pushed ∙ ap (λ (xs : List ℕ). xs ++ value ∷ []) (sym here))

pub push_wide : {V : Type 0} (f : V → List ℕ) (before after : List V) (at value : ℕ) → map f after ≡ with_value (map f before) at value → length after ≡ length before
push_wide f before after at value e =
    sym (length-map after f) ∙ ap length e ∙ length-set (map f before) at (row (map f before) at ++ value ∷ []) ∙ length-map before f

-- the row with the values that are still to come for it is the same whole before and after
value_step : (table : List (List ℕ)) (at value m : ℕ) (others whole : List ℕ) → at < length table → row table m ++ cond (eqb at m) (value ∷ others) others ≡ whole → row (with_value table at value) m ++ others ≡ whole
value_step table at value m others whole within h =
    elim (cases_Bool (eqb at m)) [
      | inl t ↦
          let now : row table m ++ value ∷ others ≡ whole = rw t at h in
          let same : at ≡ m = eqb-true at m t in
          let put : row (with_value table at value) at ≡ row table at ++ value ∷ [] = get_or-set_same table at (row table at ++ value ∷ []) [] within in
          let put_m : row (with_value table at value) m ≡ row table m ++ value ∷ [] = subst (λ (x : ℕ). row (with_value table at value) x ≡ row table x ++ value ∷ []) same put in
          ap (λ (xs : List ℕ). xs ++ others) put_m ∙ append_assoc (row table m) (value ∷ []) others ∙ now
      | inr t ↦
          let now : row table m ++ others ≡ whole = rw t at h in
          let kept : row (with_value table at value) m ≡ row table m = get_or-set_other table at m (row table at ++ value ∷ []) [] (λ e. eqb-false at m t (sym e)) in
          ap (λ (xs : List ℕ). xs ++ others) kept ∙ now
    ]

pub called_step : {V : Type 0} (f : V → List ℕ) (before after : List V) (calls rest later : List (ℕ × ℕ)) (c : ℕ × ℕ) (size : ℕ) → length before ≡ size → c.0 < size → rest ≡ c ∷ later → map f after ≡ with_value (map f before) c.0 c.1 → ((m : ℕ) → row (map f before) m ++ called rest m ≡ called calls m) → (m : ℕ) → row (map f after) m ++ called later m ≡ called calls m
called_step f before after calls rest later c size wide below first pushed so_far m =
    let within : c.0 < length (map f before) = subst (λ (n : ℕ). c.0 < n) (sym (length-map before f ∙ wide)) below in
    let now : row (map f before) m ++ called (c ∷ later) m ≡ called calls m = subst (λ (cs : List (ℕ × ℕ)). row (map f before) m ++ called cs m ≡ called calls m) first (so_far m) in
    ap (λ (t : List (List ℕ)). row t m ++ called later m) pushed ∙ value_step (map f before) c.0 c.1 m (called later m) (called calls m) within now

pub callers_step : {V : Type 0} (f : V → List ℕ) (before after : List V) (calls rest later : List (ℕ × ℕ)) (c : ℕ × ℕ) (size : ℕ) → length before ≡ size → c.1 < size → rest ≡ c ∷ later → map f after ≡ with_value (map f before) c.1 c.0 → ((m : ℕ) → row (map f before) m ++ callers rest m ≡ callers calls m) → (m : ℕ) → row (map f after) m ++ callers later m ≡ callers calls m
callers_step f before after calls rest later c size wide below first pushed so_far m =
    let within : c.1 < length (map f before) = subst (λ (n : ℕ). c.1 < n) (sym (length-map before f ∙ wide)) below in
    let now : row (map f before) m ++ callers (c ∷ later) m ≡ callers calls m = subst (λ (cs : List (ℕ × ℕ)). row (map f before) m ++ callers cs m ≡ callers calls m) first (so_far m) in
    ap (λ (t : List (List ℕ)). row t m ++ callers later m) pushed ∙ value_step (map f before) c.1 c.0 m (callers later m) (callers calls m) within now

-- both ends of a call that is still to come are below the size
pub ends_of : (size i : ℕ) (calls later : List (ℕ × ℕ)) (c : ℕ × ℕ) → ends_below size calls ≡ true → drop i calls ≡ c ∷ later → (c.0 < size) × (c.1 < size)
ends_of size i calls later c ends first =
    has_below size calls c ends (has_drop i calls (subst (λ (cs : List (ℕ × ℕ)). Has cs c) (sym first) (inl refl)))
  where
    has_drop : (n : ℕ) (cs : List (ℕ × ℕ)) → Has (drop n cs) c → Has cs c
    has_drop zero cs h = h
    has_drop (suc n) [] h = h
    has_drop (suc n) (x ∷ cs) h = inr (has_drop n cs h)
