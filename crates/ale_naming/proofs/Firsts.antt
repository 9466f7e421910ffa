-- Functions that find the first fault of things that are looked at in order.
use Rattle.std.proofs.Common.{◌≡◌, ◌↔◌, ℕ, ◌⊎◌, Option, Some, None, List, [], ◌∷◌, refl, sym, ap, ◌∙◌, inl, inr}
use Rattle.ale_vocabulary.specs.First.{IsFirst, here, later, AllRight, or_else}
use Rattle.ale_vocabulary.specs.declared.error.NameError.{NameError}
use Rattle.ale_naming.specs.Faults.{Fault}
use Rattle.ale_naming.specs.Rounds.{fault_at}

pub some_none : {F : Type 0} (f : F) → Some f ≡ None → ⊥
some_none f e = absurd cc

-- a function finds the fault that there is, and finds nothing where there is none
abbrev pub Tells : {F : Type 0} → Option F → (F → Type 0) → Type 0
Tells o IsFault = (f : _) → (o ≡ Some f) ↔ IsFault f

pub tells_none : {F : Type 0} (IsFault : F → Type 0) (o : Option F) → Tells o IsFault → o ≡ None → (f : F) → IsFault f → ⊥
tells_none IsFault o t e f is = some_none f (sym ((t f).1 is) ∙ e)

-- the same of the first fault in a list
pub record Finds {A F : Type 0} (IsFault : A → F → Type 0) (o : Option F) (xs : List A) : Type 0 where
  pub first : (f : F) → (o ≡ Some f) ↔ IsFirst IsFault xs f
  pub none : (o ≡ None) ↔ AllRight IsFault xs

-- a first fault is that of the first thing, or of a later one where the first is right
abbrev FirstIn : {A F : Type 0} → (A → F → Type 0) → List A → F → Type 0
FirstIn IsFault [] f = ⊥
FirstIn IsFault (a ∷ rest) f = IsFault a f ⊎ (((g : _) → IsFault a g → ⊥) × IsFirst IsFault rest f)

first_in : {A F : Type 0} (IsFault : A → F → Type 0) (xs : List A) (f : F) → IsFirst IsFault xs f → FirstIn IsFault xs f
first_in IsFault _ _ (here a rest f is) = inl is
first_in IsFault _ _ (later a rest f clear is) = inr (clear, is)

pub finds_none : {A F : Type 0} (IsFault : A → F → Type 0) → Finds IsFault None []
finds_none IsFault = record { first = λ f. (λ e. absurd (some_none f (sym e)), λ is. absurd (first_in IsFault [] f is)); none = (λ e. tt, λ r. refl) }

-- of one thing and of those behind it, where that one is right
pub finds_more : {A F : Type 0} (IsFault : A → F → Type 0) (o r : Option F) (a : A) (rest : List A) → Tells o (IsFault a) → (o ≡ None → Finds IsFault r rest) → Finds IsFault (or_else o r) (a ∷ rest)
finds_more {A} {F} IsFault None r a rest t behind =
    let b : Finds IsFault r rest = behind refl in
    let right : (g : F) → IsFault a g → ⊥ = tells_none (IsFault a) None t refl in
    record {
      first = λ f. (λ e. later a rest f right ((b.first f).0 e), λ is. elim (first_in IsFault (a ∷ rest) f is) [ inl h ↦ absurd (right f h) | inr h ↦ (b.first f).1 h.1 ]);
      none = (λ e. (right, b.none.0 e), λ all. b.none.1 all.1);
    }
finds_more {A} {F} IsFault (Some g) r a rest t behind = record {
  first = λ f. (λ e. here a rest f ((t f).0 e), λ is. elim (first_in IsFault (a ∷ rest) f is) [ inl h ↦ (t f).1 h | inr h ↦ absurd (h.0 g ((t g).0 refl)) ]);
  none = (λ e. absurd (some_none g e), λ all. absurd (all.0 g ((t g).0 refl)));
}

pub same_pair : (k : ℕ) (e : NameError) (f : Fault) → Some (k, e) ≡ Some f → (k, e) ≡ f
same_pair k e f q = cc

pub same_error : (e g : NameError) → Some e ≡ Some g → e ≡ g
same_error e g q = cc

-- the fault of the declaration with a number
pub tells_at : (k : ℕ) (o : Option NameError) (IsFault : NameError → Type 0) → Tells o IsFault → Tells (fault_at k o) (λ (f : Fault). (f.0 ≡ k) × IsFault f.1)
tells_at k None IsFault t f = (λ e. absurd (some_none f (sym e)), λ is. absurd (tells_none IsFault None t refl f.1 is.1))
tells_at k (Some e) IsFault t f = (
  λ q. (ap (λ (p : Fault). p.0) (sym (same_pair k e f q)), (t f.1).0 (ap (λ (p : Fault). Some p.1) (same_pair k e f q))),
  λ is. ap (λ (n : ℕ). Some (n, e)) (sym is.0) ∙ ap (λ (x : NameError). Some (f.0, x)) (same_error e f.1 ((t f.1).1 is.1)),
)

-- where nothing is found, neither of the two finds anything
pub at_none : (k : ℕ) (o : Option NameError) → fault_at k o ≡ None → o ≡ None
at_none k None e = refl
at_none k (Some x) e = absurd (some_none (k, x) e)

pub both_none : (o r : Option Fault) → or_else o r ≡ None → (o ≡ None) × (r ≡ None)
both_none None r e = (refl, e)
both_none (Some f) r e = absurd (some_none f e)
