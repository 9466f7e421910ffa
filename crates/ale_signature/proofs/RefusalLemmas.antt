-- The refusals of `build` are those that are owed: each stands for the fault that the signature has.
use Rattle.std.proofs.Common.{◌≡◌, sym, ap, ◌∙◌, subst, refl, Option, Some, None}
use Rattle.std.specs.Prelude.{Result, Ok, Err, IfOk, IfErr, IsErrOf}
use Rattle.ale_declared.specs.Declarations.{Declared}
use Rattle.ale_declared.specs.Numbering.{IsWellNumbered}
use Rattle.ale_hierarchy.specs.Faults.{fault_of}
use Rattle.ale_hierarchy.specs.Refusals.{IsFault, IsRefusal, RefusesFor, RefusesWhere, named_fault}
use Rattle.ale_hierarchy.specs.declared.fault.Fault.{Fault}
use Rattle.ale_hierarchy.specs.declared.fault.Fault.TheVariants.{TooManyTypes, TooManyFeatures, SubCycle, NoJoin, TwoIntros, ValueClash, Loop, ExtNotMaximal, FillTooLarge}
use Rattle.ale_hierarchy.specs.declared.error.SigError.{SigError}
use Rattle.ale_hierarchy.specs.declared.error.SigError.TheVariants as refusal
use Rattle.ale_signature.proofs.FaultOf.{found, finding}

refusal_of : (d : Declared) (f : Fault) → IsFault d f → IsRefusal d (named_fault d f)
refusal_of d TooManyTypes h = h
refusal_of d TooManyFeatures h = h
refusal_of d (SubCycle t) h = (t, refl, h)
refusal_of d (NoJoin a b c e) h = (a, b, c, e, refl, refl, refl, refl, h)
refusal_of d (TwoIntros f a b) h = (f, a, b, refl, refl, refl, h)
refusal_of d (ValueClash t f) h = (t, f, refl, refl, h)
refusal_of d (Loop t) h = (t, refl, h)
refusal_of d (ExtNotMaximal t) h = (t, refl, h)
refusal_of d (FillTooLarge t) h = (t, refl, h)

fault_behind : (d : Declared) (e : SigError) → IsRefusal d e → (f : Fault) × IsFault d f × (e ≡ named_fault d f)
fault_behind d refusal.TooManyTypes h = (TooManyTypes, h, refl)
fault_behind d refusal.TooManyFeatures h = (TooManyFeatures, h, refl)
fault_behind d (refusal.SubCycle x) h = (SubCycle h.0, h.2, ap refusal.SubCycle h.1)
fault_behind d (refusal.NoJoin x y z w) h = (NoJoin h.0 h.1 h.2 h.3, h.8, rw (h.4, h.5, h.6, h.7) refl)
fault_behind d (refusal.TwoIntros x y z) h = (TwoIntros h.0 h.1 h.2, h.6, rw (h.3, h.4, h.5) refl)
fault_behind d (refusal.ValueClash x y) h = (ValueClash h.0 h.1, h.4, rw (h.2, h.3) refl)
fault_behind d (refusal.Loop x) h = (Loop h.0, h.2, ap refusal.Loop h.1)
fault_behind d (refusal.ExtNotMaximal x) h = (ExtNotMaximal h.0, h.2, ap refusal.ExtNotMaximal h.1)
fault_behind d (refusal.FillTooLarge x) h = (FillTooLarge h.0, h.2, ap refusal.FillTooLarge h.1)
fault_behind d refusal.NoMemory h = absurd h

some_same : (f g : Fault) → Some f ≡ Some g → f ≡ g
some_same f g h = cc

err_same : (x y : SigError) → IsErrOf {T = Declared} (Err x) y → x ≡ y
err_same x y h = cc

none_some : (o : Option Fault) (f : Fault) → o ≡ None → o ≡ Some f → ⊥
none_some o f p q = absurd cc

-- the refusals come exactly where they are owed
pub exactly : (d : Declared) (r : Result Declared SigError) (e : SigError) → IsWellNumbered d → IfOk r (λ _. fault_of d ≡ None) → IfErr r (λ x. RefusesFor d (fault_of d) x) → RefusesWhere r e (IsRefusal d e)
exactly d (Ok s) e w none told = λ no. (
  λ is. absurd cc,
  λ h. let f = fault_behind d e h in absurd (none_some (fault_of d) f.0 none (finding d f.0 w f.1)),
)
exactly d (Err x) e w none told = λ no.
    let r = told (λ same. no (ap Err same)) in (
      λ is. subst (IsRefusal d) (sym r.2 ∙ err_same x e is) (refusal_of d r.0 (found d r.0 w r.1)),
      λ h.
          let b = fault_behind d e h in
          let same : b.0 ≡ r.0 = some_same b.0 r.0 (sym (finding d b.0 w b.1) ∙ r.1) in
          ap Err (r.2 ∙ sym (ap (named_fault d) same) ∙ sym b.2),
    )
