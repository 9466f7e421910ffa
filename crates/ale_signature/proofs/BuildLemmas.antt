-- What the stages find together is what `fault_of` finds.
use Rattle.std.proofs.Common.{◌≡◌, ◌∙◌, Option, Some, None}
use Rattle.std.specs.Prelude.{Result, Ok, Err, IfOk, IfErr, true, false, ◌≢◌}
use Rattle.std.specs.Option.{option_or}
use Rattle.std.proofs.lemmas.Bool.{false_from_ne_true}
use Rattle.ale_declared.specs.Declarations.{Declared}
use Rattle.ale_declared.specs.Numbering.{IsWellNumbered}
use Rattle.ale_hierarchy.specs.Accepted.{IsAccepted}
use Rattle.ale_hierarchy.specs.Order.{hierarchy}
use Rattle.ale_hierarchy.specs.Hierarchy.{IsLawful}
use Rattle.ale_hierarchy.specs.Stages.{IsOrdered}
use Rattle.ale_hierarchy.specs.Faults.{accepts, limit_fault, cycle_fault, join_fault, intro_fault, clash_fault, filling_fault, fault_of}
use Rattle.ale_hierarchy.specs.Refusals.{RefusesFor}
use Rattle.ale_hierarchy.specs.declared.fault.Fault.{Fault}
use Rattle.ale_hierarchy.specs.declared.error.SigError.{SigError}
use Rattle.ale_hierarchy.specs.declared.error.SigError.TheVariants.{NoMemory}
use Rattle.ale_hierarchy.proofs.AnswerLemmas.{or_assoc, or_after, or_first}
use Rattle.ale_hierarchy.proofs.Acceptance.{accepts_to, accepts_from}
use Rattle.ale_hierarchy.proofs.FaultLemmas.{limit_clear, cycle_clear}
use Rattle.ale_signature.proofs.FaultOf.{accepted_where, finds_fault}
use Rattle.ale_signature.proofs.LawLemmas.{lawful}

-- an ordered signature is within the limits and has no cycle
ordered_clear : (d : Declared) (o : Option Fault) → IsOrdered d → option_or (limit_fault d) (option_or (cycle_fault d) o) ≡ o
ordered_clear d o h =
    or_after (limit_fault d) (option_or (cycle_fault d) o) (limit_clear d (record { few_types = h.few_types; few_features = h.few_features }))
    ∙ or_after (cycle_fault d) o (cycle_clear d h.numbered h.no_cycle)

after_joins : (d : Declared) → IsOrdered d → join_fault d ≡ None → fault_of d ≡ option_or (intro_fault d) (option_or (clash_fault d) (filling_fault d))
unfolding fault_of
after_joins d o j = ordered_clear d _ o ∙ or_after (join_fault d) _ j

after_intros : (d : Declared) → IsOrdered d → join_fault d ≡ None → intro_fault d ≡ None → fault_of d ≡ option_or (clash_fault d) (filling_fault d)
after_intros d o j i = after_joins d o j ∙ or_after (intro_fault d) (option_or (clash_fault d) (filling_fault d)) i

after_clashes : (d : Declared) → IsOrdered d → join_fault d ≡ None → intro_fault d ≡ None → clash_fault d ≡ None → fault_of d ≡ filling_fault d
after_clashes d o j i c = after_intros d o j i ∙ or_after (clash_fault d) (filling_fault d) c

pub at_order : (d : Declared) (e : SigError) → RefusesFor d (option_or (limit_fault d) (cycle_fault d)) e → RefusesFor d (fault_of d) e
unfolding fault_of
at_order d e h =
    λ no.
    let r = h no in
    (r.0, or_assoc (limit_fault d) (cycle_fault d) _ ∙ or_first (option_or (limit_fault d) (cycle_fault d)) _ r.0 r.1, r.2)

pub at_joins : (d : Declared) (e : SigError) → IsOrdered d → RefusesFor d (join_fault d) e → RefusesFor d (fault_of d) e
unfolding fault_of
at_joins d e o h = λ no. let r = h no in (r.0, ordered_clear d _ o ∙ or_first (join_fault d) _ r.0 r.1, r.2)

pub at_intros : (d : Declared) (e : SigError) → IsOrdered d → join_fault d ≡ None → RefusesFor d (intro_fault d) e → RefusesFor d (fault_of d) e
at_intros d e o j h =
    λ no. let r = h no in (r.0, after_joins d o j ∙ or_first (intro_fault d) (option_or (clash_fault d) (filling_fault d)) r.0 r.1, r.2)

pub at_clashes : (d : Declared) (e : SigError) → IsOrdered d → join_fault d ≡ None → intro_fault d ≡ None → RefusesFor d (clash_fault d) e → RefusesFor d (fault_of d) e
at_clashes d e o j i h =
    λ no. let r = h no in (r.0, after_intros d o j i ∙ or_first (clash_fault d) (filling_fault d) r.0 r.1, r.2)

pub at_fills : (d : Declared) (e : SigError) → IsOrdered d → join_fault d ≡ None → intro_fault d ≡ None → clash_fault d ≡ None → RefusesFor d (filling_fault d) e → RefusesFor d (fault_of d) e
at_fills d e o j i c h = λ no. let r = h no in (r.0, after_clashes d o j i c ∙ r.1, r.2)

pub none_at_all : (d : Declared) → IsOrdered d → join_fault d ≡ None → intro_fault d ≡ None → clash_fault d ≡ None → filling_fault d ≡ None → fault_of d ≡ None
none_at_all d o j i c f = after_clashes d o j i c ∙ f

-- ---- of the whole result

pub accepted_result : {E : Type 0} (d : Declared) (r : Result Declared E) → IsWellNumbered d → IfOk r (λ _. fault_of d ≡ None) → IfOk r (λ _. IsAccepted d)
accepted_result d (Ok s) w h = accepted_where d w h
accepted_result d (Err x) w h = tt

pub accepts_result : {E : Type 0} (d : Declared) (r : Result Declared E) → IsWellNumbered d → IfOk r (λ _. fault_of d ≡ None) → IfOk r (λ _. accepts d ≡ true)
accepts_result d (Ok s) w h = accepts_from d w (accepted_where d w h)
accepts_result d (Err x) w h = tt

pub lawful_result : {E : Type 0} (d : Declared) (r : Result Declared E) → IsWellNumbered d → IfOk r (λ s. s ≡ d) → IfOk r (λ _. fault_of d ≡ None) → IfOk r (λ s. IsLawful (hierarchy s))
lawful_result d (Ok s) w is h = rw is (lawful d w (accepted_where d w h))
lawful_result d (Err x) w is h = tt

-- where there is a fault, the tests don't accept
refused : (d : Declared) (f : Fault) → IsWellNumbered d → fault_of d ≡ Some f → accepts d ≡ false
refused d f w found = false_from_ne_true (accepts d) (λ h. none_some (fault_of d) f ((finds_fault d w).none.1 (accepts_to d w h)) found)
  where
    none_some : (o : Option Fault) (f : Fault) → o ≡ None → o ≡ Some f → ⊥
    none_some o f p q = absurd cc

pub refuses_where : (d : Declared) (e : SigError) → IsWellNumbered d → RefusesFor d (fault_of d) e → e ≢ NoMemory → accepts d ≡ false
refuses_where d e w h memory = let r = h memory in refused d r.0 w r.1

pub refuses_result : (d : Declared) (r : Result Declared SigError) → IsWellNumbered d → IfErr r (λ e. RefusesFor d (fault_of d) e) → IfErr r (λ e. e ≢ NoMemory → accepts d ≡ false)
refuses_result d (Ok s) w h = tt
refuses_result d (Err x) w h = refuses_where d x w h
