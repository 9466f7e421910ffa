-- What the order, the joins and the extensional types are found to be, as the faults of their parts: what each
-- establishes leaves its part without a fault, and where it refuses, its part has one.
use Rattle.std.proofs.Common.{◌≡◌, sym, ap, ◌∙◌, refl, ℕ, zero, suc, ◌<◌, ◌≤◌, Bool, true, false, Option, Some, None, List, [], ◌∷◌, length, get_or, inl, inr, eqb, arith}
use Rattle.std.specs.Prelude.{not, ◌&&◌}
use Rattle.std.specs.Option.{option_map, option_or}
use Rattle.std.proofs.lemmas.Bool.{cases_Bool, and_from, false≢true, true≢false}
use Rattle.std.proofs.lemmas.Bool.Decides.{same_from_decides}
use Rattle.ale_relation.specs.Rows.{Rows, holds}
use Rattle.ale_declared.specs.Lists.{Has, upto, first, is_among}
use Rattle.ale_declared.specs.Declarations.{Declared}
use Rattle.ale_declared.specs.Numbering.{IsWellNumbered}
use Rattle.ale_hierarchy.specs.Order.{is_above, all_types}
use Rattle.ale_hierarchy.specs.Stages.{IsOrdered, TellsLeads, HasLeast}
use Rattle.ale_hierarchy.specs.Faults.{when, first_answer, some, is_cyclic, is_not_maximal, cycle_fault, join_fault, ext_fault}
use Rattle.ale_hierarchy.specs.Refusals.{RefusesFor}
use Rattle.ale_hierarchy.specs.declared.fault.Fault.{Fault}
use Rattle.ale_hierarchy.specs.declared.fault.Fault.TheVariants.{SubCycle, ExtNotMaximal}
use Rattle.ale_hierarchy.specs.declared.error.SigError.{SigError}
use Rattle.ale_declared.proofs.ListLemmas.{upto_below}
use Rattle.ale_hierarchy.proofs.OrderLemmas.{IsAbove_from_inside}
use Rattle.ale_hierarchy.proofs.JoinLemmas.{HasJoins, join_to}
use Rattle.ale_hierarchy.proofs.AnswerLemmas.{or_after, or_first, test_first, test_clear}
use Rattle.ale_hierarchy.proofs.FaultTests.{cycle_decides, HasJoins-lacking}
use Rattle.ale_hierarchy.proofs.FaultLemmas.{join_none_lacks, join_clear}

-- ---- refusals

pub refuses_as : (d : Declared) (o p : Option Fault) (e : SigError) → o ≡ p → RefusesFor d o e → RefusesFor d p e
refuses_as d o p e same h = λ no. let r = h no in (r.0, sym same ∙ r.1, r.2)

-- the first of two answers refuses, and the second after nothing
pub refuses_first : (d : Declared) (o p : Option Fault) (e : SigError) → RefusesFor d o e → RefusesFor d (option_or o p) e
refuses_first d o p e h = λ no. let r = h no in (r.0, or_first o p r.0 r.1, r.2)

pub refuses_after : (d : Declared) (o p : Option Fault) (e : SigError) → o ≡ None → RefusesFor d p e → RefusesFor d (option_or o p) e
refuses_after d o p e nothing h = λ no. let r = h no in (r.0, or_after o p nothing ∙ r.1, r.2)

-- ---- the first that passes

pub answer_first : {B : Type 0} (test : ℕ → Bool) (make : ℕ → B) (xs : List ℕ) → first_answer (λ t. when (test t) (make t)) xs ≡ option_map make (first test xs)
answer_first test make [] = refl
answer_first test make (x ∷ xs) =
    elim (cases_Bool (test x)) [
      | inl e ↦ rw e refl
      | inr e ↦ rw e (answer_first test make xs)
    ]

pub first_same : (p q : ℕ → Bool) (xs : List ℕ) → ((x : ℕ) → Has xs x → p x ≡ q x) → first p xs ≡ first q xs
first_same p q [] same = refl
first_same p q (x ∷ xs) same =
    elim (cases_Bool (q x)) [
      | inl e ↦ rw (same x (inl refl), e) refl
      | inr e ↦ rw (same x (inl refl), e) (first_same p q xs (λ y h. same y (inr h)))
    ]

-- ---- cycles, by rows that tell what leads to what

cyclic_holds : (d : Declared) (rows : Rows) (t : ℕ) → IsWellNumbered d → TellsLeads d rows → t < length d.types → is_cyclic d t ≡ holds rows t t
cyclic_holds d rows t w tells low = same_from_decides (is_cyclic d t) (holds rows t t) (cycle_decides d t w) ((tells.leads t t low low).0, (tells.leads t t low low).1)

pub cycle_is : (d : Declared) (rows : Rows) → IsWellNumbered d → TellsLeads d rows → cycle_fault d ≡ option_map SubCycle (first (λ t. holds rows t t) (upto rows.size))
unfolding cycle_fault
cycle_is d rows w tells =
    answer_first (λ t. is_cyclic d t) SubCycle (upto (length d.types))
    ∙ ap (option_map SubCycle) (first_same (λ t. is_cyclic d t) (λ t. holds rows t t) (upto (length d.types)) (λ t h. cyclic_holds d rows t w tells (upto_below (length d.types) t h)))
    ∙ ap (λ n. option_map SubCycle (first (λ t. holds rows t t) (upto n))) (sym tells.size)

-- ---- joins

pub HasJoins-found : (d : Declared) → IsOrdered d → join_fault d ≡ None → HasJoins d
HasJoins-found d o h = HasJoins-lacking d o.numbered o.no_cycle (join_none_lacks d o.numbered o.no_cycle h)

pub joins_clear : (d : Declared) → IsOrdered d → ((a b : ℕ) → a < length d.types → b < length d.types → HasLeast d a b) → join_fault d ≡ None
joins_clear d o least =
    join_clear d o.numbered o.no_cycle (λ a b l.
    let j = least a b (IsAbove_from_inside d a l.common o.numbered l.left l.inside) (IsAbove_from_inside d b l.common o.numbered l.right l.inside) l.common l.inside l.left l.right in
    l.none j.0 (join_to d a b j.0 o.numbered j.1).1)

-- ---- extensional types

pub ext_found : (d : Declared) (t : ℕ) → t < length d.types → is_not_maximal d t ≡ true → ((i : ℕ) → i < t → is_not_maximal d i ≡ false) → Some (ExtNotMaximal t) ≡ ext_fault d
unfolding ext_fault
ext_found d t low is none = sym (test_first (is_not_maximal d) ExtNotMaximal (length d.types) t low is none)

pub ext_nowhere : (d : Declared) → ((t : ℕ) → t < length d.types → is_not_maximal d t ≡ false) → None ≡ ext_fault d
unfolding ext_fault
ext_nowhere d none = sym (test_clear (is_not_maximal d) ExtNotMaximal (length d.types) none)

-- a type that is listed, and not the last
pub not_maximal_tested : (d : Declared) (t : ℕ) (last : Bool) → is_among t d.ext ≡ true → last ≡ not (some (λ u. not (eqb t u) && is_above d t u) (all_types d)) → last ≡ false → is_not_maximal d t ≡ true
not_maximal_tested d t last listed is not_last = and_from (is_among t d.ext) (some (λ u. not (eqb t u) && is_above d t u) (all_types d)) listed (twice last (some (λ u. not (eqb t u) && is_above d t u) (all_types d)) is not_last)
  where
    twice : (last s : Bool) → last ≡ not s → last ≡ false → s ≡ true
    twice last true is h = refl
    twice true false is h = absurd (true≢false h)
    twice false false is h = absurd (false≢true is)

-- beyond the end there is the default
pub get_or-beyond : {A : Type 0} (xs : List A) (k : ℕ) (z : A) → length xs ≤ k → get_or xs k z ≡ z
get_or-beyond [] k z beyond = refl
get_or-beyond (x ∷ xs) zero z beyond = absurd (omega arith)
get_or-beyond (x ∷ xs) (suc k) z beyond = get_or-beyond xs k z (omega arith)
