-- What the stages above the order and the joins find, as the faults of the parts: what each establishes leaves
-- its part without a fault, and where it refuses, its part has one.
use Rattle.std.proofs.Common.{◌≡◌, sym, ap, ◌∙◌, subst, refl, ℕ, zero, suc, ◌+◌, ◌<◌, ◌≤◌, add-one, false, Option, Some, None, List, length, get_or, inl, inr, eqb, arith}
use Rattle.std.specs.Prelude.{◌↔◌, ◌⊎◌, IsTrue, is_some}
use Rattle.std.specs.Option.{option_map}
use Rattle.std.proofs.lemmas.Bool.{eqb-true, eq-eqb}
use Rattle.std.proofs.lemmas.Bool.Decides.{same_from_decides}
use Rattle.ale_relation.specs.Paths.{Leads}
use Rattle.ale_relation.specs.Rows.{Rows, holds}
use Rattle.ale_declared.specs.Lists.{upto, first, every}
use Rattle.ale_declared.specs.Declarations.{Declared}
use Rattle.ale_declared.specs.Numbering.{IsWellNumbered}
use Rattle.ale_hierarchy.specs.Limits.{most_nodes}
use Rattle.ale_hierarchy.specs.Order.{Introduces, is_above, mentioning, intro, size}
use Rattle.ale_hierarchy.specs.Accepted.{restriction_edges}
use Rattle.ale_hierarchy.specs.Stages.{IsOrdered, HasRestriction, TellsSizes, KnowsTo}
use Rattle.ale_hierarchy.specs.Faults.{when, lacks_intro, clashes, loops, is_too_large, two_intros, intro_fault, clash_fault, loop_fault, ext_fault, fill_fault, filling_fault}
use Rattle.ale_hierarchy.specs.Refusals.{RefusesFor}
use Rattle.ale_hierarchy.specs.declared.fault.Fault.{Fault}
use Rattle.ale_hierarchy.specs.declared.fault.Fault.TheVariants.{Loop, FillTooLarge}
use Rattle.ale_hierarchy.specs.declared.error.SigError.{SigError}
use Rattle.ale_declared.proofs.ListLemmas.{upto_below}
use Rattle.ale_hierarchy.proofs.AppropLemmas.{HasRestrictions, approp_to}
use Rattle.ale_signature.proofs.SizeTableLemmas.{no_loop-from, KnowsTo-none}
use Rattle.ale_hierarchy.proofs.Acceptance.{size_test}
use Rattle.ale_hierarchy.proofs.WitnessLemmas.{not_found}
use Rattle.ale_hierarchy.proofs.AnswerLemmas.{when_found, or_after, test_first}
use Rattle.ale_hierarchy.proofs.FaultTests.{refuting, loop_decides, intro_decides, clash_decides, Clashes_inside, fill_decides, HasRestrictions-tested}
use Rattle.ale_hierarchy.proofs.HierarchyFaults.{refuses_first, refuses_after, answer_first, first_same}
use Rattle.ale_hierarchy.proofs.FaultLemmas.{intro_clear, clash_none, clash_clear, loop_clear, fill_none}

-- ---- loops, by rows that tell what leads to what

loop_holds : (d : Declared) (rows : Rows) (n t : ℕ) → IsWellNumbered d → ((a b : ℕ) → a < n → b < n → IsTrue (holds rows a b) ↔ Leads (restriction_edges d) a b) → t < n → loops d t ≡ holds rows t t
loop_holds d rows n t w leads low = same_from_decides (loops d t) (holds rows t t) (loop_decides d t w) ((leads t t low low).0, (leads t t low low).1)

pub loop_is : (d : Declared) (rows : Rows) (n : ℕ) → IsWellNumbered d → n ≡ length d.types → rows.size ≡ n → ((a b : ℕ) → a < n → b < n → IsTrue (holds rows a b) ↔ Leads (restriction_edges d) a b) → loop_fault d ≡ option_map Loop (first (λ t. holds rows t t) (upto rows.size))
unfolding loop_fault
loop_is d rows n w e size leads =
    answer_first (λ t. loops d t) Loop (upto (length d.types))
    ∙ ap (option_map Loop) (first_same (λ t. loops d t) (λ t. holds rows t t) (upto (length d.types)) (λ t h. loop_holds d rows n t w leads (subst (λ k. t < k) (sym e) (upto_below (length d.types) t h))))
    ∙ ap (λ k. option_map Loop (first (λ t. holds rows t t) (upto k))) (sym (size ∙ e))

-- ---- the types that introduce features

pub lacks_intro_at : (d : Declared) (f : ℕ) → first (λ t. every (λ u. is_above d t u) (mentioning d f)) (mentioning d f) ≡ None → when (lacks_intro d f) (two_intros d f) ≡ Some (two_intros d f)
lacks_intro_at d f none = rw none refl

pub intros_refuse : (d : Declared) (f : ℕ) (e : SigError) → IsOrdered d → f < length d.features → ((g : ℕ) → g < f → Introduces d g (intro d g)) → RefusesFor d (when (lacks_intro d f) (two_intros d f)) e → RefusesFor d (intro_fault d) e
unfolding intro_fault
intros_refuse d f e o below before h =
    λ no.
    let r = h no in
    let is = when_found (lacks_intro d f) (two_intros d f) r.0 r.1 in
    (r.0, test_first (lacks_intro d) (two_intros d) (length d.features) f below is.0 (λ g less. refuting (lacks_intro d g) (intro_decides d g o.numbered (omega arith)) (λ l. l.none (intro d g) (before g less))) ∙ ap Some is.1, r.2)

pub intros_clear : (d : Declared) → IsOrdered d → ((f : ℕ) → f < length d.features → Introduces d f (intro d f)) → intro_fault d ≡ None
intros_clear d o all = intro_clear d o.numbered (λ f l. l.none (intro d f) (all f l.inside))

-- ---- restrictions

pub HasRestrictions-found : (d : Declared) → IsOrdered d → clash_fault d ≡ None → HasRestrictions d
HasRestrictions-found d o h =
    HasRestrictions-tested d o.numbered (λ t f p q. refuting (clashes d t f) (clash_decides d t f o.numbered o.no_cycle) (clash_none d o.numbered o.no_cycle h t f))

pub restrictions_clear : (d : Declared) → IsOrdered d → ((f t : ℕ) → f < length d.features → t < length d.types → HasRestriction d f t) → clash_fault d ≡ None
restrictions_clear d o all =
    clash_clear d o.numbered o.no_cycle (λ t f c.
    let low = Clashes_inside d t f o.numbered c in
    let r = all f t low.1 low.0 c.mention c.applies in
    c.none r.0 (approp_to d f t r.0 o.numbered r.1))

-- ---- sizes

pub small_known : (d : Declared) (sizes : List ℕ) → TellsSizes d sizes → (t : ℕ) → t < length d.types → 0 < get_or sizes t 0 → size d t ≤ most_nodes
small_known d sizes tells t low known = let is = tells t low known in subst (λ n. n ≤ most_nodes) (sym is.0) is.1

pub large_unknown : (d : Declared) (sizes : List ℕ) (k : ℕ) → most_nodes ≤ k → KnowsTo d k sizes → (t : ℕ) → t < length d.types → get_or sizes t 0 ≡ 0 → most_nodes < size d t
large_unknown d sizes k most knows t low unknown =
    elim (more_or_less (size d t)) [
      | inl large ↦ large
      | inr small ↦ let known : 0 < get_or sizes t 0 = knows t low (omega arith) small in absurd (omega arith)
    ]
  where
    more_or_less : (n : ℕ) → (most_nodes < n) ⊎ (n ≤ most_nodes)
    more_or_less n = grind arith

unknown_large : (d : Declared) (sizes : List ℕ) (t : ℕ) → t < length d.types → (0 < get_or sizes t 0 → size d t ≤ most_nodes) → (get_or sizes t 0 ≡ 0 → most_nodes < size d t) → is_too_large d t ≡ eqb (get_or sizes t 0) 0
unknown_large d sizes t low small large =
    same_from_decides (is_too_large d t) (eqb (get_or sizes t 0) 0) (fill_decides d t low) (
      (λ e. record { inside = low; large = large (eqb-true (get_or sizes t 0) 0 e) }),
      λ l. eq-eqb (get_or sizes t 0) 0 (zero_of (get_or sizes t 0) (size d t) small l.large),
    )
  where
    zero_of : (s n : ℕ) → (0 < s → n ≤ most_nodes) → most_nodes < n → s ≡ 0
    zero_of zero n small large = refl
    zero_of (suc s) n small large = let less : n ≤ most_nodes = small (omega arith) in absurd (omega arith)

pub fill_is : (d : Declared) (sizes : List ℕ) → length sizes ≡ length d.types → ((t : ℕ) → t < length d.types → 0 < get_or sizes t 0 → size d t ≤ most_nodes) → ((t : ℕ) → t < length d.types → get_or sizes t 0 ≡ 0 → most_nodes < size d t) → fill_fault d ≡ option_map FillTooLarge (first (λ t. eqb (get_or sizes t 0) 0) (upto (length sizes)))
unfolding fill_fault
fill_is d sizes long small large =
    answer_first (is_too_large d) FillTooLarge (upto (length d.types))
    ∙ ap (option_map FillTooLarge) (first_same (is_too_large d) (λ t. eqb (get_or sizes t 0) 0) (upto (length d.types)) (λ t h. let low = upto_below (length d.types) t h in unknown_large d sizes t low (small t low) (large t low)))
    ∙ ap (λ n. option_map FillTooLarge (first (λ t. eqb (get_or sizes t 0) 0) (upto n))) (sym long)

-- where all fills are small, no restrictions lead back
pub no_loop_small : (d : Declared) → IsWellNumbered d → fill_fault d ≡ None → loop_fault d ≡ None
no_loop_small d w none = loop_clear d w (no_loop-from d w (λ t low. size_test d t (refuting (is_too_large d t) (fill_decides d t low) (fill_none d none t))))

-- where a round changes nothing, all sizes within the limit are known
pub knows_all : (d : Declared) (old new : List ℕ) → new ≡ old → ((k : ℕ) → KnowsTo d k old → KnowsTo d (k + 1) new) → (k : ℕ) → KnowsTo d k new
knows_all d old new same more zero = KnowsTo-none d new
knows_all d old new same more (suc k) = rw add-one at (more k (subst (λ (xs : List ℕ). KnowsTo d k xs) same (knows_all d old new same more k)))

pub large_settled : (d : Declared) (sizes : List ℕ) → ((k : ℕ) → KnowsTo d k sizes) → (t : ℕ) → t < length d.types → get_or sizes t 0 ≡ 0 → most_nodes < size d t
large_settled d sizes knows t low unknown =
    elim (more_or_less (size d t)) [
      | inl large ↦ large
      | inr small ↦ let known : 0 < get_or sizes t 0 = knows (size d t) t low (omega arith) small in absurd (omega arith)
    ]
  where
    more_or_less : (n : ℕ) → (most_nodes < n) ⊎ (n ≤ most_nodes)
    more_or_less n = grind arith

-- where no fill is too large, no restrictions lead back
pub no_loop_without : (d : Declared) (large : Option Fault) → IsOrdered d → large ≡ fill_fault d → is_some large ≡ false → loop_fault d ≡ None
no_loop_without d large o is none = no_loop_small d o.numbered (not_found large (fill_fault d) is none)

-- ---- loops, extensional types and sizes together

pub filling_loop : (d : Declared) (e : SigError) → RefusesFor d (loop_fault d) e → RefusesFor d (filling_fault d) e
unfolding filling_fault
filling_loop d e h = refuses_first d (loop_fault d) _ e h

pub filling_ext : (d : Declared) (e : SigError) → loop_fault d ≡ None → RefusesFor d (ext_fault d) e → RefusesFor d (filling_fault d) e
unfolding filling_fault
filling_ext d e l h = refuses_after d (loop_fault d) _ e l (refuses_first d (ext_fault d) (fill_fault d) e h)

pub filling_fill : (d : Declared) (e : SigError) → loop_fault d ≡ None → ext_fault d ≡ None → RefusesFor d (fill_fault d) e → RefusesFor d (filling_fault d) e
unfolding filling_fault
filling_fill d e l x h = refuses_after d (loop_fault d) _ e l (refuses_after d (ext_fault d) (fill_fault d) e x h)

pub filling_clear : (d : Declared) → loop_fault d ≡ None → ext_fault d ≡ None → fill_fault d ≡ None → filling_fault d ≡ None
unfolding filling_fault
filling_clear d l x f = or_after (loop_fault d) _ l ∙ or_after (ext_fault d) (fill_fault d) x ∙ f
