-- What the search for the first restrictions without a join rests on.
use Rattle.std.proofs.Common.{◌≡◌, sym, ap, ◌∙◌, refl, ℕ, false, Option, Some, List, [], ◌∷◌, inl}
use Rattle.std.specs.Prelude.{◌&&◌, is_none}
use Rattle.ale_declared.specs.Lists.{Has}
use Rattle.ale_declared.specs.Declarations.{Declared}
use Rattle.ale_hierarchy.specs.Order.{all_types, all_features, restrictions, join_of_some}
use Rattle.ale_hierarchy.specs.Stages.{mentions_of, restricted}
use Rattle.ale_hierarchy.specs.Faults.{when, first_answer, has_any, clashes, clash_fault}
use Rattle.ale_hierarchy.specs.declared.fault.Fault.TheVariants.{ValueClash}
use Rattle.ale_signature.proofs.RestrictionLemmas.{restrictions_is, approp_is}

pub clash_fault_is : (d : Declared) → clash_fault d ≡ first_answer (λ t. first_answer (λ f. when (clashes d t f) (ValueClash t f)) (all_features d)) (all_types d)
unfolding clash_fault
clash_fault_is d = refl

pub clash_tested : (d : Declared) (t f : ℕ) → (has_any (restricted d t (mentions_of d.mentions f)) && is_none (join_of_some d (restricted d t (mentions_of d.mentions f)))) ≡ clashes d t f
clash_tested d t f =
    ap (λ (rs : List ℕ). has_any rs && is_none (join_of_some d (restricted d t (mentions_of d.mentions f)))) (sym (restrictions_is d f t))
    ∙ ap (λ (o : Option ℕ). has_any (restrictions d f t) && is_none o) (sym (approp_is d f t))

-- where all restrictions have a join, there is no clash
pub no_clash_found : (xs : List ℕ) (o j : Option ℕ) → o ≡ j → ((s : ℕ) → Has xs s → (k : ℕ) × (o ≡ Some k)) → false ≡ (has_any xs && is_none j)
no_clash_found [] o j same there = refl
no_clash_found (x ∷ xs) o j same there = let k = there x (inl refl) in rw (sym same ∙ k.1) refl
