-- Which fault a declared signature has, as a function: the tests of each part, tried on the types and features
-- in the order of their numbers. A signature is accepted where none of them finds anything.
-- Source: Carpenter 1992, chapters 2 and 6; the order of the tests and the limits are this project's own.
use Rattle.std.specs.Prelude.{ℕ, ◌==◌, nat_le, nat_lt, Bool, true, false, ◌&&◌, ◌||◌, not, Option, Some, None, is_none, List, [], ◌∷◌, length, filter, slice_index_or, if◌then◌else◌}
use Rattle.std.specs.Option.{option_or}
use Rattle.ale_declared.specs.Declarations.{Declared}
use Rattle.ale_declared.specs.Lists.{first, every, is_among}
use Rattle.ale_hierarchy.specs.Limits.{most_types, most_features, most_nodes}
use Rattle.ale_hierarchy.specs.Order.{leads_through, is_above, all_types, all_features, is_common, join, restrictions, approp, mentioning, is_ext, size}
use Rattle.ale_hierarchy.specs.Accepted.{restriction_edges}
use Rattle.ale_hierarchy.specs.declared.fault.Fault.{Fault}
use Rattle.ale_hierarchy.specs.declared.fault.Fault.TheVariants.{TooManyTypes, TooManyFeatures, SubCycle, NoJoin, TwoIntros, ValueClash, Loop, ExtNotMaximal, FillTooLarge}

-- some element passes a test
abbrev pub some : {A : Type 0} → (A → Bool) → List A → Bool
some test [] = false
some test (x ∷ xs) = test x || some test xs

abbrev pub has_any : {A : Type 0} → List A → Bool
has_any [] = false
has_any (x ∷ xs) = true

-- edges lead from the type back to it
abbrev pub is_cyclic : Declared → ℕ → Bool
is_cyclic d t = leads_through d.edges (length d.types) t t

-- the types have common subtypes, and no least one
abbrev pub lacks_join : Declared → ℕ → ℕ → Bool
lacks_join d a b = some (is_common d (a ∷ b ∷ [])) (all_types d) && is_none (join d a b)

-- no type that mentions the feature is above all others that do
abbrev pub lacks_intro : Declared → ℕ → Bool
lacks_intro d f = is_none (first (λ t. every (λ u. is_above d t u) (mentioning d f)) (mentioning d f))

-- restrictions on the feature apply at the type, and have no join
abbrev pub clashes : Declared → ℕ → ℕ → Bool
clashes d t f = has_any (restrictions d f t) && is_none (approp d f t)

-- restrictions lead from the type back to it
abbrev pub loops : Declared → ℕ → Bool
loops d t = leads_through (restriction_edges d) (length d.types) t t

-- the type is extensional, and another is below it
abbrev pub is_not_maximal : Declared → ℕ → Bool
is_not_maximal d t = is_ext d t && some (λ u. not (t == u) && is_above d t u) (all_types d)

abbrev pub is_too_large : Declared → ℕ → Bool
is_too_large d t = nat_lt most_nodes (size d t)

unfoldable pub accepts : Declared → Bool
accepts d =
    nat_le (length d.types) most_types
    && (nat_le (length d.features) most_features
    && (every (λ t. not (is_cyclic d t)) (all_types d)
    && (every (λ a. every (λ b. not (lacks_join d a b)) (all_types d)) (all_types d)
    && (every (λ f. not (lacks_intro d f)) (all_features d)
    && (every (λ t. every (λ f. not (clashes d t f)) (all_features d)) (all_types d)
    && (every (λ t. not (loops d t)) (all_types d)
    && (every (λ t. not (is_not_maximal d t)) (all_types d)
    && every (λ t. not (is_too_large d t)) (all_types d))))))))

-- ---- the fault that is found first

abbrev pub when : {A : Type 0} → Bool → A → Option A
when test x = if test then Some x else None

-- the first answer that the elements of a list give
abbrev pub first_answer : {A B : Type 0} → (A → Option B) → List A → Option B
first_answer f [] = None
first_answer f (x ∷ xs) = option_or (f x) (first_answer f xs)

-- none of the types but t itself is above t
unfoldable pub no_higher : Declared → List ℕ → ℕ → Bool
no_higher d ts t = every (λ u. u == t || not (is_above d u t)) ts

-- those of the types that no other of them is above
abbrev pub tops : Declared → List ℕ → List ℕ
tops d ts = filter (no_higher d ts) ts

-- the common subtypes of two types
abbrev pub common_subtypes : Declared → ℕ → ℕ → List ℕ
common_subtypes d a b = filter (is_common d (a ∷ b ∷ [])) (all_types d)

-- the types that mention the feature, in the order of their numbers
abbrev pub mentioners : Declared → ℕ → List ℕ
mentioners d f = filter (λ t. is_among t (mentioning d f)) (all_types d)

unfoldable pub limit_fault : Declared → Option Fault
limit_fault d = option_or (when (nat_lt most_types (length d.types)) TooManyTypes) (when (nat_lt most_features (length d.features)) TooManyFeatures)

unfoldable pub cycle_fault : Declared → Option Fault
cycle_fault d = first_answer (λ t. when (is_cyclic d t) (SubCycle t)) (all_types d)

-- the two types, and the first two of their most general common subtypes
abbrev pub no_join : Declared → ℕ → ℕ → Fault
no_join d a b = NoJoin a b (slice_index_or (tops d (common_subtypes d a b)) 0 0) (slice_index_or (tops d (common_subtypes d a b)) 1 0)

unfoldable pub join_fault : Declared → Option Fault
join_fault d = first_answer (λ a. first_answer (λ b. when (lacks_join d a b) (no_join d a b)) (all_types d)) (all_types d)

-- the feature, and the first two of the most general types that mention it
abbrev pub two_intros : Declared → ℕ → Fault
two_intros d f = TwoIntros f (slice_index_or (tops d (mentioners d f)) 0 0) (slice_index_or (tops d (mentioners d f)) 1 0)

unfoldable pub intro_fault : Declared → Option Fault
intro_fault d = first_answer (λ f. when (lacks_intro d f) (two_intros d f)) (all_features d)

unfoldable pub clash_fault : Declared → Option Fault
clash_fault d = first_answer (λ t. first_answer (λ f. when (clashes d t f) (ValueClash t f)) (all_features d)) (all_types d)

unfoldable pub loop_fault : Declared → Option Fault
loop_fault d = first_answer (λ t. when (loops d t) (Loop t)) (all_types d)

unfoldable pub ext_fault : Declared → Option Fault
ext_fault d = first_answer (λ t. when (is_not_maximal d t) (ExtNotMaximal t)) (all_types d)

unfoldable pub fill_fault : Declared → Option Fault
fill_fault d = first_answer (λ t. when (is_too_large d t) (FillTooLarge t)) (all_types d)

-- what is wrong with filling types in: it has no end, it could identify nodes that stay different, or is too large
unfoldable pub filling_fault : Declared → Option Fault
filling_fault d = option_or (loop_fault d) (option_or (ext_fault d) (fill_fault d))

-- the fault of the first part that has one
unfoldable pub fault_of : Declared → Option Fault
fault_of d =
    option_or (limit_fault d)
    (option_or (cycle_fault d)
    (option_or (join_fault d)
    (option_or (intro_fault d)
    (option_or (clash_fault d) (filling_fault d)))))
