-- Descriptions and goals have one meaning or one refusal, which fits.
use Rattle.std.proofs.Common.{◌≡◌, ◌↔◌, ℕ, ◌+◌, List, [], ◌∷◌, Option, Some, None, Result, Ok, Err, length, refl, sym, ap, ◌∙◌, subst}
use Rattle.std.specs.Prelude.{MatchResult}
use Rattle.std.proofs.lemmas.List.{length-map}
use Rattle.ale_declared.specs.Declarations.{Declared}
use Rattle.ale_hierarchy.specs.Order.{hierarchy}
use Rattle.ale_term.specs.Terms.{TermData}
use Rattle.ale_logic.specs.Descriptions.{FitsDescription}
use Rattle.ale_logic.specs.Goals.{FitsGoal}
use Rattle.ale_vocabulary.specs.First.{AllRight, first_of}
use Rattle.ale_vocabulary.specs.Knowing.{IsUnknown, unknown_in}
use Rattle.ale_vocabulary.specs.Laws.{FirstIsFound}
use Rattle.ale_vocabulary.specs.Mentions.{Mention, mentions, mentions_of_goal}
use Rattle.ale_vocabulary.specs.declared.error.NameError.{NameError}
use Rattle.ale_describe.specs.Describing.{described, goal_described}
use Rattle.ale_describe.specs.Limits.{descriptions_in, parts_of_all, sum_after}
use Rattle.ale_describe.specs.MeaningLaws.{MeaningLaw, DescMeaningFits, GoalMeaningFits}
use Rattle.ale_describe.specs.Meanings.{Meaning, meaning, HasMeaning, is_meant, is_unknown, is_too_big, IsToldRefusal, MeaningGives, if_within, if_known, meaning_after}
use Rattle.ale_describe.specs.Names.{NamesData}
use Rattle.ale_describe.specs.Scopes.{ScopeData, new_scope, name_of_slot, slot_names}
use Rattle.ale_describe.specs.declared.meaning_error.MeaningError.{MeaningError}
use Rattle.ale_describe.specs.declared.meaning_error.MeaningError.TheVariants.{Name, NoMemory}
use Rattle.ale_describe.proofs.Fitting.{describe_law}
use Rattle.ale_describe.proofs.Knowing.{known_term, known_goal}
use Rattle.ale_describe.proofs.Limiting.{limits_law}

module _ {A : Type 0} (firsts : FirstIsFound) (d : Declared) (names : NamesData) (so_far : ℕ) (ms : List Mention) (ts : List TermData) (x : A × ScopeData) where
  given : (r : Result (Meaning A) NameError) → HasMeaning d names so_far ms ts x r → meaning_after d names so_far ms ts x ≡ r
  given r (is_meant right within) =
      ap (if_known x (sum_after d names (Some so_far) ts)) ((firsts d names.vocabulary ms).none.1 right)
      ∙ ap (if_within x) ((limits_law d names so_far ts).given within)
  given r (is_unknown e first) = ap (if_known x (sum_after d names (Some so_far) ts)) (((firsts d names.vocabulary ms).first e).1 first)
  given r (is_too_big right not_within) =
      ap (if_known x (sum_after d names (Some so_far) ts)) ((firsts d names.vocabulary ms).none.1 right)
      ∙ ap (if_within x) ((limits_law d names so_far ts).none.1 not_within)

  within_made : (o : Option ℕ) → sum_after d names (Some so_far) ts ≡ o → AllRight (IsUnknown d names.vocabulary) ms → HasMeaning d names so_far ms ts x (if_within x o)
  within_made (Some n) e right =
      let found = (limits_law d names so_far ts).found n e in
      subst (λ k. HasMeaning d names so_far ms ts x (Ok (meaning x k))) (sym found.1) (is_meant right found.0)
  within_made None e right = is_too_big right ((limits_law d names so_far ts).none.0 e)

  known_made : (o : Option NameError) → first_of (unknown_in d names.vocabulary) ms ≡ o → HasMeaning d names so_far ms ts x (if_known x (sum_after d names (Some so_far) ts) o)
  known_made (Some e) is = is_unknown e (((firsts d names.vocabulary ms).first e).0 is)
  known_made None is = within_made (sum_after d names (Some so_far) ts) refl ((firsts d names.vocabulary ms).none.0 is)

  made : HasMeaning d names so_far ms ts x (meaning_after d names so_far ms ts x)
  made = known_made (first_of (unknown_in d names.vocabulary) ms) refl

  has_one : (r : Result (Meaning A) NameError) → HasMeaning d names so_far ms ts x r ↔ meaning_after d names so_far ms ts x ≡ r
  has_one r = (given r, λ e. subst (HasMeaning d names so_far ms ts x) e made)

-- what is meant is the description or goal, with its scope, and all its names are known
pub record IsOf {A : Type 0} (d : Declared) (names : NamesData) (ms : List Mention) (x : A × ScopeData) (m : Meaning A) : Type 0 where
  pub right : AllRight (IsUnknown d names.vocabulary) ms
  pub meant : m.of ≡ x.0
  pub named : m.names ≡ slot_names x.1

pub meant_of : {A : Type 0} (d : Declared) (names : NamesData) (so_far : ℕ) (ms : List Mention) (ts : List TermData) (x : A × ScopeData) (r : Result (Meaning A) NameError) (m : Meaning A) →
    HasMeaning d names so_far ms ts x r → r ≡ Ok m → IsOf d names ms x m
meant_of {A} d names so_far ms ts x r m (is_meant right within) e =
    let same : meaning x (so_far + parts_of_all d names ts) ≡ m = cc in
    record { right = right; meant = sym (ap (λ (z : Meaning A). z.of) same); named = sym (ap (λ (z : Meaning A). z.names) same) }
meant_of d names so_far ms ts x r m (is_unknown y first) e = absurd cc
meant_of d names so_far ms ts x r m (is_too_big right not_within) e = absurd cc

-- there is a name for each slot
names_count : (ks : List (List ℕ)) (scope : ScopeData) → ks ≡ slot_names scope → length scope.slots ≡ length ks
names_count ks scope e = sym (ap length e ∙ length-map scope.slots (name_of_slot scope.written))

desc_meaning_fits : DescMeaningFits
desc_meaning_fits d names so_far t m fits is =
    let x = described d names new_scope t in
    let of = meant_of d names so_far (mentions t) (t ∷ []) x (Ok m) m is refl in
    let fit = (describe_law.descriptions d names new_scope t fits (known_term d names.vocabulary t of.right)).fits in
    subst (λ n. FitsDescription (hierarchy d) n m.of) (names_count m.names x.1 of.named)
    (subst (FitsDescription (hierarchy d) (length x.1.slots)) (sym of.meant) fit)

goal_meaning_fits : GoalMeaningFits
goal_meaning_fits d names so_far g m fits is =
    let x = goal_described d names new_scope g in
    let of = meant_of d names so_far (mentions_of_goal g) (descriptions_in g) x (Ok m) m is refl in
    let fit = (describe_law.goals d names new_scope g fits (known_goal d names.vocabulary g of.right)).fits in
    subst (λ n. FitsGoal (hierarchy d) n m.of) (names_count m.names x.1 of.named)
    (subst (FitsGoal (hierarchy d) (length x.1.slots)) (sym of.meant) fit)

pub meaning_law : FirstIsFound → MeaningLaw
meaning_law firsts = record {
  desc = λ d names so_far t r. has_one firsts d names so_far (mentions t) (t ∷ []) (described d names new_scope t) r;
  goal = λ d names so_far g r. has_one firsts d names so_far (mentions_of_goal g) (descriptions_in g) (goal_described d names new_scope g) r;
  desc_fits = desc_meaning_fits;
  goal_fits = goal_meaning_fits;
}

-- what a call has answered that carries out the function, in the words of the relation
module _ {V A : Type 0} (view : V → Meaning A) (Is : Result (Meaning A) NameError → Type 0) (after : Result (Meaning A) NameError) (one : (r : Result (Meaning A) NameError) → Is r ↔ after ≡ r) where
  pub meant_as : (r : Result V MeaningError) → MeaningGives view r after → (answer : Result (Meaning A) NameError) → Is answer → MeaningGives view r answer
  meant_as r gives answer is = subst (MeaningGives view r) ((one answer).0 is) gives

  pub meant_found : (r : Result V MeaningError) → MeaningGives view r after → MatchResult r (λ m. Is (Ok (view m))) (λ e. IsToldRefusal Is e)
  meant_found (Ok m) gives = (one (Ok (view m))).1 gives
  meant_found (Err NoMemory) gives = tt
  meant_found (Err (Name e)) gives = (one (Err e)).1 gives
