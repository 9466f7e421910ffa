-- Descriptions whose mentions are all known: what is so of their templates.
use Rattle.std.proofs.Common.{◌≡◌, ℕ, suc, ◌<◌, false, List, [], ◌∷◌, ◌++◌, map, length, refl, sym, ◌∙◌, subst, inl, inr, arith}
use Rattle.std.specs.Prelude.{is_some}
use Rattle.std.proofs.lemmas.Bool.{cases_Bool, both_ways}
use Rattle.ale_relation.specs.Has.{Has}
use Rattle.ale_declared.specs.Declarations.{Declared}
use Rattle.ale_declared.specs.Names.{same_name, is_named, number}
use Rattle.ale_declared.proofs.NumberLemmas.{same_name_to, same_name_from, is_named_has, is_named_from}
use Rattle.ale_list.specs.Lists.{lists_in}
use Rattle.ale_term.specs.Terms as term
use Rattle.ale_term.specs.Terms.{TermData, TermsData}
use Rattle.ale_term.specs.Goals as written
use Rattle.ale_term.specs.Goals.{GoalData, GoalsData}
use Rattle.ale_vocabulary.specs.First.{AllRight}
use Rattle.ale_vocabulary.specs.Keys.{key}
use Rattle.ale_vocabulary.specs.Knowing.{IsUnknown, unknown}
use Rattle.ale_vocabulary.specs.Mentions as mention
use Rattle.ale_vocabulary.specs.Mentions.{Mention, mentions, mentions_of_all, mentions_of_each, mentions_of_goal, mentions_of_goals}
use Rattle.ale_vocabulary.specs.Vocabularies.{VocabularyData}
use Rattle.ale_macro.specs.Templates.{MacroData, macro_at}
use Rattle.ale_macro.specs.Calls.{CallsKnown, AllCallsKnown}
use Rattle.ale_describe.specs.Known.{HaveAll, HasLists, IsKnownTerm, AreKnownTerms, AreKnownEach, IsKnownGoal, AreKnownGoals}
use Rattle.ale_describe.specs.Templating.{templated, all_templated}
use Rattle.ale_describe.specs.Variables.{anonymous}
use Rattle.ale_describe.specs.Names.{HasKey, HaveKeys}
use Rattle.ale_describe.proofs.Loops.{as_many}

-- all is right in both parts
pub right_left : {A F : Type 0} (P : A → F → Type 0) (xs ys : List A) → AllRight P (xs ++ ys) → AllRight P xs
right_left P [] ys h = tt
right_left P (x ∷ xs) ys h = (h.0, right_left P xs ys h.1)

pub right_right : {A F : Type 0} (P : A → F → Type 0) (xs ys : List A) → AllRight P (xs ++ ys) → AllRight P ys
right_right P [] ys h = h
right_right P (x ∷ xs) ys h = right_right P xs ys h.1

-- what is not unknown is known
has_or_not : (names : List (List ℕ)) (x : List ℕ) → ((Has names x → ⊥) → ⊥) → Has names x
has_or_not names x h = elim (cases_Bool (is_named x names)) [
  | inl t ↦ is_named_has x names t
  | inr f ↦ absurd (h (λ has. both_ways (is_named x names) f (is_named_from x names has)))
]

pub known_type : (d : Declared) (v : VocabularyData) (n : List ℕ) → ((e : _) → IsUnknown d v (mention.type n) e → ⊥) → Has d.types n
known_type d v n h = has_or_not d.types n (λ no. h (unknown (mention.type n)) (record { not_known = no; fault = refl }))

pub known_feature : (d : Declared) (v : VocabularyData) (f : List ℕ) → ((e : _) → IsUnknown d v (mention.feature f) e → ⊥) → Has d.features f
known_feature d v f h = has_or_not d.features f (λ no. h (unknown (mention.feature f)) (record { not_known = no; fault = refl }))

pub known_macro : (d : Declared) (v : VocabularyData) (m : List ℕ) (n : ℕ) → ((e : _) → IsUnknown d v (mention.macro_call m n) e → ⊥) → Has v.macros (key m n)
known_macro d v m n h = has_or_not v.macros (key m n) (λ no. h (unknown (mention.macro_call m n)) (record { not_known = no; fault = refl }))

pub known_predicate : (d : Declared) (v : VocabularyData) (p : List ℕ) (n : ℕ) → ((e : _) → IsUnknown d v (mention.predicate p n) e → ⊥) → Has v.predicates (key p n)
known_predicate d v p n h = has_or_not v.predicates (key p n) (λ no. h (unknown (mention.predicate p n)) (record { not_known = no; fault = refl }))

pub known_lists : (d : Declared) (v : VocabularyData) → ((e : _) → IsUnknown d v mention.a_list e → ⊥) → HasLists d
known_lists d v h = elim (cases_Bool (is_some (lists_in d))) [
  | inl t ↦ t
  | inr f ↦ absurd (h (unknown mention.a_list) (record { not_known = λ t. both_ways (is_some (lists_in d)) f t; fault = refl }))
]

known_path : (d : Declared) (v : VocabularyData) (fs : List (List ℕ)) → AllRight (IsUnknown d v) (map mention.feature fs) → HaveAll d.features fs
known_path d v [] h = tt
known_path d v (f ∷ fs) h = (known_feature d v f h.0, known_path d v fs h.1)

mutual
  pub known_term : (d : Declared) (v : VocabularyData) (t : TermData) → AllRight (IsUnknown d v) (mentions t) → IsKnownTerm d v t
  known_term d v (term.name n) h = known_type d v n h.0
  known_term d v (term.slot x) h = tt
  known_term d v (term.at f t) h = (known_feature d v f h.0, known_term d v t h.1)
  known_term d v (term.all ts) h = known_terms d v ts h
  known_term d v (term.any ts) h = known_terms d v ts h
  known_term d v (term.differs t) h = known_term d v t h
  known_term d v (term.meet p q) h = (
    known_path d v p (right_left (IsUnknown d v) (map mention.feature p) (map mention.feature q) h),
    known_path d v q (right_right (IsUnknown d v) (map mention.feature p) (map mention.feature q) h),
  )
  known_term d v (term.macro m ts) h = (known_macro d v m (mention.how_many ts) h.0, known_terms d v ts h.1)
  known_term d v (term.list ts) h = (known_lists d v h.0, known_terms d v ts h.1)
  known_term d v (term.list_with ts t) h = (
    known_lists d v h.0,
    known_terms d v ts (right_left (IsUnknown d v) (mentions_of_all ts) (mentions t) h.1),
    known_term d v t (right_right (IsUnknown d v) (mentions_of_all ts) (mentions t) h.1),
  )

  pub known_terms : (d : Declared) (v : VocabularyData) (ts : TermsData) → AllRight (IsUnknown d v) (mentions_of_all ts) → AreKnownTerms d v ts
  known_terms d v term.none h = tt
  known_terms d v (term.more t ts) h = (
    known_term d v t (right_left (IsUnknown d v) (mentions t) (mentions_of_all ts) h),
    known_terms d v ts (right_right (IsUnknown d v) (mentions t) (mentions_of_all ts) h),
  )

pub known_each : (d : Declared) (v : VocabularyData) (ts : List TermData) → AllRight (IsUnknown d v) (mentions_of_each ts) → AreKnownEach d v ts
known_each d v [] h = tt
known_each d v (t ∷ ts) h = (
  known_term d v t (right_left (IsUnknown d v) (mentions t) (mentions_of_each ts) h),
  known_each d v ts (right_right (IsUnknown d v) (mentions t) (mentions_of_each ts) h),
)

-- the macro with the number of a key has that key
pub record HasPlace (ms : List MacroData) (n : ℕ) (k : List ℕ) : Type 0 where
  pub below : n < length ms
  pub key : HasKey k (macro_at ms n)

pub key_place : (ks : List (List ℕ)) (ms : List MacroData) (k : List ℕ) → HaveKeys ks ms → Has ks k → HasPlace ms (number ks k) k
key_place [] ms k h has = absurd has
key_place (j ∷ ks) [] k h has = absurd h
key_place (j ∷ ks) (m ∷ ms) k h has = elim (cases_Bool (same_name k j)) [
  | inl t ↦ rw t (record { below = omega arith; key = subst (λ z. HasKey z m) (sym (same_name_to k j t)) h.0 })
  | inr f ↦ rw f (later (key_place ks ms k h.1 (elsewhere has f)))
]
  where
    elsewhere : Has (j ∷ ks) k → same_name k j ≡ false → Has ks k
    elsewhere (inl e) f = absurd (both_ways (same_name k j) f (same_name_from k j e))
    elsewhere (inr more) f = more

    later : HasPlace ms (number ks k) k → HasPlace (m ∷ ms) (suc (number ks k)) k
    later p = let b = p.below in record { below = omega arith; key = p.key }

-- keys tell numbers of arguments apart
same_arity : (x y : List ℕ) (a b : ℕ) → key x a ≡ key y b → a ≡ b
same_arity x y a b e = cc

-- each call is of a macro that is there, with an argument for each parameter
mutual
  pub calls_known : (d : Declared) (v : VocabularyData) (ms : List MacroData) (vs : List (List ℕ)) (t : TermData) → HaveKeys v.macros ms → IsKnownTerm d v t →
      CallsKnown ms (templated d v vs t).0
  calls_known d v ms vs (term.name n) h k = tt
  calls_known d v ms vs (term.slot x) h k = tt
  calls_known d v ms vs (term.at f t) h k = calls_known d v ms vs t h k.1
  calls_known d v ms vs (term.all ts) h k = all_calls_known d v ms vs ts h k
  calls_known d v ms vs (term.any ts) h k = all_calls_known d v ms vs ts h k
  calls_known d v ms vs (term.differs t) h k = calls_known d v ms vs t h k
  calls_known d v ms vs (term.meet p q) h k = tt
  calls_known d v ms vs (term.macro m ts) h k =
      let us : List (List ℕ) = vs ++ anonymous ∷ [] in
      let place = key_place v.macros ms (key m (mention.how_many ts)) h k.0 in (
        place.below,
        as_many d v us ts ∙ same_arity m place.key.name (mention.how_many ts) (macro_at ms (number v.macros (key m (mention.how_many ts)))).parameters place.key.is,
        all_calls_known d v ms us ts h k.1,
      )
  calls_known d v ms vs (term.list ts) h k = (all_calls_known d v ms vs ts h k.1, tt)
  calls_known d v ms vs (term.list_with ts t) h k =
      (all_calls_known d v ms vs ts h k.1, calls_known d v ms (all_templated d v vs ts).1 t h k.2)

  pub all_calls_known : (d : Declared) (v : VocabularyData) (ms : List MacroData) (vs : List (List ℕ)) (ts : TermsData) → HaveKeys v.macros ms → AreKnownTerms d v ts →
      AllCallsKnown ms (all_templated d v vs ts).0
  all_calls_known d v ms vs term.none h k = tt
  all_calls_known d v ms vs (term.more t ts) h k =
      (calls_known d v ms vs t h k.0, all_calls_known d v ms (templated d v vs t).1 ts h k.1)

mutual
  pub known_goal : (d : Declared) (v : VocabularyData) (g : GoalData) → AllRight (IsUnknown d v) (mentions_of_goal g) → IsKnownGoal d v g
  known_goal d v written.holds h = tt
  known_goal d v written.cut h = tt
  known_goal d v (written.each gs) h = known_goals d v gs h
  known_goal d v (written.either gs) h = known_goals d v gs h
  known_goal d v (written.equal t u) h =
      (known_term d v t (right_left (IsUnknown d v) (mentions t) (mentions u) h), known_term d v u (right_right (IsUnknown d v) (mentions t) (mentions u) h))
  known_goal d v (written.call p ts) h = (known_predicate d v p (length ts) h.0, known_each d v ts h.1)
  known_goal d v (written.not_proved g) h = known_goal d v g h
  known_goal d v (written.if_else c g e) h =
      let first = right_left (IsUnknown d v) (mentions_of_goal c ++ mentions_of_goal g) (mentions_of_goal e) h in (
        known_goal d v c (right_left (IsUnknown d v) (mentions_of_goal c) (mentions_of_goal g) first),
        known_goal d v g (right_right (IsUnknown d v) (mentions_of_goal c) (mentions_of_goal g) first),
        known_goal d v e (right_right (IsUnknown d v) (mentions_of_goal c ++ mentions_of_goal g) (mentions_of_goal e) h),
      )
  known_goal d v (written.once c g) h =
      (known_goal d v c (right_left (IsUnknown d v) (mentions_of_goal c) (mentions_of_goal g) h), known_goal d v g (right_right (IsUnknown d v) (mentions_of_goal c) (mentions_of_goal g) h))

  pub known_goals : (d : Declared) (v : VocabularyData) (gs : GoalsData) → AllRight (IsUnknown d v) (mentions_of_goals gs) → AreKnownGoals d v gs
  known_goals d v written.no_goal h = tt
  known_goals d v (written.goal_more g gs) h =
      (known_goal d v g (right_left (IsUnknown d v) (mentions_of_goal g) (mentions_of_goals gs) h), known_goals d v gs (right_right (IsUnknown d v) (mentions_of_goal g) (mentions_of_goals gs) h))
