-- Each call of a described goal is of a predicate that is there, with as many descriptions as that has arguments.
use Rattle.std.proofs.Common.{◌≡◌, ℕ, suc, false, Some, List, [], ◌∷◌, map, length, refl, sym, ap, ◌∙◌, inl, inr}
use Rattle.std.specs.Prelude.{slice_get}
use Rattle.std.proofs.lemmas.Bool.{cases_Bool, both_ways}
use Rattle.ale_relation.specs.Has.{Has}
use Rattle.ale_declared.specs.Declarations.{Declared}
use Rattle.ale_declared.specs.Names.{same_name, number}
use Rattle.ale_declared.proofs.NumberLemmas.{same_name_to, same_name_from}
use Rattle.ale_term.specs.Terms.{TermData}
use Rattle.ale_term.specs.Goals as written
use Rattle.ale_term.specs.Goals.{GoalData, GoalsData}
use Rattle.ale_logic.specs.Descriptions.{how_many}
use Rattle.ale_vocabulary.specs.Keys.{key}
use Rattle.ale_program.specs.Kept.{AllCallsFit}
use Rattle.ale_describe.specs.Arities.{arity_of, arities}
use Rattle.ale_describe.specs.Known.{AreKnownGoals}
use Rattle.ale_describe.specs.Names.{NamesData}
use Rattle.ale_describe.specs.Scopes.{ScopeData}
use Rattle.ale_describe.specs.PlainLaws.{CallsLaw}
use Rattle.ale_describe.specs.Describing.{described, each_described, goal_described, goals_described}

arity_there : (ks : List (List ℕ)) (k : List ℕ) → Has ks k → slice_get (map arity_of ks) (number ks k) ≡ Some (arity_of k)
arity_there [] k has = absurd has
arity_there (j ∷ ks) k has = elim (cases_Bool (same_name k j)) [
  | inl t ↦ rw t (ap (λ z. Some (arity_of z)) (sym (same_name_to k j t)))
  | inr f ↦ rw f (arity_there ks k (elsewhere has f))
]
  where
    elsewhere : Has (j ∷ ks) k → same_name k j ≡ false → Has ks k
    elsewhere (inl e) f = absurd (both_ways (same_name k j) f (same_name_from k j e))
    elsewhere (inr more) f = more

each_counted : (d : Declared) (names : NamesData) (scope : ScopeData) (ts : List TermData) → how_many (each_described d names scope ts).0 ≡ length ts
each_counted d names scope [] = refl
each_counted d names scope (t ∷ ts) = ap suc (each_counted d names (described d names scope t).1 ts)

mutual
  calls_fit : CallsLaw
  calls_fit d names scope written.holds k = tt
  calls_fit d names scope written.cut k = tt
  calls_fit d names scope (written.each gs) k = all_calls_fit d names scope gs k
  calls_fit d names scope (written.either gs) k = all_calls_fit d names scope gs k
  calls_fit d names scope (written.equal t u) k = tt
  calls_fit d names scope (written.call p ts) k =
      arity_there names.vocabulary.predicates (key p (length ts)) k.0 ∙ ap Some (sym (each_counted d names scope ts))
  calls_fit d names scope (written.not_proved g) k = calls_fit d names scope g k
  calls_fit d names scope (written.if_else c g e) k =
      let a : ScopeData = (goal_described d names scope c).1 in
      let b : ScopeData = (goal_described d names a g).1 in
      (calls_fit d names scope c k.0, calls_fit d names a g k.1, calls_fit d names b e k.2)
  calls_fit d names scope (written.once c g) k =
      let a : ScopeData = (goal_described d names scope c).1 in
      (calls_fit d names scope c k.0, calls_fit d names a g k.1)

  all_calls_fit : (d : Declared) (names : NamesData) (scope : ScopeData) (gs : GoalsData) → AreKnownGoals d names.vocabulary gs →
      AllCallsFit (arities names.vocabulary) (goals_described d names scope gs).0
  all_calls_fit d names scope written.no_goal k = tt
  all_calls_fit d names scope (written.goal_more g gs) k =
      let a : ScopeData = (goal_described d names scope g).1 in
      (calls_fit d names scope g k.0, all_calls_fit d names a gs k.1)

pub calls_law : CallsLaw
calls_law = calls_fit
