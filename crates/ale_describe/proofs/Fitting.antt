-- What descriptions stand for fits the signature.
use Rattle.std.proofs.Common.{◌≡◌, ℕ, ◌<◌, ◌≤◌, Option, Some, None, List, [], ◌∷◌, ◌++◌, length, refl, sym, subst, arith}
use Rattle.std.specs.Prelude.{codes}
use Rattle.ale_relation.specs.Has.{Has}
use Rattle.ale_declared.specs.Declarations.{Declared}
use Rattle.ale_declared.specs.Names.{named, number}
use Rattle.ale_declared.proofs.NumberLemmas.{number_below}
use Rattle.ale_hierarchy.specs.Hierarchy.{Hierarchy}
use Rattle.ale_hierarchy.specs.Order.{hierarchy}
use Rattle.ale_term.specs.Terms as term
use Rattle.ale_term.specs.Terms.{TermData, TermsData}
use Rattle.ale_term.specs.Goals as written
use Rattle.ale_term.specs.Goals.{GoalData, GoalsData}
use Rattle.ale_logic.specs.Descriptions as description
use Rattle.ale_logic.specs.Descriptions.{Description, Descriptions, FitsPath, FitsDescription, FitDescriptions}
use Rattle.ale_logic.specs.Goals as plain
use Rattle.ale_logic.specs.Goals.{Goal, Goals, FitsGoal, FitGoals}
use Rattle.ale_logic.specs.Programs.{ListTypes}
use Rattle.ale_logic.specs.Fitting.{FitLists}
use Rattle.ale_vocabulary.specs.Vocabularies.{VocabularyData}
use Rattle.ale_macro.specs.Calls.{FitsTemplate, FitTemplates}
use Rattle.ale_macro.specs.Expanding.{expansion}
use Rattle.ale_macro.proofs.LawsHold.{library_law}
use Rattle.ale_describe.specs.Variables.{anonymous}
use Rattle.ale_describe.specs.Known.{HaveAll, HasLists, IsKnownTerm, AreKnownTerms, AreKnownGoals}
use Rattle.ale_describe.specs.Templating.{e_list, path_of, templated, all_templated}
use Rattle.ale_describe.specs.Names.{NamesData}
use Rattle.ale_describe.specs.Scopes.{ScopeData}
use Rattle.ale_describe.specs.Describing.{described, each_described, goal_described, goals_described}
use Rattle.ale_describe.specs.Laws.{FitsNames, DescriptionsFit, EachDescriptionFits, GoalsFit, DescribeLaw}
use Rattle.ale_describe.proofs.Numbering.{named_below, named_there}
use Rattle.ale_describe.proofs.Finding.{lists_have_end}
use Rattle.ale_describe.proofs.Knowing.{calls_known}

-- more slots
mutual
  wider : (h : Hierarchy) (a b : ℕ) → a ≤ b → (x : Description) → FitsDescription h a x → FitsDescription h b x
  wider h a b le (description.of_type t) f = f
  wider h a b le (description.slot v) f = let low : v < a = f in omega arith
  wider h a b le (description.at g x) f = (f.0, wider h a b le x f.1)
  wider h a b le (description.all xs) f = all_wider h a b le xs f
  wider h a b le (description.any xs) f = all_wider h a b le xs f
  wider h a b le (description.differs x) f = wider h a b le x f
  wider h a b le (description.path_equation p q) f = f

  all_wider : (h : Hierarchy) (a b : ℕ) → a ≤ b → (xs : Descriptions) → FitDescriptions h a xs → FitDescriptions h b xs
  all_wider h a b le description.none f = tt
  all_wider h a b le (description.more x xs) f = (wider h a b le x f.0, all_wider h a b le xs f.1)

mutual
  goal_wider : (h : Hierarchy) (a b : ℕ) → a ≤ b → (g : Goal) → FitsGoal h a g → FitsGoal h b g
  goal_wider h a b le plain.yes f = tt
  goal_wider h a b le plain.cut f = tt
  goal_wider h a b le (plain.each gs) f = goals_wider h a b le gs f
  goal_wider h a b le (plain.either gs) f = goals_wider h a b le gs f
  goal_wider h a b le (plain.equal x y) f = (wider h a b le x f.0, wider h a b le y f.1)
  goal_wider h a b le (plain.call p xs) f = all_wider h a b le xs f
  goal_wider h a b le (plain.unless g) f = goal_wider h a b le g f
  goal_wider h a b le (plain.if_else c t e) f = (goal_wider h a b le c f.0, goal_wider h a b le t f.1, goal_wider h a b le e f.2)
  goal_wider h a b le (plain.once c t) f = (goal_wider h a b le c f.0, goal_wider h a b le t f.1)

  goals_wider : (h : Hierarchy) (a b : ℕ) → a ≤ b → (gs : Goals) → FitGoals h a gs → FitGoals h b gs
  goals_wider h a b le plain.no_goal f = tt
  goals_wider h a b le (plain.and_goal g gs) f = (goal_wider h a b le g f.0, goals_wider h a b le gs f.1)

-- types and features are those of the signature
type_fits : (d : Declared) (n : List ℕ) → Has d.types n → number d.types n < (hierarchy d).types
unfolding hierarchy
type_fits d n h = number_below d.types n h

feature_fits : (d : Declared) (f : List ℕ) → Has d.features f → number d.features f < (hierarchy d).features
unfolding hierarchy
feature_fits d f h = number_below d.features f h

end_fits : (d : Declared) → HasLists d → e_list d < (hierarchy d).types
unfolding hierarchy
end_fits d h = go (named d.types (codes "e_list")) refl
  where
    go : (o : Option ℕ) → named d.types (codes "e_list") ≡ o → e_list d < length d.types
    go None e = absurd (lists_have_end d h e)
    go (Some k) e = subst (λ z. z < length d.types) (sym (named_there d.types (codes "e_list") k e).0) (named_below d.types (codes "e_list") k e)

path_fits : (d : Declared) (fs : List (List ℕ)) → HaveAll d.features fs → FitsPath (hierarchy d) (path_of d fs)
path_fits d [] h = tt
path_fits d (f ∷ fs) h = (feature_fits d f h.0, path_fits d fs h.1)

mutual
  pub fits_template : (d : Declared) (v : VocabularyData) (l : ListTypes) → (HasLists d → FitLists (hierarchy d) l) → (vs : List (List ℕ)) (t : TermData) → IsKnownTerm d v t →
      FitsTemplate (hierarchy d) l (templated d v vs t).0
  fits_template d v l lists vs (term.name n) k = type_fits d n k
  fits_template d v l lists vs (term.slot x) k = tt
  fits_template d v l lists vs (term.at f t) k = (feature_fits d f k.0, fits_template d v l lists vs t k.1)
  fits_template d v l lists vs (term.all ts) k = fit_templates d v l lists vs ts k
  fits_template d v l lists vs (term.any ts) k = fit_templates d v l lists vs ts k
  fits_template d v l lists vs (term.differs t) k = fits_template d v l lists vs t k
  fits_template d v l lists vs (term.meet p q) k = (path_fits d p k.0, path_fits d q k.1)
  fits_template d v l lists vs (term.macro m ts) k = fit_templates d v l lists (vs ++ anonymous ∷ []) ts k.1
  fits_template d v l lists vs (term.list ts) k = (lists k.0, fit_templates d v l lists vs ts k.1, end_fits d k.0)
  fits_template d v l lists vs (term.list_with ts t) k =
      (lists k.0, fit_templates d v l lists vs ts k.1, fits_template d v l lists (all_templated d v vs ts).1 t k.2)

  pub fit_templates : (d : Declared) (v : VocabularyData) (l : ListTypes) → (HasLists d → FitLists (hierarchy d) l) → (vs : List (List ℕ)) (ts : TermsData) → AreKnownTerms d v ts →
      FitTemplates (hierarchy d) l (all_templated d v vs ts).0
  fit_templates d v l lists vs term.none k = tt
  fit_templates d v l lists vs (term.more t ts) k = (fits_template d v l lists vs t k.0, fit_templates d v l lists (templated d v vs t).1 ts k.1)

fits_description : DescriptionsFit
fits_description d names scope t f k =
    let v : VocabularyData = names.vocabulary in
    let known = calls_known d v names.library.macros scope.written t f.keys k in
    record {
      fits = library_law.fits (hierarchy d) names.library scope.slots (templated d v scope.written t).0 f.library known f.bodies (fits_template d v names.library.lists f.lists scope.written t k);
      grows = library_law.grows scope.slots (expansion names.library (templated d v scope.written t).0);
    }

each_fits : EachDescriptionFits
each_fits d names scope [] f k = record { fit = tt; grows = omega arith }
each_fits d names scope (t ∷ ts) f k =
    let first = fits_description d names scope t f k.0 in
    let middle : ScopeData = (described d names scope t).1 in
    let others = each_fits d names middle ts f k.1 in
    let one = first.grows in
    let two = others.grows in
    record {
      fit = (wider (hierarchy d) (length middle.slots) (length (each_described d names middle ts).1.slots) two (described d names scope t).0 first.fits, others.fit);
      grows = omega arith;
    }

-- goals one after another
record GoalsFitAll (d : Declared) (names : NamesData) (scope : ScopeData) (gs : GoalsData) : Type 0 where
  fit : FitGoals (hierarchy d) (length (goals_described d names scope gs).1.slots) (goals_described d names scope gs).0
  grows : length scope.slots ≤ length (goals_described d names scope gs).1.slots

mutual
  goal_fits : GoalsFit
  goal_fits d names scope written.holds f k = record { fits = tt; grows = omega arith }
  goal_fits d names scope written.cut f k = record { fits = tt; grows = omega arith }
  goal_fits d names scope (written.each gs) f k = let r = goals_fit d names scope gs f k in record { fits = r.fit; grows = r.grows }
  goal_fits d names scope (written.either gs) f k = let r = goals_fit d names scope gs f k in record { fits = r.fit; grows = r.grows }
  goal_fits d names scope (written.equal t u) f k =
      let first = fits_description d names scope t f k.0 in
      let middle : ScopeData = (described d names scope t).1 in
      let second = fits_description d names middle u f k.1 in
      let one = first.grows in
      let two = second.grows in
      record {
        fits = (wider (hierarchy d) (length middle.slots) (length (described d names middle u).1.slots) two (described d names scope t).0 first.fits, second.fits);
        grows = omega arith;
      }
  goal_fits d names scope (written.call p ts) f k = let r = each_fits d names scope ts f k.1 in record { fits = r.fit; grows = r.grows }
  goal_fits d names scope (written.not_proved g) f k = let r = goal_fits d names scope g f k in record { fits = r.fits; grows = r.grows }
  goal_fits d names scope (written.if_else c g e) f k =
      let first = goal_fits d names scope c f k.0 in
      let a : ScopeData = (goal_described d names scope c).1 in
      let second = goal_fits d names a g f k.1 in
      let b : ScopeData = (goal_described d names a g).1 in
      let third = goal_fits d names b e f k.2 in
      let one = first.grows in
      let two = second.grows in
      let three = third.grows in
      let end : ScopeData = (goal_described d names b e).1 in
      let ahead : length a.slots ≤ length end.slots = omega arith in
      record {
        fits = (
          goal_wider (hierarchy d) (length a.slots) (length end.slots) ahead (goal_described d names scope c).0 first.fits,
          goal_wider (hierarchy d) (length b.slots) (length end.slots) three (goal_described d names a g).0 second.fits,
          third.fits,
        );
        grows = omega arith;
      }
  goal_fits d names scope (written.once c g) f k =
      let first = goal_fits d names scope c f k.0 in
      let a : ScopeData = (goal_described d names scope c).1 in
      let second = goal_fits d names a g f k.1 in
      let one = first.grows in
      let two = second.grows in
      record {
        fits = (goal_wider (hierarchy d) (length a.slots) (length (goal_described d names a g).1.slots) two (goal_described d names scope c).0 first.fits, second.fits);
        grows = omega arith;
      }

  goals_fit : (d : Declared) (names : NamesData) (scope : ScopeData) (gs : GoalsData) → FitsNames d names → AreKnownGoals d names.vocabulary gs → GoalsFitAll d names scope gs
  goals_fit d names scope written.no_goal f k = record { fit = tt; grows = omega arith }
  goals_fit d names scope (written.goal_more g gs) f k =
      let first = goal_fits d names scope g f k.0 in
      let middle : ScopeData = (goal_described d names scope g).1 in
      let others = goals_fit d names middle gs f k.1 in
      let one = first.grows in
      let two = others.grows in
      record {
        fit = (goal_wider (hierarchy d) (length middle.slots) (length (goals_described d names middle gs).1.slots) two (goal_described d names scope g).0 first.fits, others.fit);
        grows = omega arith;
      }

pub describe_law : DescribeLaw
describe_law = record {
  descriptions = fits_description;
  each = each_fits;
  goals = goal_fits;
  wider = λ h a b le. record { description = wider h a b le; goal = goal_wider h a b le };
}
