-- The kids of each item both ways: what satisfies a kid of a plain item satisfies the state with the item, and what
-- satisfies that satisfies a kid.
use Rattle.std.proofs.Common.{◌≡◌, ℕ, ◌<◌, List, ◌⊎◌, refl, sym, ◌∙◌, Some}
use Rattle.ale_declared.specs.Lists.{Has}
use Rattle.ale_hierarchy.specs.Hierarchy.{IsLawful}
use Rattle.ale_graph.specs.declared.closed.Closed.{Closed}
use Rattle.ale_graph.specs.declared.fact.Fact.TheVariants.{OfType}
use Rattle.ale_graph.specs.Structures.{Structure, IsStructure, value_of}
use Rattle.ale_graph.specs.Filling.{class_value}
use Rattle.ale_graph.specs.Closure.{class_of}
use Rattle.ale_graph.proofs.Lists.{some_one}
use Rattle.ale_logic.specs.Descriptions.{of_type, slot, at, all, any, differs, path_equation}
use Rattle.ale_logic.specs.Programs.{Element, Rule, clauses_of}
use Rattle.ale_logic.specs.Fitting.{FitsRule}
use Rattle.ale_logic.specs.Words.{Entry, IsEntry, Grammar}
use Rattle.ale_logic.specs.States.{holds, ends_with, leads, generates, generates_all, Item, on, take, derive, called, cuts, stop, split, pivot, connect, bound, State, told, doing, doing_all}
use Rattle.ale_logic.specs.DescriptionKids.{stepping, leading, equating_paths, binding, items_at, differing}
use Rattle.ale_logic.specs.Visits.{kids}
use Rattle.ale_logic.specs.Satisfaction.{Sense, Satisfies}
use Rattle.ale_logic.specs.WellFormed.{scope_of, FitsItem, IsPlainItem, IsState, IsToldOf}
use Rattle.ale_logic.specs.Steps.{SatisfiesOne}
use Rattle.ale_step_law.proofs.Carrying.{told_down, doing_down}
use Rattle.ale_step_law.proofs.Every.{Every, every_one}
use Rattle.ale_step_law.proofs.Down.{IsBack, back, equating_back, leading_back, binding_back, alternatives_back, differing_back, taken_back, all_back, goal_back, clauses_back, split_back, stepping_back}
use Rattle.ale_step_law.proofs.Up.{type_one, stepping_one, leading_one, equating_one, binding_one, all_one, any_one, differing_one, taken_one, goal_one, clauses_one, split_one}
use Rattle.ale_step_law.proofs.GeneratorDown.{generate_back, list_back, pivot_back, connect_back}
use Rattle.ale_step_law.proofs.GeneratorUp.{generate_one, list_one, pivot_one, connect_one}

module _ (gr : Grammar) (words : (e : Entry) → Has gr.words.entries e ⊎ Has gr.words.empties e → IsEntry gr.signature e) (rules : (r : Rule) → Has gr.program.rules r → FitsRule gr.signature r) (waiting : ℕ) (c : Closed) (s : Structure) (x : Sense) (remain : List Element) (st : State) where
  pub kids_back : ((n f m : ℕ) → class_value (class_of c) c.facts (class_of c n) f ≡ Some m → Satisfies gr s x st remain → value_of s (x.node n) f ≡ Some (x.node m)) → (i : Item) → FitsItem gr.signature (scope_of st) i → IsPlainItem i → Every (IsBack gr s x remain st i) (kids gr waiting c i st)
  kids_back value (on n (holds e (of_type t))) fit plain =
      every_one (IsBack gr s x remain st (on n (holds e (of_type t)))) (told (OfType n t) st)
      (λ sat. let r = told_down gr s remain x (OfType n t) st sat in back gr s x remain st (on n (holds e (of_type t))) tt r.0 r.1)
  kids_back value (on n (holds e (slot v))) fit plain =
      every_one (IsBack gr s x remain st (on n (holds e (slot v)))) (binding e v n (bound st.envs e v) st) (binding_back gr s x remain st e v n fit.1.0 fit.1.1 (bound st.envs e v) refl)
  kids_back value (on n (holds e (at f d))) fit plain =
      every_one (IsBack gr s x remain st (on n (holds e (at f d)))) (stepping gr.signature n f (holds e d) st) (stepping_back gr s x remain st (on n (holds e (at f d))) tt n f (holds e d) (λ p. p))
  kids_back value (on n (holds e (all ds))) fit plain =
      every_one (IsBack gr s x remain st (on n (holds e (all ds)))) (doing_all (items_at e n ds) st) (all_back gr s x remain st e n ds)
  kids_back value (on n (holds e (any ds))) fit plain = alternatives_back gr s x remain st e n ds
  kids_back value (on n (holds e (differs d))) fit plain = every_one (IsBack gr s x remain st (on n (holds e (differs d)))) (differing e n d st) (differing_back gr s x remain st e n d)
  kids_back value (on n (holds e (path_equation p q))) fit plain =
      every_one (IsBack gr s x remain st (on n (holds e (path_equation p q)))) (equating_paths gr.signature n p n q st) (equating_back gr s x remain st (on n (holds e (path_equation p q))) tt n p n q (λ z. z))
  kids_back value (on a (ends_with p b q)) fit plain =
      every_one (IsBack gr s x remain st (on a (ends_with p b q))) (equating_paths gr.signature a p b q st) (equating_back gr s x remain st (on a (ends_with p b q)) tt a p b q (λ z. z))
  kids_back value (on b (leads q a)) fit plain = every_one (IsBack gr s x remain st (on b (leads q a))) (leading gr.signature b q a st) (leading_back gr s x remain st b q a)
  kids_back value (on n (generates g)) fit plain = generate_back gr s x remain st gr.program.semantics refl n g fit.0
  kids_back value (on n (generates_all g)) fit plain = list_back gr s x remain st gr.program.lists refl n g fit.0
  kids_back value (take n f d) fit plain = taken_back gr s x remain st n f d (class_value (class_of c) c.facts (class_of c n) f) (value n f)
  kids_back value (derive e k g) fit plain = goal_back gr s x remain st waiting e k g plain
  kids_back value (called p ns) fit plain = clauses_back gr s x remain st waiting p ns fit (clauses_of gr.program p) (λ d k. k)
  kids_back value (cuts k) fit plain = absurd plain
  kids_back value stop fit plain = absurd plain
  kids_back value (split n end) fit plain = split_back gr s x remain st gr.program.lists refl n end
  kids_back value (pivot sm t) fit plain = pivot_back gr s x remain st waiting gr.program.semantics refl words rules sm t
  kids_back value (connect p us t) fit plain = connect_back gr s x remain st waiting p us t rules

  pub kids_up : IsLawful gr.signature → IsStructure gr.signature s → IsState gr.signature st → ((n f : ℕ) → n < st.next → f < gr.signature.features → IsToldOf gr.signature (scope_of st) n f → (m : ℕ) × (class_value (class_of c) c.facts (class_of c n) f ≡ Some m)) →
      ((n f m : ℕ) → class_value (class_of c) c.facts (class_of c n) f ≡ Some m → value_of s (x.node n) f ≡ Some (x.node m)) →
      (i : Item) → FitsItem gr.signature (scope_of st) i → Satisfies gr s x (doing i st) remain → SatisfiesOne gr s st x remain (kids gr waiting c i st)
  kids_up law str is there value (on n (holds e (of_type t))) fit sat =
      let r = doing_down gr s remain x (on n (holds e (of_type t))) st tt sat in type_one gr law s str x remain st is r.1 n t r.0
  kids_up law str is there value (on n (holds e (slot v))) fit sat =
      let r = doing_down gr s remain x (on n (holds e (slot v))) st tt sat in binding_one gr law s str x remain st is r.1 e v n fit.1.0 fit.1.1 r.0 (bound st.envs e v) refl
  kids_up law str is there value (on n (holds e (at f d))) fit sat =
      let r = doing_down gr s remain x (on n (holds e (at f d))) st tt sat in stepping_one gr law s str x remain st is r.1 n f (holds e d) r.0
  kids_up law str is there value (on n (holds e (all ds))) fit sat =
      let r = doing_down gr s remain x (on n (holds e (all ds))) st tt sat in all_one gr law s str x remain st is r.1 e n ds r.0
  kids_up law str is there value (on n (holds e (any ds))) fit sat =
      let r = doing_down gr s remain x (on n (holds e (any ds))) st tt sat in any_one gr law s str x remain st is r.1 e n ds r.0
  kids_up law str is there value (on n (holds e (differs d))) fit sat =
      let r = doing_down gr s remain x (on n (holds e (differs d))) st tt sat in differing_one gr law s str x remain st is r.1 e n d fit.0 r.0.0 r.0.1 r.0.2 r.0.3
  kids_up law str is there value (on n (holds e (path_equation p q))) fit sat =
      let r = doing_down gr s remain x (on n (holds e (path_equation p q))) st tt sat in equating_one gr law s str x remain st is r.1 n p n q r.0
  kids_up law str is there value (on a (ends_with p b q)) fit sat =
      let r = doing_down gr s remain x (on a (ends_with p b q)) st tt sat in equating_one gr law s str x remain st is r.1 a p b q r.0
  kids_up law str is there value (on b (leads q a)) fit sat =
      let r = doing_down gr s remain x (on b (leads q a)) st tt sat in leading_one gr law s str x remain st is r.1 b q a r.0
  kids_up law str is there value (on n (generates g)) fit sat =
      let r = doing_down gr s remain x (on n (generates g)) st tt sat in generate_one gr s x remain st is r.1 n g fit.0 r.0
  kids_up law str is there value (on n (generates_all g)) fit sat =
      let r = doing_down gr s remain x (on n (generates_all g)) st tt sat in list_one gr s x remain st is r.1 n g fit.1 r.0
  kids_up law str is there value (take n f d) fit sat =
      let r = doing_down gr s remain x (take n f d) st tt sat in
      let v = there n f fit.0 fit.1 fit.3 in
      let same : x.node v.0 ≡ r.0.0 = some_one (sym (value n f v.0 v.1) ∙ r.0.1) in
      taken_one gr law s str x remain st is r.1 d (class_value (class_of c) c.facts (class_of c n) f) v.0 r.0.0 v.1 same r.0.2
  kids_up law str is there value (derive e k g) fit sat =
      let r = doing_down gr s remain x (derive e k g) st tt sat in goal_one gr law s str x remain st is r.1 waiting e k g r.0
  kids_up law str is there value (called p ns) fit sat =
      let r = doing_down gr s remain x (called p ns) st tt sat in clauses_one gr law s str x remain st is r.1 waiting r.0.0 p ns r.0.1
  kids_up law str is there value (cuts k) fit sat = absurd sat.items
  kids_up law str is there value stop fit sat = absurd sat.items
  kids_up law str is there value (split n end) fit sat = split_one gr s x remain st gr.program.lists refl n end sat
  kids_up law str is there value (pivot sm t) fit sat =
      let r = doing_down gr s remain x (pivot sm t) st tt sat in pivot_one gr s x remain st is r.1 waiting words sm t fit.0 fit.1 r.0
  kids_up law str is there value (connect p us t) fit sat =
      let r = doing_down gr s remain x (connect p us t) st tt sat in connect_one gr s x remain st is r.1 waiting p us t fit.0 fit.1 fit.2 r.0
