-- What a search for a description means, from the law of whole searches: the program says nothing, so each
-- total, extensional structure is a model.
use Rattle.std.proofs.Common.{◌≡◌, ℕ, zero, suc, ◌+◌, ◌*◌, ◌<◌, ◌≤◌, true, List, [], ◌∷◌, map, inl, inr, refl, sym, ap, ◌∙◌, subst, arith, Option, Some, None, get_or}
use Rattle.ale_declared.specs.Lists.{Has}
use Rattle.ale_hierarchy.specs.Hierarchy.{Hierarchy, IsLawful}
use Rattle.ale_graph.specs.Structures.{Structure, IsStructure, count}
use Rattle.ale_graph.specs.Morphisms.{IsMorphismAside}
use Rattle.ale_graph.specs.Closure.{node_of}
use Rattle.ale_engine.specs.Engine.{search}
use Rattle.ale_engine.proofs.EngineLaw.{engine_law}
use Rattle.ale_logic.specs.declared.answer.Answer as told
use Rattle.ale_logic.specs.Descriptions.{Description, HoldsAt, FitsDescription, HasNoChoice, parts}
use Rattle.ale_logic.specs.Models.{IsModel}
use Rattle.ale_logic.specs.Satisfaction.{Sense, Satisfies}
use Rattle.ale_logic.specs.States.{State, env_at}
use Rattle.ale_logic.specs.Starts.{start}
use Rattle.ale_logic.specs.Words.{bound_in}
use Rattle.ale_logic.specs.Visits.{Answer, visit}
use Rattle.ale_logic.specs.Runs.{IsReached, RunLaws}
use Rattle.ale_logic.specs.Answers.{IsAccepted, SubsumesAt, found_from, EnoughLaw}
use Rattle.ale_run_law.proofs.First.{none_bound, description_starts, stands, root_inside, free_at}
use Rattle.ale_run_law.proofs.Answers.{came, returned, found_at}
use Rattle.ale_search.specs.Outcomes.{seen_answer, found}
use Rattle.ale_search.specs.Solutions.{IsSolution, IsBound, IsAnswer, AnswersAreSolutions, SubsumesSolution, SolutionsAreAnswered, SubsumedAreSolutions, SearchLaw, SearchLaws}
use Rattle.ale_search.specs.Views.{bare, empty_program}
use Rattle.ale_search.proofs.Bare.{accepted_none, model_of}

-- what is told of an answer comes from one
pub told_by : (xs : List Answer) (c : told.Answer) → Has (map seen_answer xs) c → (a : Answer) × Has xs a × (seen_answer a ≡ c)
told_by [] c has = absurd has
told_by (x ∷ xs) c (inl e) = (x, inl refl, sym e)
told_by (x ∷ xs) c (inr has) = let (a, there, e) = told_by xs c has in (a, inr there, e)

pub is_told : (xs : List Answer) (a : Answer) → Has xs a → Has (map seen_answer xs) (seen_answer a)
is_told [] a has = absurd has
is_told (x ∷ xs) a (inl e) = inl (ap seen_answer e)
is_told (x ∷ xs) a (inr has) = inr (is_told xs a has)

-- the description holds wherever the answer's graph goes, and each bound variable stands for where its node goes
record Carried (h : Hierarchy) (d : Description) (a : Answer) (s : Structure) (to : ℕ → ℕ) : Type 0 where
  assign : ℕ → ℕ
  nodes : (v : ℕ) → assign v < count s
  inside : to (node_of a.closed 0) < count s
  holds : HoldsAt h s assign d (to (node_of a.closed 0))
  is_bound : IsBound (env_at a.state.envs 0) assign (λ n. to (node_of a.closed n))

module _ (runs : RunLaws) (h : Hierarchy) (law : IsLawful h) (slots : ℕ) (d : Description) (budget : ℕ) (fit : FitsDescription h slots d) where
  carried : (a : Answer) → Has (found_from h empty_program budget (start slots d)).answers a → (s : Structure) (to : ℕ → ℕ) → IsStructure h s → IsMorphismAside h a.closed.graph s to → Carried h d a s to
  carried a has s to str m =
      let starts = description_starts h slots d fit in
      let acc = accepted_none h law in
      let c = came runs h empty_program acc (start slots d) starts (tt, tt) budget a has in
      let low : to (node_of a.closed 0) < count s = m.into (node_of a.closed 0) (root_inside (bare h) (start slots d) a c 0 (omega arith)) in
      let free = free_at s a (λ e v. to (node_of a.closed 0)) (λ e v. low) (c.is.said starts.quiet) in
      let r = returned runs h empty_program acc (start slots d) starts (tt, tt) budget a has s to str m free in
      record {
        assign = r.sense.var 0;
        nodes = r.satisfies.nodes 0;
        inside = low;
        holds = subst (HoldsAt h s (r.sense.var 0) d) (r.node 0) r.satisfies.items.0;
        is_bound = λ v n b. r.bound_to 0 v n b;
      }

  one_sound : (a : Answer) → Has (found_from h empty_program budget (start slots d)).answers a → IsAnswer h empty_program d (seen_answer a)
  one_sound a has =
      let starts = description_starts h slots d fit in
      let c = came runs h empty_program (accepted_none h law) (start slots d) starts (tt, tt) budget a has in
      let k = carried a has a.closed.graph (λ n. n) c.is.structure (stands h law a.closed.graph c.is.structure) in
      let inside = k.inside in
      record {
        assign = k.assign;
        is = record { model = model_of h a.closed.graph c.is.structure (omega arith); node = k.inside; nodes = k.nodes; holds = k.holds };
        is_bound = k.is_bound;
      }

  sound : AnswersAreSolutions h empty_program d (found h budget slots d).answers
  sound c has =
      let (a, there, e) = told_by (found_from h empty_program budget (start slots d)).answers c has in
      subst (IsAnswer h empty_program d) e (one_sound a there)

  complete : (found h budget slots d).finished ≡ true → SolutionsAreAnswered h empty_program d (found h budget slots d).answers
  complete fin s n assign sol =
      let sat : Satisfies (bare h) s sense (start slots d) [] = record {
        fulfils = record { into = λ a low. sol.node; holds = λ x k. absurd k };
        nodes = λ e v. sol.nodes v;
        is_bound = λ e v m b. absurd (none_bound slots e v m b);
        is_said = λ g ps has. absurd has;
        items = (sol.holds, refl);
      } in
      let r = found_at runs h empty_program (accepted_none h law) (start slots d) (description_starts h slots d fit) (tt, tt) budget fin s sol.model sense sat in
      let next = (came runs h empty_program (accepted_none h law) (start slots d) (description_starts h slots d fit) (tt, tt) budget r.answer r.has).is.next in (
        seen_answer r.answer,
        is_told (found_from h empty_program budget (start slots d)).answers r.answer r.has,
        record {
          subsumes = record { map = r.map; is = r.is; root_to = r.lands 0 (omega arith) ∙ r.agrees.node 0 (omega arith) };
          is_bound = λ v a b. sym (ap (λ (f : ℕ → ℕ). f v) (r.agrees.var 0 (omega arith))) ∙ r.is_bound 0 v a b;
        },
      )
    where
      sense : Sense
      sense = record { node = λ k. n; var = λ e v. assign v; words = λ g. [] }

  one_subsumed : (a : Answer) → Has (found_from h empty_program budget (start slots d)).answers a → (s : Structure) (n : ℕ) → IsModel h empty_program s → (by : SubsumesAt h a.closed.graph (node_of a.closed 0) s n) →
      (assign : ℕ → ℕ) × IsSolution h empty_program d s n assign × IsBound (env_at a.state.envs 0) assign (λ k. by.map (node_of a.closed k))
  one_subsumed a has s n model by =
      let k = carried a has s by.map model.structure by.is in
      (k.assign, record { model = model; node = subst (λ z. z < count s) by.root_to k.inside; nodes = k.nodes; holds = subst (HoldsAt h s k.assign d) by.root_to k.holds }, k.is_bound)

  -- of what is told of an answer
  abbrev Subsumed : told.Answer → Type 0
  Subsumed c = (s : Structure) (n : ℕ) → IsModel h empty_program s → (by : SubsumesAt h c.closed.graph (node_of c.closed 0) s n) →
      (assign : ℕ → ℕ) × IsSolution h empty_program d s n assign × IsBound c.env assign (λ k. by.map (node_of c.closed k))

  subsumed : SubsumedAreSolutions h empty_program d (found h budget slots d).answers
  subsumed c has =
      let (a, there, e) = told_by (found_from h empty_program budget (start slots d)).answers c has in
      subst Subsumed e (one_subsumed a there)

pub search_law : RunLaws → EnoughLaw → SearchLaws
search_law runs enough h slots d budget law fit = record {
  sound = sound runs h law slots d budget fit;
  complete = complete runs h law slots d budget fit;
  subsumed = subsumed runs h law slots d budget fit;
  enough = λ plain low. enough h empty_program slots d budget (accepted_none h law) fit plain refl low;
  budgeted = (engine_law State Answer Answer (visit (bare h))).budgets budget (start slots d ∷ []);
}
