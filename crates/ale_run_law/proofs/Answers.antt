-- What the answers for a description and for a goal mean, from whole searches.
use Rattle.std.proofs.Common.{◌≡◌, ℕ, ◌<◌, true, [], ◌∷◌, inl, inr, refl, sym, ap, ◌∙◌, subst, arith, Option, Some, None}
use Rattle.std.proofs.Math.Path.{fun_ext}
use Rattle.ale_declared.specs.Lists.{Has}
use Rattle.ale_hierarchy.specs.Hierarchy.{Hierarchy}
use Rattle.ale_graph.specs.Structures.{Structure, IsStructure, count}
use Rattle.ale_graph.specs.Morphisms.{IsMorphismAside}
use Rattle.ale_graph.specs.Closure.{node_of}
use Rattle.ale_logic.specs.Descriptions.{Description, HoldsAt, IsAssignment, Describes, FitsDescription}
use Rattle.ale_logic.specs.Goals.{Goal, FitsGoal, IsPlain}
use Rattle.ale_logic.specs.Programs.{Program}
use Rattle.ale_logic.specs.Derivations.{Derivable}
use Rattle.ale_logic.specs.Models.{IsModel}
use Rattle.ale_logic.specs.Solutions.{IsRoot, SolvesGoal}
use Rattle.ale_logic.specs.States.{bound, State}
use Rattle.ale_logic.specs.Starts.{start, start_goal}
use Rattle.ale_logic.specs.StartLaws.{IsQuietStart}
use Rattle.ale_logic.specs.Lexicons.{wordless}
use Rattle.ale_logic.specs.Visits.{Answer}
use Rattle.ale_logic.specs.Satisfaction.{Sense, Satisfies}
use Rattle.ale_logic.specs.WellFormed.{ArePlainItems}
use Rattle.ale_logic.specs.Steps.{IsGrammar, IsBrought, IsInFragment}
use Rattle.ale_logic.specs.Runs.{IsReached, FreeSense, Returns, RunLaw, RunLaws}
use Rattle.ale_logic.specs.Answers.{IsAccepted, SubsumesAt, found_from, SolvesUnder, SolvesItself, SubsumesSolution, DescriptionLaws, node_for, SubsumesGoal, GoalLaws}
use Rattle.ale_run_law.proofs.First.{none_bound, description_starts, goal_starts, stands, Came, only_state, only_inside, came_from, root_inside, free_at, all_met}

module _ (runs : RunLaws) (h : Hierarchy) (program : Program) (accepted : IsAccepted h program) where
  pub wordless_grammar : IsGrammar (wordless h program)
  wordless_grammar = record { lawful = accepted.lawful; program = accepted.fits; words = λ e has. elim has [ inl k ↦ absurd k | inr k ↦ absurd k ] }

  pub none_brought : (s : Structure) (n k : ℕ) → IsBrought (wordless h program) s n k → ⊥
  none_brought s n k b = elim b.has [ inl k ↦ absurd k | inr k ↦ absurd k ]

  module _ (st : State) (is : IsQuietStart h st) (plain : ArePlainItems st.agenda) (budget : ℕ) where
    law : RunLaw (wordless h program) (st ∷ []) budget
    law = runs (wordless h program) (st ∷ []) budget wordless_grammar (only_state (wordless h program) st is.is.is)

    inside : IsInFragment (wordless h program) st
    inside = record { program = accepted.plain; items = plain }

    pub came : (a : Answer) → Has (found_from h program budget st).answers a → Came (wordless h program) st a
    came a has = came_from (wordless h program) st a (law.comes a has)

    pub returned : (a : Answer) → Has (found_from h program budget st).answers a → (s : Structure) (map : ℕ → ℕ) → IsStructure h s → IsMorphismAside h a.closed.graph s map → (free : FreeSense s a) → Returns (wordless h program) s st a map free
    returned a has s map str m free = (came a has).back inside s map (record { structure = str; is = m }) free

    pub found_at : (found_from h program budget st).finished ≡ true → (s : Structure) → IsModel h program s → (x : Sense) → Satisfies (wordless h program) s x st st.rest → IsReached (wordless h program) s st x st.rest (found_from h program budget st).answers
    found_at fin s model x sat = law.reached (only_inside (wordless h program) st inside) fin s st x st.rest (record { has = inl refl; is = record { model = model; satisfies = sat } })

    -- the graph of an answer is a model, where nothing was given
    pub answer_model : st.imposed ≡ [] → st.said ≡ [] → (a : Answer) → Has (found_from h program budget st).answers a → 0 < st.next → IsModel h program a.closed.graph
    answer_model none unsaid a has some =
        let c = came a has in
        let free = free_at a.closed.graph a (λ e v. node_of a.closed 0) (λ e v. root_inside (wordless h program) st a c 0 some) (c.is.said is.quiet ∙ unsaid) in
        let r = returned a has a.closed.graph (λ n. n) c.is.structure (stands h accepted.lawful a.closed.graph c.is.structure) free in
        c.is.model (all_met (wordless h program) none_brought a.closed.graph st a (λ n. n) free r (λ n k given. absurd (subst (λ ps. Has ps (n, k)) none given)))

  -- the node of each variable is one of the answer's graph
  own_nodes : (st : State) (a : Answer) → Came (wordless h program) st a → (free : ℕ → ℕ) → IsAssignment a.closed.graph free → IsAssignment a.closed.graph (node_for a free)
  own_nodes st a c free nodes v = go (bound a.state.envs 0 v) refl
    where
      go : (o : Option ℕ) → bound a.state.envs 0 v ≡ o → elim o [ None ↦ free v | Some n ↦ node_of a.closed n ] < count a.closed.graph
      go None b = nodes v
      go (Some n) b =
          let low = c.is.is.below 0 v n b in
          let longer = c.is.longer in
          c.is.nodes n (omega arith)

  module _ (slots : ℕ) (d : Description) (budget : ℕ) (fit : FitsDescription h slots d) where
    starts : IsQuietStart h (start slots d)
    starts = description_starts h slots d fit

    -- the description holds wherever the answer's graph goes
    pub described : (a : Answer) → Has (found_from h program budget (start slots d)).answers a → (s : Structure) (map : ℕ → ℕ) → IsStructure h s → IsMorphismAside h a.closed.graph s map → Describes h s d (map (node_of a.closed 0))
    described a has s map str m =
        let c = came (start slots d) starts (tt, tt) budget a has in
        let low : map (node_of a.closed 0) < count s = m.into (node_of a.closed 0) (root_inside (wordless h program) (start slots d) a c 0 (omega arith)) in
        let free = free_at s a (λ e v. map (node_of a.closed 0)) (λ e v. low) (c.is.said starts.quiet) in
        let r = returned (start slots d) starts (tt, tt) budget a has s map str m free in
        record { assign = r.sense.var 0; nodes = r.satisfies.nodes 0; holds = subst (HoldsAt h s (r.sense.var 0) d) (r.node 0) r.satisfies.items.0 }

    pub complete : (found_from h program budget (start slots d)).finished ≡ true → (s : Structure) (n : ℕ) (assign : ℕ → ℕ) → SolvesUnder h program d s n assign →
        (a : Answer) × Has (found_from h program budget (start slots d)).answers a × SubsumesSolution h a s n assign
    complete fin s n assign solves =
        let sat : Satisfies (wordless h program) s sense (start slots d) [] = record {
          fulfils = record { into = λ a low. solves.root.node; holds = λ x k. absurd k };
          nodes = λ e v. solves.nodes v;
          is_bound = λ e v m b. absurd (none_bound slots e v m b);
          is_said = λ g ps has. absurd has;
          items = (solves.holds, refl);
        } in
        let r = found_at (start slots d) starts (tt, tt) budget fin s solves.root.model sense sat in
        let next = (came (start slots d) starts (tt, tt) budget r.answer r.has).is.next in (
          r.answer,
          r.has,
          record {
            subsumes = record { map = r.map; is = r.is; root_to = r.lands 0 (omega arith) ∙ r.agrees.node 0 (omega arith) };
            is_bound = λ v m b. sym (ap (λ (f : ℕ → ℕ). f v) (r.agrees.var 0 (omega arith))) ∙ r.is_bound 0 v m b;
          },
        )
      where
        sense : Sense
        sense = record { node = λ k. n; var = λ e v. assign v; words = λ g. [] }

    -- the description holds wherever the answer goes, in each assignment that goes with it
    subsumed : (a : Answer) → Has (found_from h program budget (start slots d)).answers a → (s : Structure) (n : ℕ) (assign : ℕ → ℕ) → IsStructure h s → IsAssignment s assign → SubsumesSolution h a s n assign → HoldsAt h s assign d n
    subsumed a has s n assign str nodes by =
        let c = came (start slots d) starts (tt, tt) budget a has in
        let free = free_at s a (λ e v. assign v) (λ e v. nodes v) (c.is.said starts.quiet) in
        let r = returned (start slots d) starts (tt, tt) budget a has s by.subsumes.map str by.subsumes.is free in
        let there : HoldsAt h s (r.sense.var 0) d n = subst (HoldsAt h s (r.sense.var 0) d) (r.node 0 ∙ by.subsumes.root_to) r.satisfies.items.0 in
        subst (λ z. HoldsAt h s z d n) (fun_ext (λ v. same free r (λ u. refl) v (bound a.state.envs 0 v) refl)) there
      where
        same : (free : FreeSense s a) → (r : Returns (wordless h program) s (start slots d) a by.subsumes.map free) → ((u : ℕ) → free.node 0 u ≡ assign u) → (v : ℕ) → (o : Option ℕ) → bound a.state.envs 0 v ≡ o → r.sense.var 0 v ≡ assign v
        same free r chosen v None b = r.unbound 0 v b ∙ chosen v
        same free r chosen v (Some n) b = r.bound_to 0 v n b ∙ sym (by.is_bound v n b)

    sound : (a : Answer) → Has (found_from h program budget (start slots d)).answers a → SolvesItself h program d a
    sound a has =
        let c = came (start slots d) starts (tt, tt) budget a has in
        let root : IsRoot h program a.closed.graph (node_of a.closed 0) = record { model = answer_model (start slots d) starts (tt, tt) budget refl refl a has (omega arith); node = root_inside (wordless h program) (start slots d) a c 0 (omega arith) } in
        record {
          root = root;
          solves = λ free nodes. record {
            root = root;
            nodes = own_nodes (start slots d) a c free nodes;
            holds = subsumed a has a.closed.graph (node_of a.closed 0) (node_for a free) c.is.structure (own_nodes (start slots d) a c free nodes) (record {
              subsumes = record { map = λ n. n; is = stands h accepted.lawful a.closed.graph c.is.structure; root_to = refl };
              is_bound = λ v n b. ap (λ (o : Option ℕ). elim o [ None ↦ free v | Some m ↦ node_of a.closed m ]) b;
            });
          };
        }

  module _ (slots : ℕ) (g : Goal) (budget : ℕ) (fit : FitsGoal h slots g) (plain : IsPlain g) where
    goal_is : IsQuietStart h (start_goal slots g)
    goal_is = goal_starts h slots g fit

    -- the goal is derived wherever the answer's graph goes, in each assignment that goes with it
    derived : (a : Answer) → Has (found_from h program budget (start_goal slots g)).answers a → (s : Structure) (assign : ℕ → ℕ) → IsStructure h s → IsAssignment s assign → SubsumesGoal h a s assign → Derivable h program s assign g
    derived a has s assign str nodes by =
        let c = came (start_goal slots g) goal_is (plain, tt) budget a has in
        let free = free_at s a (λ e v. assign v) (λ e v. nodes v) (c.is.said goal_is.quiet) in
        let r = returned (start_goal slots g) goal_is (plain, tt) budget a has s by.map str by.is free in
        subst (λ z. Derivable h program s z g) (fun_ext (λ v. same free r (λ u. refl) v (bound a.state.envs 0 v) refl)) r.satisfies.items.0
      where
        same : (free : FreeSense s a) → (r : Returns (wordless h program) s (start_goal slots g) a by.map free) → ((u : ℕ) → free.node 0 u ≡ assign u) → (v : ℕ) → (o : Option ℕ) → bound a.state.envs 0 v ≡ o → r.sense.var 0 v ≡ assign v
        same free r chosen v None b = r.unbound 0 v b ∙ chosen v
        same free r chosen v (Some n) b = r.bound_to 0 v n b ∙ sym (by.is_bound v n b)

    -- in the answer's own graph each variable stands for its node
    sound_goal : (a : Answer) → Has (found_from h program budget (start_goal slots g)).answers a → (free : ℕ → ℕ) → IsAssignment a.closed.graph free → SolvesGoal h program g a.closed.graph (node_for a free)
    sound_goal a has free nodes =
        let c = came (start_goal slots g) goal_is (plain, tt) budget a has in
        record {
          model = answer_model (start_goal slots g) goal_is (plain, tt) budget refl refl a has (omega arith);
          nodes = own_nodes (start_goal slots g) a c free nodes;
          derived = derived a has a.closed.graph (node_for a free) c.is.structure (own_nodes (start_goal slots g) a c free nodes) (record {
            map = λ n. n;
            is = stands h accepted.lawful a.closed.graph c.is.structure;
            is_bound = λ v n b. ap (λ (o : Option ℕ). elim o [ None ↦ free v | Some m ↦ node_of a.closed m ]) b;
          });
        }

    complete_goal : (found_from h program budget (start_goal slots g)).finished ≡ true → (s : Structure) (assign : ℕ → ℕ) → SolvesGoal h program g s assign →
        (a : Answer) × Has (found_from h program budget (start_goal slots g)).answers a × SubsumesGoal h a s assign
    complete_goal fin s assign solves =
        let sat : Satisfies (wordless h program) s sense (start_goal slots g) [] = record {
          fulfils = record { into = λ a low. solves.model.some_node; holds = λ x k. absurd k };
          nodes = λ e v. solves.nodes v;
          is_bound = λ e v m b. absurd (none_bound slots e v m b);
          is_said = λ p ps has. absurd has;
          items = (solves.derived, refl);
        } in
        let r = found_at (start_goal slots g) goal_is (plain, tt) budget fin s solves.model sense sat in
        (r.answer, r.has, record { map = r.map; is = r.is; is_bound = λ v n b. sym (ap (λ (f : ℕ → ℕ). f v) (r.agrees.var 0 (omega arith))) ∙ r.is_bound 0 v n b })
      where
        sense : Sense
        sense = record { node = λ k. 0; var = λ e v. assign v; words = λ p. [] }

pub description_law : RunLaws → DescriptionLaws
description_law runs h program slots d budget accepted fit = record {
  sound = sound runs h program accepted slots d budget fit;
  complete = complete runs h program accepted slots d budget fit;
  subsumed = subsumed runs h program accepted slots d budget fit;
}

pub goal_law : RunLaws → GoalLaws
goal_law runs h program slots g budget accepted fit plain = record {
  sound = sound_goal runs h program accepted slots g budget fit plain;
  complete = complete_goal runs h program accepted slots g budget fit plain;
  subsumed = derived runs h program accepted slots g budget fit plain;
}
