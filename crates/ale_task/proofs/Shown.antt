-- What is shown of an answer is a total, extensional structure: its roots are nodes of the answer's graph.
use Rattle.std.proofs.Common.{◌≡◌, ℕ, ◌<◌, Bool, true, false, ◌&&◌, ltb, IsTrue, Option, Some, None, List, [], ◌∷◌, map, inl, inr, refl, sym, ap, subst, arith}
use Rattle.std.proofs.lemmas.Bool.Decides.{Decides-ltb}
use Rattle.ale_declared.specs.Lists.{Has, every}
use Rattle.ale_hierarchy.specs.Hierarchy.{Hierarchy, IsLawful}
use Rattle.ale_graph.specs.Structures.{Structure, IsStructure, is_node, is_root, count}
use Rattle.ale_graph.specs.Closure.{node_of}
use Rattle.ale_graph.proofs.Lists.{has_map, every_from}
use Rattle.ale_logic.specs.Programs.{Program}
use Rattle.ale_logic.specs.Fitting.{FitsProgram}
use Rattle.ale_logic.specs.Answers.{found_from}
use Rattle.ale_logic.specs.Growing.{rooted}
use Rattle.ale_logic.specs.Lexicons.{wordless}
use Rattle.ale_logic.specs.Parts.{placed}
use Rattle.ale_logic.specs.Runs.{IsAnswer, RunLaws}
use Rattle.ale_logic.specs.Shown.{Shown, shown_root, shown_slots}
use Rattle.ale_logic.specs.States.{State, bound, env_at}
use Rattle.ale_logic.specs.Starts.{start, start_goal}
use Rattle.ale_logic.specs.Steps.{IsGrammar}
use Rattle.ale_logic.specs.Visits.{Answer}
use Rattle.ale_logic.specs.WellFormed.{IsState}
use Rattle.ale_logic.specs.Words.{bound_in}
use Rattle.ale_run_law.proofs.First.{description_starts, goal_starts, only_state, came_from}
use Rattle.ale_task.specs.Tasks.{TaskData, mgsat, query, FitsTask, searched, shown_of, reply}
use Rattle.ale_task.specs.Laws.{ShownLaws}

last_by : (a b x y : Bool) → IsTrue (a && (b && x)) → IsTrue y → IsTrue (a && (b && y))
last_by true true x y h k = k
last_by true false x y h k = absurd cc
last_by false b x y h k = absurd cc

is_below : (a b : ℕ) → a < b → IsTrue (ltb a b)
is_below a b low = (Decides-ltb a b).1 low

-- roots are no part of what makes a structure total and extensional
pub rooted_structure : (h : Hierarchy) (s : Structure) (roots : List (Option ℕ)) → IsStructure h s → ((o : Option ℕ) → Has roots o → IsTrue (is_root (count s) o)) → IsStructure h (rooted s roots)
rooted_structure h s roots is inside = record {
  formed = last_by (every (is_node (count s)) s.nodes)
      (every (λ p. ltb p.0 (count s) && ltb p.1 (count s)) s.differ)
      (every (is_root (count s)) s.roots)
      (every (is_root (count s)) roots) is.formed (every_from (is_root (count s)) roots inside);
  total = record { types = is.total.types; there = is.total.there; only = is.total.only };
  extensional = is.extensional;
  apart = is.apart;
}

module _ (runs : RunLaws) (h : Hierarchy) (program : Program) (lawful : IsLawful h) (fits : FitsProgram h program) where
  grammar : IsGrammar (wordless h program)
  grammar = record { lawful = lawful; program = fits; words = λ e has. elim has [ inl k ↦ absurd k | inr k ↦ absurd k ] }

  answer_is : (st : State) → IsState h st → (budget : ℕ) (a : Answer) → Has (found_from h program budget st).answers a → IsAnswer (wordless h program) st a
  answer_is st is budget a has =
      (came_from (wordless h program) st a ((runs (wordless h program) (st ∷ []) budget grammar (only_state (wordless h program) st is)).comes a has)).is

  node_inside : (st : State) (a : Answer) → IsAnswer (wordless h program) st a → (n : ℕ) → n < a.state.next → node_of a.closed n < count a.closed.graph
  node_inside st a is n low = let longer = is.longer in is.nodes n (omega arith)

  one_root : (st : State) (a : Answer) → IsAnswer (wordless h program) st a → IsStructure h (shown_root a)
  one_root st a is = rooted_structure h a.closed.graph (Some (node_of a.closed 0) ∷ []) is.structure (λ o has. inside o has)
    where
      inside : (o : Option ℕ) → Has (Some (node_of a.closed 0) ∷ []) o → IsTrue (is_root (count a.closed.graph) o)
      inside o (inl e) =
          subst (λ z. IsTrue (is_root (count a.closed.graph) z)) (sym e) (is_below (node_of a.closed 0) (count a.closed.graph) (node_inside st a is 0 is.is.some_node))
      inside o (inr none) = absurd none

  slot_roots : (slots : List ℕ) (st : State) (a : Answer) → IsAnswer (wordless h program) st a → IsStructure h (shown_slots slots a)
  slot_roots slots st a is =
      rooted_structure h a.closed.graph (map root_of slots) is.structure (λ o has. let f = has_map root_of slots o has in subst (λ z. IsTrue (is_root (count a.closed.graph) z)) (sym f.2) (inside f.0 (bound a.state.envs 0 f.0) refl))
    where
      root_of : ℕ → Option ℕ
      root_of v = placed (node_of a.closed) (bound_in (env_at a.state.envs 0) v)

      inside : (v : ℕ) (o : Option ℕ) → bound a.state.envs 0 v ≡ o → IsTrue (is_root (count a.closed.graph) (placed (node_of a.closed) o))
      inside v None b = refl
      inside v (Some n) b = is_below (node_of a.closed n) (count a.closed.graph) (node_inside st a is n (is.is.below 0 v n b))

pub shown_laws : RunLaws → ShownLaws
shown_laws runs h program (mgsat d slots) budget lawful fits fit a has =
    one_root runs h program lawful fits (start slots d) a (answer_is runs h program lawful fits (start slots d) (description_starts h slots d fit).is.is budget a has)
shown_laws runs h program (query g slots printed) budget lawful fits fit a has =
    slot_roots runs h program lawful fits printed.slots (start_goal slots g) a (answer_is runs h program lawful fits (start_goal slots g) (goal_starts h slots g fit.0).is.is budget a has)

-- each structure that is shown is that of an answer
pub of_answer : (h : Hierarchy) (program : Program) (t : TaskData) (budget : ℕ) (x : Shown) → Has (reply h program t budget).answers x →
    (a : Answer) × Has (searched h program t budget).answers a × (x.structure ≡ shown_of t a)
of_answer h program (mgsat d slots) budget x has =
    let f = has_map (λ a. record { words = []; structure = shown_root a }) (searched h program (mgsat d slots) budget).answers x has in
    (f.0, f.1, ap (λ (z : Shown). z.structure) f.2)
of_answer h program (query g slots printed) budget x has =
    let f = has_map (λ a. record { words = []; structure = shown_slots printed.slots a }) (searched h program (query g slots printed) budget).answers x has in
    (f.0, f.1, ap (λ (z : Shown). z.structure) f.2)

pub answer_structure : ShownLaws → (h : Hierarchy) (program : Program) (t : TaskData) (budget : ℕ) → IsLawful h → FitsProgram h program → FitsTask h t →
    (x : Shown) → Has (reply h program t budget).answers x → IsStructure h x.structure
answer_structure laws h program t budget lawful fits fit x has =
    let f = of_answer h program t budget x has in
    subst (λ z. IsStructure h z) (sym f.2) (laws h program t budget lawful fits fit f.0 f.1)
