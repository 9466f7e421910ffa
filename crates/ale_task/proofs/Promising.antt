-- The promises of the reply to each command, from the laws of searches and of replies.
use Rattle.std.proofs.Common.{◌≡◌, ℕ, true, Some, List, [], ◌∷◌, map, refl, sym, subst}
use Rattle.std.proofs.lemmas.Bool.{and_parts}
use Rattle.ale_declared.specs.Lists.{Has}
use Rattle.ale_hierarchy.specs.Hierarchy.{Hierarchy}
use Rattle.ale_engine.proofs.Budget.{budget_law}
use Rattle.ale_graph.specs.Structures.{Structure, IsStructure}
use Rattle.ale_graph.specs.Closure.{node_of}
use Rattle.ale_graph.specs.Morphisms.{Subsumes}
use Rattle.ale_morphism.specs.Visible.{origin, visible}
use Rattle.ale_morphism.proofs.VisibleLaws.{kept_to_visible}
use Rattle.ale_logic.specs.Descriptions.{Description, Describes, FitsDescription}
use Rattle.ale_logic.specs.Goals.{Goal, FitsGoal, IsPlain}
use Rattle.ale_logic.specs.Programs.{Program}
use Rattle.ale_logic.specs.Answers.{IsAccepted, node_for, SolvesItself, DescriptionLaw, DescriptionLaws, GoalLaw, GoalLaws}
use Rattle.ale_logic.specs.Charts.{keep_all}
use Rattle.ale_logic.specs.Growing.{rooted}
use Rattle.ale_logic.specs.Lexicons.{wordless}
use Rattle.ale_logic.specs.Parts.{whole_of}
use Rattle.ale_logic.specs.Shown.{Shown, shown_root}
use Rattle.ale_logic.specs.States.{State}
use Rattle.ale_logic.specs.Visits.{Answer, visit}
use Rattle.ale_reply_law.specs.Marks.{MarksLaws}
use Rattle.ale_reply_law.specs.Replies.{RepliesLaw, WholeReplyLaws}
use Rattle.ale_task.specs.Tasks.{TaskData, mgsat, query, FitsPrinted, FitsTask, start_of, searched, reply}
use Rattle.ale_task.specs.declared.task.Printed.{Printed}
use Rattle.ale_task.specs.Promises.{IsCovered}
use Rattle.ale_task.specs.Satisfiers.{IsSatisfier}
use Rattle.ale_task.specs.Laws.{TaskLaw, TaskLaws, MarkLaws, ShownLaws}
use Rattle.ale_task.proofs.Satisfying.{subsumed_satisfier, visible_satisfier}
use Rattle.ale_task.proofs.Shown.{of_answer, answer_structure}

-- what is visible of an answer goes where the answer does
covered : (h : Hierarchy) (answers : List Shown) (s : Structure) (x : Shown) → Has answers x → IsStructure h x.structure → Subsumes h x.structure s → IsCovered h answers s
covered h answers s x has is sub = record {
  answer = x;
  has = has;
  subsumes = sub;
  visible_part = record { map = λ k. sub.map (origin x.structure k); is = kept_to_visible x.structure is.formed h s sub.map sub.is };
}

module _ (shows : ShownLaws) (descriptions : DescriptionLaws) (goals : GoalLaws) (replies : WholeReplyLaws)
    (h : Hierarchy) (program : Program) (accepted : IsAccepted h program) (budget : ℕ) where
  law : RepliesLaw whole_of keep_all h program
  law = replies h program accepted

  structure_of : (t : TaskData) → FitsTask h t → (x : Shown) → Has (reply h program t budget).answers x → IsStructure h x.structure
  structure_of t fit x has = answer_structure shows h program t budget accepted.lawful accepted.fits fit x has

  module _ (d : Description) (slots : ℕ) (fit : FitsDescription h slots d) where
    found : DescriptionLaw h program slots d budget
    found = descriptions h program slots d budget accepted fit

    -- the description holds at the root of what an answer shows
    described : (a : Answer) → SolvesItself h program d a → Describes h a.closed.graph d (node_of a.closed 0)
    described a itself =
        let under = itself.solves (λ v. node_of a.closed 0) (λ v. itself.root.node) in
        record { assign = node_for a (λ v. node_of a.closed 0); nodes = under.nodes; holds = under.holds }

    -- the answer whose structure is shown, and what is known of it
    record Told (x : Shown) : Type 0 where
      answer : Answer
      shown : x.structure ≡ shown_root answer
      structure : IsStructure h (shown_root answer)
      describes : Describes h answer.closed.graph d (node_of answer.closed 0)

    told : (x : Shown) → Has (reply h program (mgsat d slots) budget).answers x → Told x
    told x has =
        let f = of_answer h program (mgsat d slots) budget x has in
        record {
          answer = f.0;
          shown = f.2;
          structure = shows h program (mgsat d slots) budget accepted.lawful accepted.fits fit f.0 f.1;
          describes = described f.0 (found.sound f.0 f.1);
        }

    description_law : TaskLaw h program (mgsat d slots) budget
    description_law = record {
      sound = record {
        answers = found.sound;
        shown = (law.descriptions slots d budget fit).sound;
        bare = λ bare x has.
            let k = told x has in
            subst (λ z. IsSatisfier h program d (visible z)) (sym k.shown)
            (visible_satisfier h program accepted.lawful d bare k.answer.closed.graph (node_of k.answer.closed 0) k.structure k.describes);
      };
      complete = λ complete. record {
        answers = found.complete (and_parts (searched h program (mgsat d slots) budget).finished true complete).0;
        shown = λ s n solves.
            let r = (law.descriptions slots d budget fit).complete complete s n [] (solves, refl) in
            covered h (reply h program (mgsat d slots) budget).answers (rooted s (Some n ∷ [])) r.answer r.has (structure_of (mgsat d slots) fit r.answer r.has) r.subsumes;
      };
      subsumed = record {
        answers = found.subsumed;
        bare = λ bare x has s root is roots sub.
            let k = told x has in
            subsumed_satisfier h program accepted.lawful d bare k.answer.closed.graph (node_of k.answer.closed 0) k.structure k.describes s root is roots
            (subst (λ z. Subsumes h (visible z) s) k.shown sub);
      };
      enough = λ direct none few. law.enough slots d budget fit direct none few;
    }

  module _ (g : Goal) (slots : ℕ) (printed : Printed) (fit : FitsGoal h slots g × FitsPrinted slots printed) (plain : IsPlain g) where
    derived : GoalLaw h program slots g budget
    derived = goals h program slots g budget accepted fit.0 plain

    goal_law : TaskLaw h program (query g slots printed) budget
    goal_law = record {
      sound = record { answers = derived.sound; shown = (law.goals slots g printed.slots budget fit.0 plain).sound };
      complete = λ complete. record {
        answers = derived.complete (and_parts (searched h program (query g slots printed) budget).finished true complete).0;
        shown = λ s assign solves.
            let r = (law.goals slots g printed.slots budget fit.0 plain).complete complete s assign solves in
            covered h (reply h program (query g slots printed) budget).answers (rooted s (map (λ v. Some (assign v)) printed.slots)) r.answer r.has (structure_of (query g slots printed) fit r.answer r.has) r.subsumes;
      };
      subsumed = derived.subsumed;
      enough = tt;
    }

pub task_laws : ShownLaws → DescriptionLaws → GoalLaws → WholeReplyLaws → TaskLaws
task_laws shows descriptions goals replies h program (mgsat d slots) budget accepted fit plain =
    description_law shows descriptions goals replies h program accepted budget d slots fit
task_laws shows descriptions goals replies h program (query g slots printed) budget accepted fit plain =
    goal_law shows descriptions goals replies h program accepted budget g slots printed fit plain

pub mark_laws : MarksLaws → MarkLaws
mark_laws marks h program (mgsat d slots) budget = record {
  marked = (marks whole_of keep_all h program 0 budget).descriptions slots d;
  budgeted = budget_law State Answer (visit (wordless h program)) budget (start_of (mgsat d slots) ∷ []);
}
mark_laws marks h program (query g slots printed) budget = record {
  marked = (marks whole_of keep_all h program 0 budget).goals slots g printed.slots;
  budgeted = budget_law State Answer (visit (wordless h program)) budget (start_of (query g slots printed) ∷ []);
}
