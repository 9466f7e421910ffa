-- What is kept of the answers for a description, whatever is kept.
use Rattle.std.proofs.Common.{◌≡◌, ℕ, ◌<◌, true, sym, ap, ◌∙◌, subst, arith, Some}
use Rattle.ale_declared.specs.Lists.{Has}
use Rattle.ale_hierarchy.specs.Hierarchy.{Hierarchy}
use Rattle.ale_graph.specs.Structures.{Structure, IsStructure, count}
use Rattle.ale_graph.specs.Morphisms.{IsMorphismAside}
use Rattle.ale_graph.specs.Closure.{node_of}
use Rattle.ale_graph.proofs.Lists.{has_map}
use Rattle.ale_engine.proofs.Lists.{in_map}
use Rattle.ale_logic.specs.Descriptions.{Description, Describes, FitsDescription}
use Rattle.ale_logic.specs.Programs.{Element, cat, cats, derived, sem_head, member, tail, Program}
use Rattle.ale_logic.specs.Solutions.{SolvesDescription}
use Rattle.ale_logic.specs.Words.{Grammar}
use Rattle.ale_logic.specs.States.{bound, env_at, State}
use Rattle.ale_logic.specs.Starts.{start}
use Rattle.ale_logic.specs.Lexicons.{wordless}
use Rattle.ale_logic.specs.Visits.{Answer}
use Rattle.ale_logic.specs.Parts.{Extract, renamed, kept_answer}
use Rattle.ale_logic.specs.WellFormed.{scope_of, FitsRest}
use Rattle.ale_logic.specs.Steps.{IsAllImposed}
use Rattle.ale_logic.specs.Runs.{IsAnswer, RunLaws}
use Rattle.ale_logic.specs.Extending.{HasSoundExtension, OwesNothing}
use Rattle.ale_logic.specs.PartLaws.{IsElementBelow, IsPart, IsKeepable, PartLaw}
use Rattle.ale_logic.specs.Answers.{IsAccepted, SubsumesAt, found_from}
use Rattle.ale_logic.specs.LexiconLaws.{KeptLaws}
use Rattle.ale_run_law.proofs.First.{Came, free_at, all_met, description_starts, root_inside}
use Rattle.ale_run_law.proofs.Answers as answers
use Rattle.ale_extension_law.proofs.Wholes.{placed_bound}
use Rattle.ale_run_law.proofs.Rises.{rise}

-- All of an answer can be kept: what its state names has its class in its graph.
pub keepable : (gr : Grammar) (st : State) (a : Answer) → IsAnswer gr st a → (root : ℕ) → root < a.state.next → IsKeepable gr.signature root a
keepable gr st a is root low = record {
  is = record {
    structure = is.structure;
    root_below = inside root low;
    env_below = λ v n b. variable v n (placed_bound (node_of a.closed) (env_at a.state.envs 0) v n b);
    imposed_below = λ n k has. imposed n k (has_map (λ (p : ℕ × ℕ). (node_of a.closed p.0, p.1)) a.state.imposed (n, k) has);
  };
  rest_below = λ e has. element e (has_map (renamed (node_of a.closed)) a.state.rest e has);
}
  where
    inside : (n : ℕ) → n < a.state.next → node_of a.closed n < count a.closed.graph
    inside n low = is.nodes n (let longer = is.longer in omega arith)

    variable : (v n : ℕ) → (m : ℕ) × (bound a.state.envs 0 v ≡ Some m) × (node_of a.closed m ≡ n) → n < count a.closed.graph
    variable v n (m, b, e) = subst (λ z. z < count a.closed.graph) e (inside m (is.is.below 0 v m b))

    imposed : (n k : ℕ) → (p : ℕ × ℕ) × Has a.state.imposed p × (let q : ℕ × ℕ = (n, k) in q ≡ (node_of a.closed p.0, p.1)) → n < count a.closed.graph
    imposed n k (p, has, e) =
        let first : n ≡ node_of a.closed p.0 = ap (λ (q : ℕ × ℕ). q.0) e in
        subst (λ z. z < count a.closed.graph) (sym first) (inside p.0 (is.is.imposed p.0 p.1 has))

    named : (e : Element) → FitsRest gr.signature (scope_of a.state) e → IsElementBelow (count a.closed.graph) (renamed (node_of a.closed) e)
    named (member n) fit = inside n fit
    named (tail n) fit = inside n fit
    named (cat d) fit = tt
    named (cats d) fit = tt
    named (sem_head d) fit = tt
    named (derived g) fit = tt

    element : (e : Element) → (x : Element) × Has a.state.rest x × (e ≡ renamed (node_of a.closed) x) → IsElementBelow (count a.closed.graph) e
    element e (x, has, same) = subst (IsElementBelow (count a.closed.graph)) (sym same) (named x (is.is.rest x has))

-- an answer owes nothing, and so does what is kept of it
pub owes_nothing : (gr : Grammar) (a : Answer) → IsAllImposed gr a → OwesNothing gr.signature gr.program (kept_answer a)
owes_nothing gr a imposed n k c low at above =
    let i = imposed n k c low at above in
    subst (λ z. Has (kept_answer a).imposed (z, k)) i.2 (in_map (λ (p : ℕ × ℕ). (node_of a.closed p.0, p.1)) a.state.imposed (i.0, k) i.1)

module _ (runs : RunLaws) (extract : Extract) (h : Hierarchy) (program : Program) (slots : ℕ) (d : Description) (budget : ℕ) (accepted : IsAccepted h program) (keeps : PartLaw h program extract) (fit : FitsDescription h slots d) where
  pub arrived : (a : Answer) → Has (found_from h program budget (start slots d)).answers a → Came (wordless h program) (start slots d) a
  arrived a has = answers.came runs h program accepted (start slots d) (description_starts h slots d fit) (tt, tt) budget a has

  pub part_of : (a : Answer) → Has (found_from h program budget (start slots d)).answers a → IsPart h program 0 a (extract 0 a)
  part_of a has =
      let c = arrived a has in
      let next = c.is.next in
      keeps 0 a (keepable (wordless h program) (start slots d) a c.is 0 (omega arith))

  sound : (a : Answer) → Has (found_from h program budget (start slots d)).answers a → (s : Structure) (to : ℕ → ℕ) → IsStructure h s → IsMorphismAside h (extract 0 a).kept.graph s to →
      HasSoundExtension h program (extract 0 a).kept s to (λ t. Describes h t d (to (extract 0 a).root))
  sound a has s to str m =
      let c = arrived a has in
      let part = part_of a has in
      let r = part.reattached s to str m in
      let low : r.map (node_of a.closed 0) < count r.larger = r.is.into (node_of a.closed 0) (root_inside (wordless h program) (start slots d) a c 0 (omega arith)) in
      let free = free_at r.larger a (λ e v. r.map (node_of a.closed 0)) (λ e v. low) (c.is.said (description_starts h slots d fit).quiet) in
      let back = answers.returned runs h program accepted (start slots d) (description_starts h slots d fit) (tt, tt) budget a has r.larger r.map r.extends.larger r.is free in
      let met = all_met (wordless h program) (answers.none_brought runs h program accepted) r.larger (start slots d) a r.map free back (λ n k given. absurd given) in
      let root : r.map (node_of a.closed 0) ≡ to (extract 0 a).root = ap r.map (sym part.root_is) ∙ r.agrees (extract 0 a).root part.is.root_below in
      record {
        larger = r.larger;
        extends = r.extends;
        sound = rise (wordless h program) accepted.lawful 0 a (extract 0 a) c.is.structure part c.is.all_imposed s to r met;
        says = subst (Describes h r.larger d) root (answers.described runs h program accepted slots d budget fit a has r.larger r.map r.extends.larger r.is);
      }

  complete : (found_from h program budget (start slots d)).finished ≡ true → (s : Structure) (n : ℕ) → SolvesDescription h program d s n →
      (a : Answer) × Has (found_from h program budget (start slots d)).answers a × SubsumesAt h (extract 0 a).kept.graph (extract 0 a).root s n
  complete fin s n solves =
      let r = answers.complete runs h program accepted slots d budget fit fin s n solves.1.assign (record { root = solves.0; nodes = solves.1.nodes; holds = solves.1.holds }) in
      let part = part_of r.0 r.1 in
      let by = r.2.subsumes in
      (r.0, r.1, record { map = λ k. by.map ((extract 0 r.0).whole k); is = part.onward s by.map by.is; root_to = ap by.map part.root_is ∙ by.root_to })

pub kept_law : RunLaws → KeptLaws
kept_law runs extract h program slots d budget accepted keeps fit = record {
  sound = sound runs extract h program slots d budget accepted keeps fit;
  complete = complete runs extract h program slots d budget accepted keeps fit;
}
