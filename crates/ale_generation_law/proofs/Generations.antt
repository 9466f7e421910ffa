-- What the answers of a generation mean: complete, sound, and part of a solution.
use Rattle.std.proofs.Common.{◌≡◌, ℕ, ◌<◌, true, List, [], ◌∷◌, map, ◌⊎◌, inl, inr, refl, sym, ap, ◌∙◌, subst, arith}
use Rattle.ale_declared.specs.Lists.{Has}
use Rattle.ale_hierarchy.specs.Hierarchy.{Hierarchy}
use Rattle.ale_graph.specs.Structures.{Structure, IsStructure, count}
use Rattle.ale_graph.specs.Morphisms.{IsMorphismAside}
use Rattle.ale_graph.specs.Closure.{node_of}
use Rattle.ale_graph.proofs.Lists.{has_map}
use Rattle.ale_morphism.specs.VisibleLaws.{VisibleLaw}
use Rattle.ale_logic.specs.Descriptions.{Description, HoldsAt, FitsDescription}
use Rattle.ale_logic.specs.Programs.{Word, Program}
use Rattle.ale_logic.specs.Models.{MeetsConstraint, MeetsAt}
use Rattle.ale_logic.specs.Words.{Entry, IsEntry, Words, Grammar, HasEntry, HasEmpty}
use Rattle.ale_logic.specs.Lexical.{Lexical, IsEmptyCategory}
use Rattle.ale_logic.specs.Headed.{Headed}
use Rattle.ale_logic.specs.Solutions.{IsHeaded, SolvesGeneration}
use Rattle.ale_logic.specs.Spelling.{spelled}
use Rattle.ale_logic.specs.Starts.{start_gen}
use Rattle.ale_logic.specs.StartLaws.{IsStart}
use Rattle.ale_logic.specs.Visits.{Answer}
use Rattle.ale_logic.specs.Parts.{kept_answer}
use Rattle.ale_logic.specs.Shown.{words_of}
use Rattle.ale_logic.specs.Lexicons.{with_words}
use Rattle.ale_logic.specs.Satisfaction.{Sense, Satisfies}
use Rattle.ale_logic.specs.Steps.{IsGrammar, IsAccounted, IsInFragment, SpellingLaw}
use Rattle.ale_logic.specs.Runs.{FreeSense, Returns, RunLaw, RunLaws}
use Rattle.ale_logic.specs.Staying.{StaysLaw}
use Rattle.ale_logic.specs.Extending.{HasSoundExtension, OwesNothing}
use Rattle.ale_logic.specs.Answers.{IsAccepted, SubsumesAt}
use Rattle.ale_logic.specs.Growing.{GrowsTo}
use Rattle.ale_logic.specs.LexiconLaws.{AreSoundWords, AreAllWords}
use Rattle.ale_logic.specs.GenerationLaws.{generated_from, IsGenerated, GenerationLaws}
use Rattle.ale_extension_law.proofs.Stays.{stays_law, within}
use Rattle.ale_extension_law.proofs.Spells.{spelling_law}
use Rattle.ale_extension_law.proofs.Grows.{grows}
use Rattle.ale_run_law.proofs.First.{none_bound, generation_starts, stands, Came, only_state, only_inside, came_from, root_inside}
use Rattle.ale_run_law.proofs.Kept.{keepable}
use Rattle.ale_generation_law.proofs.HeadedOn.{headed_on}
use Rattle.ale_generation_law.proofs.Soon.{extends_self, Later, Soon, Stays, soon_now, soon_map, soon_both}
use Rattle.ale_generation_law.proofs.Rising.{headed_stays, headed_soon, brought_soon}

module _ (runs : RunLaws) (h : Hierarchy) (program : Program) (words : Words) (accepted : IsAccepted h program) (sound_words : AreSoundWords h program words) (slots : ℕ) (d : Description) (budget : ℕ) (fit : FitsDescription h slots d) where
  abbrev gr : Grammar
  gr = with_words h program words

  grammar : IsGrammar gr
  grammar = record { lawful = accepted.lawful; program = accepted.fits; words = λ e has. entry e has }
    where
      entry : (e : Entry) → Has words.entries e ⊎ Has words.empties e → IsEntry h e
      entry e (inl has) = (sound_words.entries e has).is
      entry e (inr has) = (sound_words.empties e has).is

  starts : IsStart h (start_gen slots d)
  starts = generation_starts h slots d fit

  law : RunLaw gr (start_gen slots d ∷ []) budget
  law = runs gr (start_gen slots d ∷ []) budget grammar (only_state gr (start_gen slots d) starts.is)

  inside : IsInFragment gr (start_gen slots d)
  inside = record { program = accepted.plain; items = (tt, (tt, tt)) }

  came : (a : Answer) → Has (generated_from h program words budget slots d).answers a → Came gr (start_gen slots d) a
  came a has = came_from gr (start_gen slots d) a (law.comes a has)

  spelling : (a : Answer) → Has (generated_from h program words budget slots d).answers a → SpellingLaw h a.state
  spelling a has = let c = came a has in spelling_law h a.state c.is.is (c.is.once starts.once)

  complete : AreAllWords h program words → (generated_from h program words budget slots d).finished ≡ true → (s : Structure) (n : ℕ) (ws : List Word) → SolvesGeneration h program d s n ws →
      (a : Answer) × Has (generated_from h program words budget slots d).answers a × (words_of a 0 ≡ ws) × SubsumesAt h a.closed.graph (node_of a.closed 0) s n
  complete all fin s n ws (root, describes, headed) =
      let r = law.reached (only_inside gr (start_gen slots d) inside) fin s (start_gen slots d) sense [] (record { has = inl refl; is = record { model = root.model; satisfies = sat } }) in
      let c = came r.answer r.has in
      let phrases = c.is.phrases in
      let same : r.sense.words 0 ≡ words_of r.answer 0 = (spelling r.answer r.has).only c.is.nothing r.sense.words r.satisfies.is_said 0 (omega arith) in
      let next = c.is.next in
      let node : r.map (node_of r.answer.closed 0) ≡ n = r.lands 0 (omega arith) ∙ r.agrees.node 0 (omega arith) in
      (r.answer, r.has, sym same ∙ r.agrees.words 0 (omega arith), record { map = r.map; is = r.is; root_to = node })
    where
      sense : Sense
      sense = record { node = λ k. n; var = λ e. describes.assign; words = λ g. ws }

      headed_here : Headed h program s (HasEntry gr s) (HasEmpty gr s) n ws
      headed_here =
          headed_on h program s s (extends_self h s root.model.structure) (Lexical h program s) (HasEntry gr s) (IsEmptyCategory h program s) (HasEmpty gr s) (λ w m low k. all.entries s root.model w m k) (λ m low k. all.empties s root.model m k) n ws headed

      sat : Satisfies gr s sense (start_gen slots d) []
      sat = record {
        fulfils = record { into = λ a low. root.node; holds = λ x k. absurd k };
        nodes = λ e v. describes.nodes v;
        is_bound = λ e v m b. absurd (none_bound slots e v m b);
        is_said = λ g ps k. absurd k;
        items = (describes.holds, (headed_here, refl));
      }

  module _ (a : Answer) (has : Has (generated_from h program words budget slots d).answers a) where
    low_root : node_of a.closed 0 < count a.closed.graph
    low_root = root_inside gr (start_gen slots d) a (came a has) 0 (omega arith)

    -- wherever the answer's graph goes, the start is satisfied with the answer's words
    abbrev free : (s : Structure) (to : ℕ → ℕ) → IsMorphismAside h a.closed.graph s to → FreeSense s a
    free s to m = record {
      node = λ e v. to (node_of a.closed 0);
      inside = λ e v. m.into (node_of a.closed 0) low_root;
      words = spelled a.state.phrases a.state.said;
      is_said = (spelling a has).spelled_as;
    }

    returned : (s : Structure) (to : ℕ → ℕ) → IsStructure h s → (m : IsMorphismAside h a.closed.graph s to) → Returns gr s (start_gen slots d) a to (free s to m)
    returned s to str m = (came a has).back inside s to (record { structure = str; is = m }) (free s to m)

    -- what was imposed is soon met
    pairs_soon : (s : Structure) (to : ℕ → ℕ) → IsStructure h s → (m : IsMorphismAside h a.closed.graph s to) → (pairs : List (ℕ × ℕ)) → ((p : ℕ × ℕ) → Has pairs p → Has a.state.imposed p) →
        Soon h program s (λ t. (n k : ℕ) → Has pairs (n, k) → MeetsAt h program t k (to (node_of a.closed n)))
    pairs_soon s to str m [] within_all = soon_now h program s (λ t. (n k : ℕ) → Has {A = ℕ × ℕ} [] (n, k) → MeetsAt h program t k (to (node_of a.closed n))) (λ u ext n k none. absurd none)
    pairs_soon s to str m (p ∷ ps) within_all =
        soon_map h program s (λ t. MeetsAt h program t p.1 (to (node_of a.closed p.0)) × ((n k : ℕ) → Has ps (n, k) → MeetsAt h program t k (to (node_of a.closed n))))
        (λ t. (n k : ℕ) → Has (p ∷ ps) (n, k) → MeetsAt h program t k (to (node_of a.closed n))) (λ u ext both n k there. go u both n k there)
        (soon_both h program s (λ t. MeetsAt h program t p.1 (to (node_of a.closed p.0))) (λ t. (n k : ℕ) → Has ps (n, k) → MeetsAt h program t k (to (node_of a.closed n))) stays_met (one_soon (r.accounted p (within_all p (inl refl))))
        (pairs_soon s to str m ps (λ q k. within_all q (inr k))))
      where
        r : Returns gr s (start_gen slots d) a to (free s to m)
        r = returned s to str m

        low : to (node_of a.closed p.0) < count s
        low =
            let below = (came a has).is.is.imposed p.0 p.1 (within_all p (inl refl)) in
            let longer = (came a has).is.longer in
            m.into (node_of a.closed p.0) ((came a has).is.nodes p.0 (omega arith))

        stays_met : Stays h program s (λ t. MeetsAt h program t p.1 (to (node_of a.closed p.0)))
        stays_met u v first ext met c at = (stays_law h program u v ext).meets c (to (node_of a.closed p.0)) (within h s u first (to (node_of a.closed p.0)) low) (met c at)

        one_soon : IsAccounted gr s r.sense (start_gen slots d).imposed p → Soon h program s (λ t. MeetsAt h program t p.1 (to (node_of a.closed p.0)))
        one_soon (inl none) = absurd none
        one_soon (inr (inl met)) =
            soon_now h program s (λ t. MeetsAt h program t p.1 (to (node_of a.closed p.0)))
            (λ u ext c at. (stays_law h program s u ext).meets c (to (node_of a.closed p.0)) low (subst (MeetsConstraint h program s c) (r.node p.0) (met c at)))
        one_soon (inr (inr brought)) =
            subst (λ z. Soon h program s (λ t. MeetsAt h program t p.1 z)) (r.node p.0) (brought_soon h program words sound_words s (r.sense.node p.0) p.1 brought)

        go : (u : Structure) → (MeetsAt h program u p.1 (to (node_of a.closed p.0)) × ((n k : ℕ) → Has ps (n, k) → MeetsAt h program u k (to (node_of a.closed n)))) → (n k : ℕ) → Has (p ∷ ps) (n, k) → MeetsAt h program u k (to (node_of a.closed n))
        go u both n k (inl same) = subst (λ (q : ℕ × ℕ). MeetsAt h program u q.1 (to (node_of a.closed q.0))) (sym same) both.0
        go u both n k (inr there) = both.1 n k there

    sound : (s : Structure) (to : ℕ → ℕ) → IsStructure h s → IsMorphismAside h a.closed.graph s to → HasSoundExtension h program (kept_answer a) s to (IsGenerated h program d (words_of a 0) (to (node_of a.closed 0)))
    sound s to str m = record {
      larger = t.larger;
      extends = t.extends;
      sound = record {
        added = t.added;
        images = λ n k c low at above.
            let i = (came a has).is.all_imposed n k c low at above in
            subst (λ z. MeetsConstraint h program t.larger c (to z)) i.2 (t.says.1 i.0 k i.1 c at);
        imposed = λ n k there.
            let f = has_map (λ (p : ℕ × ℕ). (node_of a.closed p.0, p.1)) a.state.imposed (n, k) there in
            subst (λ (q : ℕ × ℕ). MeetsAt h program t.larger q.1 (to q.0)) (sym f.2) (t.says.1 f.0.0 f.0.1 f.1);
      };
      says = record {
        describes = record {
          assign = r.sense.var 0;
          nodes = on.assigns (r.sense.var 0) (r.satisfies.nodes 0);
          holds = on.holds (r.sense.var 0) d (to (node_of a.closed 0)) (m.into (node_of a.closed 0) low_root) (subst (HoldsAt h s (r.sense.var 0) d) (r.node 0) r.satisfies.items.0);
        };
        headed = t.says.0;
      };
    }
      where
        r : Returns gr s (start_gen slots d) a to (free s to m)
        r = returned s to str m

        headed_here : Headed h program s (HasEntry gr s) (HasEmpty gr s) (to (node_of a.closed 0)) (words_of a 0)
        headed_here =
            subst (λ z. Headed h program s (HasEntry gr s) (HasEmpty gr s) z (words_of a 0)) (r.node 0)
            (subst (Headed h program s (HasEntry gr s) (HasEmpty gr s) (r.sense.node 0)) (r.words 0) r.satisfies.items.1.0)

        t : Later h program s (λ t. IsHeaded h program t (to (node_of a.closed 0)) (words_of a 0) × ((n k : ℕ) → Has a.state.imposed (n, k) → MeetsAt h program t k (to (node_of a.closed n))))
        t = soon_both h program s (λ t. IsHeaded h program t (to (node_of a.closed 0)) (words_of a 0)) (λ t. (n k : ℕ) → Has a.state.imposed (n, k) → MeetsAt h program t k (to (node_of a.closed n)))
            (headed_stays h program words sound_words s (to (node_of a.closed 0)) (words_of a 0)) (headed_soon h program words sound_words s (to (node_of a.closed 0)) (words_of a 0) headed_here)
            (pairs_soon s to str m a.state.imposed (λ p k. k)) s (extends_self h s str)

        on : StaysLaw h program s t.larger
        on = stays_law h program s t.larger t.extends

    -- what was kept owes nothing
    owes_nothing : OwesNothing h program (kept_answer a)
    owes_nothing n k c low at above =
        let i = (came a has).is.all_imposed n k c low at above in
        subst (λ z. Has {A = ℕ × ℕ} (kept_answer a).imposed (z, k)) i.2 (has_image a.state.imposed i.0 k i.1)
      where
        has_image : (ps : List (ℕ × ℕ)) (m j : ℕ) → Has ps (m, j) → Has {A = ℕ × ℕ} (map (λ (p : ℕ × ℕ). (node_of a.closed p.0, p.1)) ps) (node_of a.closed m, j)
        has_image [] m j none = absurd none
        has_image (p ∷ ps) m j (inl same) = inl (ap (λ (q : ℕ × ℕ). (node_of a.closed q.0, q.1)) same)
        has_image (p ∷ ps) m j (inr there) = inr (has_image ps m j there)

    solved : VisibleLaw → GrowsTo h a.closed.graph (node_of a.closed 0) (λ t. SolvesGeneration h program d t (node_of a.closed 0) (words_of a 0))
    solved visible =
        grows visible h program (kept_answer a) (node_of a.closed 0) (IsGenerated h program d (words_of a 0) (node_of a.closed 0)) (λ t. SolvesGeneration h program d t (node_of a.closed 0) (words_of a 0))
        (keepable gr (start_gen slots d) a (came a has).is 0 (let next = (came a has).is.next in omega arith)).is owes_nothing
        (sound a.closed.graph (λ n. n) (came a has).is.structure (stands h accepted.lawful a.closed.graph (came a has).is.structure))
        (λ t model larger says. (record { model = model; node = (let low = low_root in omega arith) }, says.describes, says.headed))

pub generation_law : RunLaws → VisibleLaw → GenerationLaws
generation_law runs visible h program words slots d budget accepted fit sound_words = record {
  sound = λ a has. sound runs h program words accepted sound_words slots d budget fit a has;
  solved = λ a has. solved runs h program words accepted sound_words slots d budget fit a has visible;
  complete = complete runs h program words accepted sound_words slots d budget fit;
}
