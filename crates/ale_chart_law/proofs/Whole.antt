-- The law of the chart: its items are sound, a finished one with all words covers whatever spans in a model, and a Keep
-- that replaces what it drops loses nothing.
use Rattle.std.proofs.Common.{◌≡◌, ℕ, suc, ◌+◌, List, [], ◌++◌, map, length, ap, ◌∙◌, subst, arith, Some}
use Rattle.std.proofs.lemmas.List.{append-nil}
use Rattle.ale_declared.specs.Lists.{Has}
use Rattle.ale_hierarchy.specs.Hierarchy.{Hierarchy}
use Rattle.ale_graph.specs.Structures.{Structure, IsStructure}
use Rattle.ale_graph.specs.Morphisms.{IsMorphismAside}
use Rattle.ale_morphism.specs.VisibleLaws.{VisibleLaw}
use Rattle.ale_logic.specs.Programs.{Word, Program}
use Rattle.ale_logic.specs.Words.{Words}
use Rattle.ale_logic.specs.Spans.{Spans}
use Rattle.ale_logic.specs.Solutions.{SolvesSentence}
use Rattle.ale_logic.specs.Growing.{GrowsTo}
use Rattle.ale_logic.specs.Extending.{HasSoundExtension}
use Rattle.ale_logic.specs.Parts.{Extract}
use Rattle.ale_logic.specs.PartLaws.{PartLaw}
use Rattle.ale_logic.specs.Runs.{RunLaws}
use Rattle.ale_logic.specs.Lexicons.{wordless}
use Rattle.ale_logic.specs.LexiconLaws.{AreSoundWords}
use Rattle.ale_logic.specs.Answers.{IsAccepted}
use Rattle.ale_logic.specs.Starts.{ChartItem}
use Rattle.ale_logic.specs.Charts.{Keep, keep_all, Chart, items, initial_items, first_chart, processed, chart}
use Rattle.ale_logic.specs.ChartLaws.{IsSoundPassive, IsSoundItem, CoversAll, IsFull, IsSubsumed, ChartLaw, ChartLaws}
use Rattle.ale_extension_law.proofs.Grows.{grows, sound_model}
use Rattle.ale_extension_law.proofs.Puts.{put_law}
use Rattle.ale_run_law.proofs.First.{stands}
use Rattle.ale_chart_law.proofs.Items.{rest_below}
use Rattle.ale_chart_law.proofs.Covering.{IsClosedChart, span_on}
use Rattle.ale_chart_law.proofs.Good.{Says, IsGood}
use Rattle.ale_chart_law.proofs.Grown.{items_stay, AreMade, all_made, all_good}
use Rattle.ale_chart_law.proofs.Beginning.{first_good, word_there, between_there, rule_there}
use Rattle.ale_engine.proofs.Lists.{has_left, in_map}
use Rattle.ale_logic.specs.Charts.{passive_of, one_node, rules_from, between}
use Rattle.ale_chart_law.proofs.Budgets.{all_processed}

module _ (runs : RunLaws) (visible : VisibleLaw) (extract : Extract) (h : Hierarchy) (program : Program) (words : Words) (sentence : List Word) (ok : IsAccepted h program) (part : PartLaw h program extract) (sound_words : AreSoundWords h program words) where
  abbrev begun : ℕ → Chart
  begun budget = first_chart program words sentence budget

  -- the chart within the budget
  abbrev whole : Keep → ℕ → Chart
  whole keep budget = processed extract keep (wordless h program) (length (initial_items words program 0 sentence) + budget) (begun budget)

  good : (keep : Keep) (budget : ℕ) (x : ChartItem) → Has (items (whole keep budget)) x → IsGood h program sentence x
  good keep budget x has = all_good h program ok runs put_law extract part sentence keep (length (initial_items words program 0 sentence) + budget) (begun budget) (λ y at. first_good h program ok words sound_words sentence y at) x has

  -- what a passive item spans in an extension that is sound for it
  spans : (x : ChartItem) → IsGood h program sentence x → x.rest ≡ [] → (s : Structure) (to : ℕ → ℕ) → IsStructure h s → IsMorphismAside h x.kept.graph s to → HasSoundExtension h program x.kept s to (λ t. Spans h program t sentence (to x.root) x.from x.to)
  spans x g none s to str mor =
      let r = g.rises s to str mor in
      record {
        larger = r.larger;
        extends = r.extends;
        sound = record { added = r.added; images = λ n k c low at above. r.imposed n k (g.owes none n k c low at above) c at; imposed = r.imposed };
        says = subst (Says h program sentence x r.larger to) none r.says;
      }

  -- and in one of its own structure
  own_spans : (x : ChartItem) → IsGood h program sentence x → x.rest ≡ [] → HasSoundExtension h program x.kept x.kept.graph (λ n. n) (λ t. Spans h program t sentence x.root x.from x.to)
  own_spans x g none = spans x g none x.kept.graph (λ n. n) g.item.is.structure (stands h ok.lawful x.kept.graph g.item.is.structure)

  sound_passive : (x : ChartItem) → IsGood h program sentence x → x.rest ≡ [] → IsSoundPassive h program sentence x
  sound_passive x g none = record {
    owes = g.owes none;
    spans = spans x g none;
    solved = λ from to. solved from to;
  }
    where
      solved : x.from ≡ 0 → x.to ≡ length sentence → GrowsTo h x.kept.graph x.root (λ t. SolvesSentence h program sentence t x.root)
      solved from to =
          grows visible h program x.kept x.root (λ t. Spans h program t sentence x.root x.from x.to) (λ t. SolvesSentence h program sentence t x.root) g.item.is (g.owes none) (own_spans x g none)
          (λ t model more says.
          let low = g.item.is.root_below in
          (record { model = model; node = omega arith }, subst (λ i. Spans h program t sentence x.root i (length sentence)) from (subst (λ k. Spans h program t sentence x.root x.from k) to says)))

  sound_item : (x : ChartItem) → IsGood h program sentence x → IsSoundItem h program sentence x
  sound_item x g = record { is = g.item.is; rest_below = rest_below h program x g.item; places = (g.ordered, g.place); passive = λ none. sound_passive x g none }

  module _ (keep : Keep) (budget : ℕ) (full : IsFull h program words keep (whole keep budget)) where
    made : AreMade h program extract keep (whole keep budget)
    made = all_made h program extract keep (full.keeps ok.lawful) (length (initial_items words program 0 sentence) + budget) (begun budget) (record { own_ran = λ x has t task. absurd has; meets_ran = λ x y has_x has_y t task. absurd has_x }) full.finished

    nothing_waits : (whole keep budget).todo ≡ []
    nothing_waits = all_processed extract keep h program (length (initial_items words program 0 sentence) + budget) (begun budget) (omega arith)

    -- every item was processed
    in_done : (x : ChartItem) → Has (items (whole keep budget)) x → Has (whole keep budget).done x
    in_done x has = subst (λ z. Has z x) (ap (λ z. (whole keep budget).done ++ z) nothing_waits ∙ append-nil (whole keep budget).done) has

    -- the first items stay
    stays : (x : ChartItem) → Has (initial_items words program 0 sentence) x → Has (items (whole keep budget)) x
    stays x has = items_stay h program extract keep (length (initial_items words program 0 sentence) + budget) (begun budget) x has

    closed : IsClosedChart h program extract words sentence (items (whole keep budget))
    closed = record {
      item = λ x has. (good keep budget x has).item;
      place = λ x has. (good keep budget x has).place;
      own_ran = λ x has t task. made.own_ran x (in_done x has) t task;
      meets_ran = λ x y has_x has_y t task. made.meets_ran x y (in_done x has_x) (in_done y has_y) t task;
      at_word = λ i w at e has is.
          let same : 0 + i ≡ i = omega arith in
          stays (passive_of i (suc i) e) (subst (λ n. Has (initial_items words program 0 sentence) (passive_of n (suc n) e)) same (word_there program words 0 sentence i w at e has is));
      at_empty = λ i low e has.
          let same : i ≡ 0 + i = omega arith in
          stays (passive_of i i e)
          (between_there program words 0 sentence i low (passive_of i i e)
          (subst (λ n. Has (between words program n) (passive_of i i e)) same (has_left (map (passive_of i i) words.empties) (rules_from i 0 program.rules) (passive_of i i e) (in_map (passive_of i i) words.empties e has))));
      at_rule = λ i low r has.
          let same : i ≡ 0 + i = omega arith in
          let t = rule_there program words i r has in
          let x : ChartItem = record { from = i; to = i; kept = one_node r.slots; root = 0; rule = Some t.0; rest = r.elements } in
          (t.0, t.1, stays x (between_there program words 0 sentence i low x (subst (λ n. Has (between words program n) x) same t.2)));
    }

    covers_all : CoversAll h program sentence (items (whole keep budget))
    covers_all s model n i k low says = span_on h program ok runs put_law extract part words sentence (items (whole keep budget)) closed s model full.all_words n i k low says

    subsumed : (other : ℕ) (x : ChartItem) → Has (items (whole keep_all other)) x → x.rest ≡ [] → IsSubsumed h program (items (whole keep budget)) x
    subsumed other x has none =
        let g = good keep_all other x has in
        let e = own_spans x g none in
        let model = sound_model h program x.kept x.root e.larger g.item.is (g.owes none) e.extends e.sound in
        let ordered = g.ordered in
        let place = g.place in
        record { larger = e.larger; extends = e.extends; model = model; covered = covers_all e.larger model x.root x.from x.to (omega arith) e.says }

  chart_is : (keep : Keep) (budget : ℕ) → ChartLaw extract h program words sentence keep (chart extract keep h program words sentence budget)
  unfolding chart
  chart_is keep budget = record {
    sound = λ x has. sound_item x (good keep budget x has);
    complete = λ full. covers_all keep budget full;
    loses_nothing = λ full other x has none. subsumed keep budget full other x has none;
  }

-- of every chart
pub chart_law : RunLaws → VisibleLaw → ChartLaws
chart_law runs visible extract keep h program words sentence budget ok part sound_words = chart_is runs visible extract h program words sentence ok part sound_words keep budget
