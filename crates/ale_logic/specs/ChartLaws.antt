-- What the items of a chart mean: a passive one spans its places in a sound extension wherever its structure goes,
-- and at the end every span in a model has an item there, whatever is kept, as long as what isn't kept is replaced.
-- Source: soundness and completeness of chart parsing over most general satisfiers; this project's own form.
use Rattle.std.specs.Prelude.{◌≡◌, ℕ, ◌+◌, ◌-◌, ◌<◌, ◌≤◌, true, false, List, [], ◌∷◌, length}
use Rattle.ale_declared.specs.Lists.{Has}
use Rattle.ale_hierarchy.specs.Hierarchy.{Hierarchy, IsLawful}
use Rattle.ale_graph.specs.Structures.{Structure, IsStructure, count}
use Rattle.ale_graph.specs.Morphisms.{IsMorphismAside}
use Rattle.ale_graph.specs.Extensions.{Extends}
use Rattle.ale_logic.specs.Programs.{Word, Program}
use Rattle.ale_logic.specs.Models.{IsModel}
use Rattle.ale_logic.specs.Words.{Words, IsKept}
use Rattle.ale_logic.specs.Growing.{GrowsTo}
use Rattle.ale_logic.specs.Solutions.{SolvesSentence}
use Rattle.ale_logic.specs.States.{State}
use Rattle.ale_logic.specs.Visits.{Answer, visit}
use Rattle.ale_logic.specs.Lexicons.{wordless}
use Rattle.ale_engine.specs.GrowthLaws.{IsCutOff}
use Rattle.ale_logic.specs.Spans.{Spans}
use Rattle.ale_logic.specs.Parts.{Extract}
use Rattle.ale_logic.specs.Starts.{ChartItem}
use Rattle.ale_logic.specs.Charts.{Keep, keep_all, Chart, items, initial_items, tasks_of, processed, first_chart, chart}
use Rattle.ale_engine.specs.EngineLaws.{IsPrefix}
use Rattle.ale_logic.specs.Extending.{HasSoundExtension, OwesNothing}
use Rattle.ale_logic.specs.PartLaws.{AreElementsBelow, PartLaw}
use Rattle.ale_logic.specs.LexiconLaws.{AreSoundWords, AreAllWords}
use Rattle.ale_logic.specs.Answers.{IsAccepted, SubsumesAt}

-- a passive item over these places goes into the structure, its root to n
pub record IsCovered (h : Hierarchy) (all : List ChartItem) (s : Structure) (n i k : ℕ) : Type 0 where
  pub item : ChartItem
  pub has : Has all item
  pub passive : item.rest ≡ []
  pub from : item.from ≡ i
  pub to : item.to ≡ k
  pub subsumes : SubsumesAt h item.kept.graph item.root s n

-- One passive item does for another over the same places: wherever the other goes, it goes too, root to root.
pub record Replaces (h : Hierarchy) (y x : ChartItem) : Type 0 where
  pub passive : x.rest ≡ []
  pub also : y.rest ≡ []
  pub from : y.from ≡ x.from
  pub to : y.to ≡ x.to
  pub map : ℕ → ℕ
  pub root_to : map y.root ≡ x.root
  pub onward : (s : Structure) (g : ℕ → ℕ) → IsMorphismAside h x.kept.graph s g → IsMorphismAside h y.kept.graph s (λ n. g (map n))

-- what isn't kept is replaced by an earlier item, where the signature is lawful
abbrev pub KeepLaw : Hierarchy → Keep → Type 0
KeepLaw h keep = IsLawful h → (before : List ChartItem) (x : ChartItem) → keep before x ≡ false → (y : ChartItem) × Has before y × Replaces h y x

-- what is said of a passive item
pub record IsSoundPassive (h : Hierarchy) (program : Program) (sentence : List Word) (x : ChartItem) : Type 0 where
  pub owes : OwesNothing h program x.kept
  pub spans : (s : Structure) (map : ℕ → ℕ) → IsStructure h s → IsMorphismAside h x.kept.graph s map →
      HasSoundExtension h program x.kept s map (λ t. Spans h program t sentence (map x.root) x.from x.to)
  -- one over the whole sentence solves the command
  pub solved : x.from ≡ 0 → x.to ≡ length sentence → GrowsTo h x.kept.graph x.root (λ t. SolvesSentence h program sentence t x.root)

pub record IsSoundItem (h : Hierarchy) (program : Program) (sentence : List Word) (x : ChartItem) : Type 0 where
  pub is : IsKept h x.kept x.root
  pub rest_below : AreElementsBelow (count x.kept.graph) x.rest
  pub places : (x.from ≤ x.to) × (x.to ≤ length sentence)
  pub passive : x.rest ≡ [] → IsSoundPassive h program sentence x

-- every span of a model over places of the sentence is covered
abbrev pub CoversAll : Hierarchy → Program → List Word → List ChartItem → Type 0
CoversAll h program sentence all =
    (s : Structure) → IsModel h program s → (n i k : ℕ) → i ≤ length sentence → Spans h program s sentence n i k → IsCovered h all s n i k

-- the chart was finished with all words there, and what wasn't kept is replaced
pub record IsFull (h : Hierarchy) (program : Program) (words : Words) (keep : Keep) (c : Chart) : Type 0 where
  pub keeps : KeepLaw h keep
  pub all_words : AreAllWords h program words
  pub finished : c.finished ≡ true

-- an extension of the item's own structure, itself a model, is covered by one of the items
pub record IsSubsumed (h : Hierarchy) (program : Program) (all : List ChartItem) (x : ChartItem) : Type 0 where
  pub larger : Structure
  pub extends : Extends h x.kept.graph larger
  pub model : IsModel h program larger
  pub covered : IsCovered h all larger x.root x.from x.to

-- A Keep that replaces what it drops loses nothing: each passive item of the whole chart is subsumed by one that
-- is kept.
abbrev pub LosesNothing : Extract → Hierarchy → Program → Words → List Word → Chart → Type 0
LosesNothing extract h program words sentence c =
    (budget : ℕ) (x : ChartItem) → Has (items (chart extract keep_all h program words sentence budget)) x → x.rest ≡ [] → IsSubsumed h program (items c) x

pub record ChartLaw (extract : Extract) (h : Hierarchy) (program : Program) (words : Words) (sentence : List Word) (keep : Keep) (c : Chart) : Type 0 where
  pub sound : (x : ChartItem) → Has (items c) x → IsSoundItem h program sentence x
  pub complete : IsFull h program words keep c → CoversAll h program sentence (items c)
  pub loses_nothing : IsFull h program words keep c → LosesNothing extract h program words sentence c

-- a search that is due has a state left to visit: one of an item, with those before it, after so many items
pub record IsChartCutOff (extract : Extract) (keep : Keep) (h : Hierarchy) (program : Program) (c : Chart) : Type 0 where
  pub number : ℕ
  pub item : ChartItem
  pub later : List ChartItem
  pub waits : (processed extract keep (wordless h program) number c).todo ≡ item ∷ later
  pub cut_off :
      IsCutOff State Answer ChartItem (visit (wordless h program)) (tasks_of extract program (processed extract keep (wordless h program) number c).done item) (processed extract keep (wordless h program) number c).left

-- both charts have the same items, in as many visits of their budgets
pub record IsSameChart (budget : ℕ) (c : Chart) (other : ℕ) (d : Chart) : Type 0 where
  pub items_are : items d ≡ items c
  pub visits : other - d.left ≡ budget - c.left
  pub finished : d.finished ≡ c.finished

-- How many visits a chart makes, and what another budget changes. `c budget` is the chart.
pub record ChartBudgetLaw (extract : Extract) (keep : Keep) (h : Hierarchy) (program : Program) (words : Words) (sentence : List Word) (c : ℕ → Chart) (budget : ℕ) : Type 0 where
  pub within : (c budget).left ≤ budget
  -- no more items are new than visits were made
  pub few : length (items (c budget)) ≤ length (initial_items words program 0 sentence) + (budget - (c budget).left)
  -- every item is processed
  pub processed_all : (c budget).todo ≡ []
  pub spent : (c budget).finished ≡ false → (c budget).left ≡ 0
  pub unfinished : (c budget).finished ≡ false → IsChartCutOff extract keep h program (first_chart program words sentence budget)
  pub ended : (c budget).finished ≡ true → IsChartCutOff extract keep h program (first_chart program words sentence budget) → ⊥
  -- the visits of a finished chart are just as many as it needs, and it is the same with any budget that has them
  pub needed : (c budget).finished ≡ true → (fewer : ℕ) → fewer < budget - (c budget).left → (c fewer).finished ≡ false
  pub settled : (c budget).finished ≡ true → (other : ℕ) → budget - (c budget).left ≤ other → IsSameChart budget (c budget) other (c other)
  -- a larger budget gives more items behind these
  pub further : (larger : ℕ) → budget ≤ larger → IsPrefix (items (c budget)) (items (c larger))

abbrev pub ChartBudgetLaws : Type 0
ChartBudgetLaws =
    (extract : Extract) (keep : Keep) (h : Hierarchy) (program : Program) (words : Words) (sentence : List Word) (budget : ℕ) →
    ChartBudgetLaw extract keep h program words sentence (chart extract keep h program words sentence) budget

abbrev pub ChartLaws : Type 0
ChartLaws =
    (extract : Extract) (keep : Keep) (h : Hierarchy) (program : Program) (words : Words) (sentence : List Word) (budget : ℕ) →
    IsAccepted h program → PartLaw h program extract → AreSoundWords h program words →
    ChartLaw extract h program words sentence keep (chart extract keep h program words sentence budget)
