-- What the entries and empties of a lexicon mean: wherever the structure of one goes, its word is lexical there in
-- an extension that is sound for it, and where the lexicon is finished, every word that is lexical in a model has
-- an entry there. Source: this project's own.
use Rattle.std.specs.Prelude.{◌≡◌, ℕ, zero, suc, ◌<◌, ◌≤◌, ◌-◌, ◌⊎◌, true, false, List, [], ◌∷◌, map, length, ◌+◌}
use Rattle.ale_declared.specs.Lists.{Has}
use Rattle.ale_hierarchy.specs.Hierarchy.{Hierarchy}
use Rattle.ale_graph.specs.Structures.{Structure, IsStructure}
use Rattle.ale_graph.specs.Morphisms.{IsMorphismAside}
use Rattle.ale_logic.specs.Programs.{Word, EmptyDeclaration, Program}
use Rattle.ale_logic.specs.Models.{IsModel}
use Rattle.ale_logic.specs.Words.{Entry, Words, Grammar, IsEntry, StandsAt, HasEntry, HasEmpty}
use Rattle.ale_logic.specs.Lexical.{Lexical, LexicalAt, IsEmptyBy, IsEmptyCategory}
use Rattle.ale_logic.specs.Parts.{Extract}
use Rattle.ale_logic.specs.Lexicons.{Lexicon, empty_task, word_task, level_tasks, declared_words, declared_empties, lexicon, wordless, with_words}
use Rattle.ale_logic.specs.Extending.{HasSoundExtension, OwesNothing}
use Rattle.ale_logic.specs.PartLaws.{PartLaw}
use Rattle.ale_logic.specs.Answers.{IsAccepted, SubsumesAt, found_from}
use Rattle.ale_logic.specs.Descriptions.{Description, Describes, FitsDescription}
use Rattle.ale_logic.specs.Solutions.{SolvesDescription, SolvesWord}
use Rattle.ale_logic.specs.Starts.{start}
use Rattle.ale_logic.specs.States.{State}
use Rattle.ale_engine.specs.Growth.{Found, run_all}
use Rattle.ale_engine.specs.GrowthLaws.{IsMade, IsCutOff}
use Rattle.ale_logic.specs.Growing.{GrowsTo}
use Rattle.ale_logic.specs.Visits.{Answer, visit}

-- wherever the entry's structure goes, some sound extension has what is said of it where its root goes
abbrev pub IsSoundAs : Hierarchy → Program → Entry → (Structure → ℕ → Type 0) → Type 0
IsSoundAs h program e Says =
    (s : Structure) (map : ℕ → ℕ) → IsStructure h s → IsMorphismAside h e.kept.graph s map → HasSoundExtension h program e.kept s map (λ t. Says t (map e.root))

-- What is kept of the answers for a description: it holds at the root wherever that goes, and where the search ended,
-- something of it is wherever the description holds in a model.
pub record KeptLaw (extract : Extract) (h : Hierarchy) (program : Program) (slots : ℕ) (d : Description) (budget : ℕ) : Type 0 where
  pub sound : (a : Answer) → Has (found_from h program budget (start slots d)).answers a → (s : Structure) (to : ℕ → ℕ) → IsStructure h s → IsMorphismAside h (extract 0 a).kept.graph s to →
      HasSoundExtension h program (extract 0 a).kept s to (λ t. Describes h t d (to (extract 0 a).root))
  pub complete : (found_from h program budget (start slots d)).finished ≡ true → (s : Structure) (n : ℕ) → SolvesDescription h program d s n →
      (a : Answer) × Has (found_from h program budget (start slots d)).answers a × SubsumesAt h (extract 0 a).kept.graph (extract 0 a).root s n

abbrev pub KeptLaws : Type 0
KeptLaws = (extract : Extract) (h : Hierarchy) (program : Program) (slots : ℕ) (d : Description) (budget : ℕ) → IsAccepted h program → PartLaw h program extract → FitsDescription h slots d → KeptLaw extract h program slots d budget

pub record IsSoundEntry (h : Hierarchy) (program : Program) (e : Entry) : Type 0 where
  pub is : IsEntry h e
  pub owes : OwesNothing h program e.kept
  pub level : e.level ≤ program.lex_depth
  pub sound : IsSoundAs h program e (λ t n. LexicalAt h program t e.level e.word n)

pub record IsSoundEmpty (h : Hierarchy) (program : Program) (e : Entry) : Type 0 where
  pub is : IsEntry h e
  pub owes : OwesNothing h program e.kept
  pub sound : IsSoundAs h program e (IsEmptyCategory h program)

pub record AreSoundWords (h : Hierarchy) (program : Program) (words : Words) : Type 0 where
  pub entries : (e : Entry) → Has words.entries e → IsSoundEntry h program e
  pub empties : (e : Entry) → Has words.empties e → IsSoundEmpty h program e

-- what is lexical or empty in a model has an entry or an empty there
pub record AreAllWords (h : Hierarchy) (program : Program) (words : Words) : Type 0 where
  pub entries : (s : Structure) → IsModel h program s → (w : Word) (n : ℕ) → Lexical h program s w n → HasEntry (with_words h program words) s w n
  pub empties : (s : Structure) → IsModel h program s → (n : ℕ) → IsEmptyCategory h program s n → HasEmpty (with_words h program words) s n

-- the empty was made of an answer for this declaration
abbrev pub IsEmptyFrom : Extract → Hierarchy → Program → EmptyDeclaration → Entry → Type 0
IsEmptyFrom extract h program declaration e = IsMade State Answer Entry (visit (wordless h program)) (empty_task extract declaration ∷ []) e

-- the empty is of one of the declarations, whose description holds at its root in a sound extension
pub record IsSoundEmptyFrom (extract : Extract) (h : Hierarchy) (program : Program) (e : Entry) : Type 0 where
  pub declaration : EmptyDeclaration
  pub has : Has program.empties declaration
  pub from : IsEmptyFrom extract h program declaration e
  pub sound : IsSoundAs h program e (IsEmptyBy h declaration)

-- an empty of this declaration stands at the node
abbrev pub HasEmptyFrom : Extract → Hierarchy → Program → Words → EmptyDeclaration → Structure → ℕ → Type 0
HasEmptyFrom extract h program words declaration s n = (e : Entry) × Has words.empties e × IsEmptyFrom extract h program declaration e × StandsAt h s e n

pub record LexiconLaw (extract : Extract) (h : Hierarchy) (program : Program) (l : Lexicon) : Type 0 where
  pub sound : AreSoundWords h program l.words
  pub complete : l.finished ≡ true → AreAllWords h program l.words
  -- of each declaration of an empty category
  pub sound_empties : (e : Entry) → Has l.words.empties e → IsSoundEmptyFrom extract h program e
  pub all_empties : l.finished ≡ true → (declaration : EmptyDeclaration) → Has program.empties declaration → (s : Structure) → IsModel h program s → (n : ℕ) →
      IsEmptyBy h declaration s n → HasEmptyFrom extract h program l.words declaration s n
  -- what is looked up solves the command
  pub solved : (e : Entry) → Has l.words.entries e → GrowsTo h e.kept.graph e.root (λ t. SolvesWord h program e.word t e.root)

-- a search of the levels has a state left to visit
abbrev pub IsLevelCutOff : Extract → Grammar → ℕ → List Entry → ℕ → Type 0
IsLevelCutOff extract gr zero xs left = ⊥
IsLevelCutOff extract gr (suc more) xs left =
    let next : Found Entry = run_all (visit gr) (level_tasks extract gr.program xs) left in
    IsCutOff State Answer Entry (visit gr) (level_tasks extract gr.program xs) left ⊎ IsLevelCutOff extract gr more next.all (left - next.visits)

-- a search that is due, of a word, of an empty or of a level, has a state left to visit
abbrev pub IsLexiconCutOff : Extract → Grammar → ℕ → Type 0
IsLexiconCutOff extract gr budget =
    let words : Found Entry = declared_words extract gr budget in
    let empties : Found Entry = declared_empties extract gr (budget - words.visits) in
    IsCutOff State Answer Entry (visit gr) (map (word_task extract) gr.program.words) budget
    ⊎ (IsCutOff State Answer Entry (visit gr) (map (empty_task extract) gr.program.empties) (budget - words.visits)
    ⊎ IsLevelCutOff extract gr gr.program.lex_depth words.all ((budget - words.visits) - empties.visits))

pub record LexiconBudgetLaw (extract : Extract) (h : Hierarchy) (program : Program) (budget : ℕ) : Type 0 where
  pub within : (lexicon extract h program budget).visits ≤ budget
  -- no more entries and empties than visits
  pub few : length (lexicon extract h program budget).words.entries + length (lexicon extract h program budget).words.empties ≤ (lexicon extract h program budget).visits
  pub spent : (lexicon extract h program budget).finished ≡ false → (lexicon extract h program budget).visits ≡ budget
  pub unfinished : (lexicon extract h program budget).finished ≡ false → IsLexiconCutOff extract (wordless h program) budget
  pub ended : (lexicon extract h program budget).finished ≡ true → IsLexiconCutOff extract (wordless h program) budget → ⊥
  -- the visits of a finished lexicon are just as many as it needs, and it is the same with any budget that has them
  pub needed : (lexicon extract h program budget).finished ≡ true → (fewer : ℕ) → fewer < (lexicon extract h program budget).visits → (lexicon extract h program fewer).finished ≡ false
  pub settled : (lexicon extract h program budget).finished ≡ true → (other : ℕ) → (lexicon extract h program budget).visits ≤ other → lexicon extract h program other ≡ lexicon extract h program budget

abbrev pub LexiconLaws : Type 0
LexiconLaws = (extract : Extract) (h : Hierarchy) (program : Program) (budget : ℕ) → IsAccepted h program → PartLaw h program extract → LexiconLaw extract h program (lexicon extract h program budget)

abbrev pub LexiconBudgetLaws : Type 0
LexiconBudgetLaws = (extract : Extract) (h : Hierarchy) (program : Program) (budget : ℕ) → LexiconBudgetLaw extract h program budget
