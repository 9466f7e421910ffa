-- Levels of the lexicon: sound entries each, and where they ended, all that is lexical in a model.
use Rattle.std.proofs.Common.{◌≡◌, ℕ, zero, suc, ◌+◌, ◌-◌, ◌<◌, ◌≤◌, true, List, [], ◌∷◌, ◌++◌, ◌⊎◌, inl, inr, refl, sym, ap, ◌∙◌, subst, arith, Option, Some, None}
use Rattle.std.proofs.lemmas.Bool.{and_parts}
use Rattle.ale_declared.specs.Lists.{Has}
use Rattle.ale_declared.proofs.ListLemmas.{Has-append_left, Has-append_right, Has-append_cases, Has-flat_map, flat_map_has}
use Rattle.ale_hierarchy.specs.Hierarchy.{Hierarchy}
use Rattle.ale_graph.specs.Structures.{Structure, count}
use Rattle.ale_engine.specs.Engine.{answers_in}
use Rattle.ale_engine.specs.Growth.{Found, run_all}
use Rattle.ale_engine.specs.GrowthLaws.{IsMade}
use Rattle.ale_engine.proofs.InTurn.{run_all_law}
use Rattle.ale_logic.specs.Descriptions.{HoldsAt}
use Rattle.ale_logic.specs.Programs.{Word, LexicalRule, Program}
use Rattle.ale_logic.specs.Models.{IsModel}
use Rattle.ale_logic.specs.Lexical.{LexicalAt}
use Rattle.ale_logic.specs.Words.{Entry, StandsAt, Grammar}
use Rattle.ale_logic.specs.States.{State}
use Rattle.ale_logic.specs.Starts.{start_lex}
use Rattle.ale_logic.specs.Visits.{Answer, visit}
use Rattle.ale_logic.specs.Parts.{Extract}
use Rattle.ale_logic.specs.Lexicons.{wordless, entry_of, EntryTask, rule_task_for, rule_task, rule_tasks, level_tasks, levels}
use Rattle.ale_logic.specs.Runs.{RunLaws}
use Rattle.ale_logic.specs.PartLaws.{PartLaw}
use Rattle.ale_logic.specs.Answers.{IsAccepted}
use Rattle.ale_lexicon_law.proofs.Rules.{IsEntryAt, entry_there, rule_full}

-- an entry of the word stands at the node
abbrev pub Stands : Hierarchy → List Entry → Structure → Word → ℕ → Type 0
Stands h xs s w n = (e : Entry) × Has xs e × (e.word ≡ w) × StandsAt h s e n

-- whatever is lexical at this level in a model has one of the entries there
abbrev pub IsFullAt : Hierarchy → Program → ℕ → List Entry → Type 0
IsFullAt h program level xs = (s : Structure) → IsModel h program s → (w : Word) (n : ℕ) → LexicalAt h program s level w n → Stands h xs s w n

abbrev pub AreEntriesAt : Hierarchy → Program → ℕ → List Entry → Type 0
AreEntriesAt h program level xs = (e : Entry) → Has xs e → IsEntryAt h program level e

-- a rule's search that is due, on an entry whose word it changes
pub record IsDue (extract : Extract) (program : Program) (xs : List Entry) (t : EntryTask) : Type 0 where
  pub entry : Entry
  pub has : Has xs entry
  pub rule : LexicalRule
  pub has_rule : Has program.lex_rules rule
  pub word : Word
  pub becomes : rule.becomes entry.word ≡ Some word
  pub is : t ≡ record { waiting = start_lex rule entry ∷ []; made = λ a. entry_of word (suc entry.level) (extract (count entry.kept.graph) a) }

task_due : (extract : Extract) (program : Program) (xs : List Entry) (x : Entry) → Has xs x → (rule : LexicalRule) → Has program.lex_rules rule → (o : Option Word) → rule.becomes x.word ≡ o → (t : EntryTask) → Has (rule_task_for extract x rule o) t → IsDue extract program xs t
task_due extract program xs x has rule has_rule None e t k = absurd k
task_due extract program xs x has rule has_rule (Some w) e t (inl same) = record { entry = x; has = has; rule = rule; has_rule = has_rule; word = w; becomes = e; is = same }
task_due extract program xs x has rule has_rule (Some w) e t (inr none) = absurd none

pub all_due : (extract : Extract) (program : Program) (xs : List Entry) (t : EntryTask) → Has (level_tasks extract program xs) t → IsDue extract program xs t
all_due extract program xs t k =
    let a = flat_map_has (rule_tasks extract program.lex_rules) xs t k in
    let b = flat_map_has (rule_task extract a.0) program.lex_rules t a.2 in
    task_due extract program xs a.0 a.1 b.0 b.1 (b.0.becomes a.0.word) refl t b.2

pub due_there : (extract : Extract) (program : Program) (xs : List Entry) (x : Entry) → Has xs x → (rule : LexicalRule) → Has program.lex_rules rule → (w : Word) → rule.becomes x.word ≡ Some w →
    Has (level_tasks extract program xs) (record { waiting = start_lex rule x ∷ []; made = λ a. entry_of w (suc x.level) (extract (count x.kept.graph) a) })
due_there extract program xs x has rule has_rule w e =
    Has-flat_map (rule_tasks extract program.lex_rules) xs x task has
    (Has-flat_map (rule_task extract x) program.lex_rules rule task has_rule (subst (λ o. Has (rule_task_for extract x rule o) task) (sym e) (inl refl)))
  where
    task : EntryTask
    task = record { waiting = start_lex rule x ∷ []; made = λ a. entry_of w (suc x.level) (extract (count x.kept.graph) a) }

module _ (runs : RunLaws) (extract : Extract) (h : Hierarchy) (program : Program) (accepted : IsAccepted h program) (keeps : PartLaw h program extract) where
  abbrev gr : Grammar
  gr = wordless h program

  -- the entries that one level's searches make of those of the level below
  level_sound : (level : ℕ) (xs : List Entry) → AreEntriesAt h program level xs → (left : ℕ) → AreEntriesAt h program (suc level) (run_all (visit gr) (level_tasks extract program xs) left).all
  level_sound level xs good left e has =
      let m = (run_all_law State Answer Entry (visit gr) (level_tasks extract program xs) left).made e has in
      made m (all_due extract program xs m.task m.has)
    where
      made : (m : IsMade State Answer Entry (visit gr) (level_tasks extract program xs) e) → IsDue extract program xs m.task → IsEntryAt h program (suc level) e
      made m due =
          let k = good due.entry due.has in
          let searched : m.task.waiting ≡ start_lex due.rule due.entry ∷ [] = ap (λ (t : EntryTask). t.waiting) due.is in
          let is : e ≡ entry_of due.word (suc due.entry.level) (extract (count due.entry.kept.graph) m.answer) = m.is ∙ ap (λ (t : EntryTask). t.made m.answer) due.is in
          subst (IsEntryAt h program (suc level)) (sym is)
          (entry_there runs extract h program accepted keeps due.rule due.has_rule due.entry k.is m.budget m.answer
          (subst (λ sts. Has (answers_in (visit gr) m.budget sts) m.answer) searched m.is_answer) due.word due.becomes level k)

  level_full : (level : ℕ) (xs : List Entry) → AreEntriesAt h program level xs → IsFullAt h program level xs → (left : ℕ) → (run_all (visit gr) (level_tasks extract program xs) left).finished ≡ true →
      IsFullAt h program (suc level) (run_all (visit gr) (level_tasks extract program xs) left).all
  level_full level xs good full left fin s model w n k = go (full s model k.word k.node k.lexical)
    where
      go : Stands h xs s k.word k.node → Stands h (run_all (visit gr) (level_tasks extract program xs) left).all s w n
      go (x, has, same, there) =
          let becomes : k.rule.becomes x.word ≡ Some w = ap k.rule.becomes same ∙ k.becomes in
          let run = (run_all_law State Answer Entry (visit gr) (level_tasks extract program xs) left).has_run fin _ (due_there extract program xs x has k.rule k.has w becomes) in
          let r = rule_full runs extract h program accepted keeps k.rule k.has x (good x has).is run.budget run.ended s model there.map there.is n k.inside k.assign k.nodes
          (subst (HoldsAt h s k.assign k.rule.input) (sym there.root_to) k.input) k.output k.derived in
          (entry_of w (suc x.level) (extract (count x.kept.graph) r.0), run.results r.0 r.1, refl, r.2 w)

  abbrev next : List Entry → ℕ → Found Entry
  next xs left = run_all (visit gr) (level_tasks extract program xs) left

  abbrev above : ℕ → List Entry → ℕ → Found Entry
  above more xs left = levels extract gr more (next xs left).all (left - (next xs left).visits)

  -- so many levels above these: each entry is of one of them
  pub levels_sound : (more level : ℕ) (xs : List Entry) → AreEntriesAt h program level xs → (left : ℕ) (e : Entry) → Has (levels extract gr more xs left).all e → (d : ℕ) × (d ≤ level + more) × IsEntryAt h program d e
  levels_sound zero level xs good left e has = absurd has
  levels_sound (suc more) level xs good left e has = go (levels_sound more (suc level)) (Has-append_cases (next xs left).all (above more xs left).all e has)
    where
      Later : Type 0
      Later = (ys : List Entry) → AreEntriesAt h program (suc level) ys → (rest : ℕ) (e : Entry) → Has (levels extract gr more ys rest).all e → (d : ℕ) × (d ≤ suc level + more) × IsEntryAt h program d e

      go : Later → Has (next xs left).all e ⊎ Has (above more xs left).all e → (d : ℕ) × (d ≤ level + suc more) × IsEntryAt h program d e
      go later (inl first) = (suc level, omega arith, level_sound level xs good left e first)
      go later (inr beyond) =
          let r = later (next xs left).all (level_sound level xs good left) (left - (next xs left).visits) e beyond in
          let few = r.1 in
          (r.0, omega arith, r.2)

  -- and all that is lexical at one of them has an entry
  pub levels_full : (more level : ℕ) (xs : List Entry) → AreEntriesAt h program level xs → IsFullAt h program level xs → (left : ℕ) → (levels extract gr more xs left).finished ≡ true → (d : ℕ) → d < more → IsFullAt h program (suc (level + d)) (levels extract gr more xs left).all
  levels_full zero level xs good full left fin d few s model w n k = absurd (omega arith)
  levels_full (suc more) level xs good full left fin d few s model w n k = go (levels_full more (suc level)) d few k
    where
      Later : Type 0
      Later = (ys : List Entry) → AreEntriesAt h program (suc level) ys → IsFullAt h program (suc level) ys → (rest : ℕ) → (levels extract gr more ys rest).finished ≡ true → (c : ℕ) → c < more → IsFullAt h program (suc (suc level + c)) (levels extract gr more ys rest).all

      fins : ((next xs left).finished ≡ true) × ((above more xs left).finished ≡ true)
      fins = and_parts (next xs left).finished (above more xs left).finished fin

      go : Later → (c : ℕ) → c < suc more → LexicalAt h program s (suc (level + c)) w n → Stands h ((next xs left).all ++ (above more xs left).all) s w n
      go later zero few k =
          let same : level + zero ≡ level = omega arith in
          let r = level_full level xs good full left fins.0 s model w n (subst (λ z. LexicalAt h program s (suc z) w n) same k) in
          (r.0, Has-append_left (next xs left).all (above more xs left).all r.0 r.1, r.2, r.3)
      go later (suc c) few k =
          let same : level + suc c ≡ suc level + c = omega arith in
          let r = later (next xs left).all (level_sound level xs good left) (level_full level xs good full left fins.0) (left - (next xs left).visits) fins.1 c (omega arith) s model w n (subst (λ z. LexicalAt h program s (suc z) w n) same k) in
          (r.0, Has-append_right (next xs left).all (above more xs left).all r.0 r.1, r.2, r.3)
