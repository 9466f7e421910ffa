-- The law of the lexicon: declared words and empty categories, the levels above, and what is looked up.
use Rattle.std.proofs.Common.{◌≡◌, ℕ, zero, suc, ◌+◌, ◌-◌, ◌<◌, ◌≤◌, true, ◌&&◌, [], ◌∷◌, ◌++◌, map, inl, inr, refl, sym, ap, ◌∙◌, subst, arith}
use Rattle.std.proofs.lemmas.Bool.{and_parts}
use Rattle.ale_declared.specs.Lists.{Has}
use Rattle.ale_declared.proofs.ListLemmas.{Has-append_left, Has-append_right, Has-append_cases, Has-map, map_has}
use Rattle.ale_hierarchy.specs.Hierarchy.{Hierarchy}
use Rattle.ale_graph.specs.Structures.{Structure, count}
use Rattle.ale_morphism.specs.VisibleLaws.{VisibleLaw}
use Rattle.ale_engine.specs.Engine.{answers_in}
use Rattle.ale_engine.specs.Growth.{Found}
use Rattle.ale_engine.specs.GrowthLaws.{IsMade}
use Rattle.ale_engine.proofs.InTurn.{run_all_law}
use Rattle.ale_logic.specs.Descriptions.{Description, FitsDescription}
use Rattle.ale_logic.specs.Programs.{Word, WordDeclaration, EmptyDeclaration, Program}
use Rattle.ale_logic.specs.Models.{IsModel}
use Rattle.ale_logic.specs.Lexical.{LexicalAt, IsEmptyBy}
use Rattle.ale_logic.specs.Solutions.{SolvesWord}
use Rattle.ale_logic.specs.Words.{Entry, IsEntry, StandsAt, Grammar}
use Rattle.ale_logic.specs.States.{State}
use Rattle.ale_logic.specs.Starts.{start}
use Rattle.ale_logic.specs.Visits.{Answer, visit}
use Rattle.ale_logic.specs.Parts.{Extract}
use Rattle.ale_logic.specs.Lexicons.{wordless, entry_of, EntryTask, word_task, empty_task, levels, declared_words, declared_empties, lexicon}
use Rattle.ale_logic.specs.Growing.{GrowsTo}
use Rattle.ale_logic.specs.Runs.{RunLaws}
use Rattle.ale_logic.specs.Extending.{OwesNothing}
use Rattle.ale_logic.specs.PartLaws.{PartLaw}
use Rattle.ale_logic.specs.Answers.{IsAccepted, found_from}
use Rattle.ale_logic.specs.LexiconLaws.{IsSoundAs, KeptLaw, IsSoundEntry, IsEmptyFrom, IsSoundEmptyFrom, LexiconLaws}
use Rattle.ale_graph.specs.Extensions.{Extends}
use Rattle.ale_extension_law.proofs.Grows.{grows}
use Rattle.ale_extension_law.proofs.Stays as stays
use Rattle.ale_run_law.proofs.First.{stands}
use Rattle.ale_run_law.proofs.Kept.{owes_nothing, part_of, arrived, kept_law}
use Rattle.ale_lexicon_law.proofs.Rules.{IsEntryAt}
use Rattle.ale_lexicon_law.proofs.Levels.{Stands, IsFullAt, AreEntriesAt, levels_sound, levels_full}

module _ (law : VisibleLaw) (runs : RunLaws) (extract : Extract) (h : Hierarchy) (program : Program) (accepted : IsAccepted h program) (keeps : PartLaw h program extract) where
  abbrev gr : Grammar
  gr = wordless h program

  wider : (s t : Structure) → Extends h s t → (n : ℕ) → n < count s → n < count t
  wider s t ext n low = stays.within h s t ext n low

  -- what is kept of an answer for a description, as an entry
  module _ (slots : ℕ) (d : Description) (fit : FitsDescription h slots d) (budget : ℕ) where
    law_of : KeptLaw extract h program slots d budget
    law_of = kept_law runs extract h program slots d budget accepted keeps fit

    is_entry : (w : Word) (level : ℕ) (a : Answer) → Has (found_from h program budget (start slots d)).answers a → IsEntry h (entry_of w level (extract 0 a))
    is_entry w level a has = (part_of runs extract h program slots d budget accepted keeps fit a has).is

    owes_none : (a : Answer) → Has (found_from h program budget (start slots d)).answers a → OwesNothing h program (extract 0 a).kept
    owes_none a has = (part_of runs extract h program slots d budget accepted keeps fit a has).owes (owes_nothing gr a (arrived runs extract h program slots d budget accepted keeps fit a has).is.all_imposed)

  -- the entries of declared words

  word_sound : (left : ℕ) → AreEntriesAt h program 0 (declared_words extract gr left).all
  word_sound left e has =
      let m = (run_all_law State Answer Entry (visit gr) (map (word_task extract) program.words) left).made e has in
      made m (map_has (word_task extract) program.words m.task m.has)
    where
      made : (m : IsMade State Answer Entry (visit gr) (map (word_task extract) program.words) e) → (w : WordDeclaration) × Has program.words w × (m.task ≡ word_task extract w) → IsEntryAt h program 0 e
      made m (w, has_word, same) =
          let fit = accepted.fits.words w has_word in
          let searched : m.task.waiting ≡ start w.slots w.desc ∷ [] = ap (λ (t : EntryTask). t.waiting) same in
          let found : Has (found_from h program m.budget (start w.slots w.desc)).answers m.answer = subst (λ sts. Has (answers_in (visit gr) m.budget sts) m.answer) searched m.is_answer in
          let is : e ≡ entry_of w.word 0 (extract 0 m.answer) = m.is ∙ ap (λ (t : EntryTask). t.made m.answer) same in
          subst (IsEntryAt h program 0) (sym is) (record {
            is = is_entry w.slots w.desc fit m.budget w.word 0 m.answer found;
            owes = owes_none w.slots w.desc fit m.budget m.answer found;
            at_level = refl;
            sound = λ s to str goes.
                let t = (law_of w.slots w.desc fit m.budget).sound m.answer found s to str goes in
                let low : to (extract 0 m.answer).root < count s = goes.into (extract 0 m.answer).root (is_entry w.slots w.desc fit m.budget w.word 0 m.answer found).root_below in
                record {
                  larger = t.larger;
                  extends = t.extends;
                  sound = t.sound;
                  says = record { declaration = w; has = has_word; word = refl; inside = wider s t.larger t.extends (to (extract 0 m.answer).root) low; describes = t.says };
                };
          })

  word_full : (left : ℕ) → (declared_words extract gr left).finished ≡ true → IsFullAt h program 0 (declared_words extract gr left).all
  word_full left fin s model w n k =
      let run = (run_all_law State Answer Entry (visit gr) (map (word_task extract) program.words) left).has_run fin (word_task extract k.declaration) (Has-map (word_task extract) program.words k.declaration k.has) in
      let r = (law_of k.declaration.slots k.declaration.desc (accepted.fits.words k.declaration k.has) run.budget).complete run.ended s n (record { model = model; node = k.inside }, k.describes) in
      (entry_of k.declaration.word 0 (extract 0 r.0), run.results r.0 r.1, k.word, record { map = r.2.map; is = r.2.is; root_to = r.2.root_to })

  -- and of empty categories, a declaration

  empty_sound : (left : ℕ) (e : Entry) → Has (declared_empties extract gr left).all e → IsSoundEmptyFrom extract h program e × IsEntry h e × OwesNothing h program e.kept
  empty_sound left e has =
      let m = (run_all_law State Answer Entry (visit gr) (map (empty_task extract) program.empties) left).made e has in
      made m (map_has (empty_task extract) program.empties m.task m.has)
    where
      made : (m : IsMade State Answer Entry (visit gr) (map (empty_task extract) program.empties) e) → (d : EmptyDeclaration) × Has program.empties d × (m.task ≡ empty_task extract d) → IsSoundEmptyFrom extract h program e × IsEntry h e × OwesNothing h program e.kept
      made m (d, has_empty, same) =
          let fit = accepted.fits.empties d has_empty in
          let searched : m.task.waiting ≡ start d.slots d.desc ∷ [] = ap (λ (t : EntryTask). t.waiting) same in
          let found : Has (found_from h program m.budget (start d.slots d.desc)).answers m.answer = subst (λ sts. Has (answers_in (visit gr) m.budget sts) m.answer) searched m.is_answer in
          let is : e ≡ entry_of [] 0 (extract 0 m.answer) = m.is ∙ ap (λ (t : EntryTask). t.made m.answer) same in (
            record {
              declaration = d;
              has = has_empty;
              from = record { task = m.task; has = inl same; budget = m.budget; answer = m.answer; is_answer = m.is_answer; is = m.is };
              sound = subst (λ z. IsSoundAs h program z (IsEmptyBy h d)) (sym is) (λ s to str goes.
                  let t = (law_of d.slots d.desc fit m.budget).sound m.answer found s to str goes in
                  let low : to (extract 0 m.answer).root < count s = goes.into (extract 0 m.answer).root (is_entry d.slots d.desc fit m.budget [] 0 m.answer found).root_below in
                  record { larger = t.larger; extends = t.extends; sound = t.sound; says = (wider s t.larger t.extends (to (extract 0 m.answer).root) low, t.says) });
            },
            subst (IsEntry h) (sym is) (is_entry d.slots d.desc fit m.budget [] 0 m.answer found),
            subst (λ (z : Entry). OwesNothing h program z.kept) (sym is) (owes_none d.slots d.desc fit m.budget m.answer found),
          )

  empty_full : (left : ℕ) → (declared_empties extract gr left).finished ≡ true → (d : EmptyDeclaration) → Has program.empties d → (s : Structure) → IsModel h program s → (n : ℕ) → IsEmptyBy h d s n →
      (e : Entry) × Has (declared_empties extract gr left).all e × IsEmptyFrom extract h program d e × StandsAt h s e n
  empty_full left fin d has s model n k =
      let run = (run_all_law State Answer Entry (visit gr) (map (empty_task extract) program.empties) left).has_run fin (empty_task extract d) (Has-map (empty_task extract) program.empties d has) in
      let r = (law_of d.slots d.desc (accepted.fits.empties d has) run.budget).complete run.ended s n (record { model = model; node = k.0 }, k.1) in (
        entry_of [] 0 (extract 0 r.0),
        run.results r.0 r.1,
        record { task = empty_task extract d; has = inl refl; budget = run.budget; answer = r.0; is_answer = r.1; is = refl },
        record { map = r.2.map; is = r.2.is; root_to = r.2.root_to },
      )

  -- the whole

  entry_at : (level : ℕ) (e : Entry) → level ≤ program.lex_depth → IsEntryAt h program level e → IsSoundEntry h program e
  entry_at level e few k = record { is = k.is; owes = k.owes; level = (let same = k.at_level in omega arith); sound = k.sound }

  abbrev words_in : ℕ → Found Entry
  words_in budget = declared_words extract gr budget

  abbrev empties_in : ℕ → Found Entry
  empties_in budget = declared_empties extract gr (budget - (words_in budget).visits)

  abbrev above_in : ℕ → Found Entry
  above_in budget = levels extract gr program.lex_depth (words_in budget).all ((budget - (words_in budget).visits) - (empties_in budget).visits)

  entries_sound : (budget : ℕ) (e : Entry) → Has ((words_in budget).all ++ (above_in budget).all) e → IsSoundEntry h program e
  entries_sound budget e has = elim (Has-append_cases (words_in budget).all (above_in budget).all e has) [
    | inl first ↦ entry_at 0 e (omega arith) (word_sound budget e first)
    | inr beyond ↦
        let r = levels_sound runs extract h program accepted keeps program.lex_depth 0 (words_in budget).all (word_sound budget) ((budget - (words_in budget).visits) - (empties_in budget).visits) e beyond in
        let few = r.1 in
        entry_at r.0 e (omega arith) r.2
  ]

  entries_full : (budget : ℕ) → (words_in budget).finished ≡ true → (above_in budget).finished ≡ true → (s : Structure) → IsModel h program s → (w : Word) (n d : ℕ) → d ≤ program.lex_depth → LexicalAt h program s d w n → Stands h ((words_in budget).all ++ (above_in budget).all) s w n
  entries_full budget first beyond s model w n zero few k =
      let r = word_full budget first s model w n k in
      (r.0, Has-append_left (words_in budget).all (above_in budget).all r.0 r.1, r.2, r.3)
  entries_full budget first beyond s model w n (suc d) few k =
      let same : d ≡ 0 + d = omega arith in
      let r = levels_full runs extract h program accepted keeps program.lex_depth 0 (words_in budget).all (word_sound budget) (word_full budget first) ((budget - (words_in budget).visits) - (empties_in budget).visits) beyond d (omega arith)
      s model w n (subst (λ z. LexicalAt h program s (suc z) w n) same k) in
      (r.0, Has-append_right (words_in budget).all (above_in budget).all r.0 r.1, r.2, r.3)

  looked_up : (e : Entry) → IsSoundEntry h program e → GrowsTo h e.kept.graph e.root (λ t. SolvesWord h program e.word t e.root)
  looked_up e k = grows law h program e.kept e.root (λ t. LexicalAt h program t e.level e.word e.root) (λ t. SolvesWord h program e.word t e.root) k.is k.owes
      (k.sound e.kept.graph (λ n. n) k.is.structure (stands h accepted.lawful e.kept.graph k.is.structure))
      (λ t model wide says. (record { model = model; node = (let low = k.is.root_below in omega arith) }, (e.level, k.level, says)))

  fins : (budget : ℕ) → (((words_in budget).finished && (empties_in budget).finished) && (above_in budget).finished) ≡ true → ((words_in budget).finished ≡ true) × ((empties_in budget).finished ≡ true) × ((above_in budget).finished ≡ true)
  fins budget fin =
      let front = and_parts ((words_in budget).finished && (empties_in budget).finished) (above_in budget).finished fin in
      let pair = and_parts (words_in budget).finished (empties_in budget).finished front.0 in
      (pair.0, pair.1, front.1)

pub lexicon_law : VisibleLaw → RunLaws → LexiconLaws
unfolding lexicon
lexicon_law law runs extract h program budget accepted keeps = record {
  sound = record {
    entries = entries_sound law runs extract h program accepted keeps budget;
    empties = λ e has.
        let r = empty_sound law runs extract h program accepted keeps left e has in
        record {
          is = r.1;
          owes = r.2;
          sound = λ s to str goes.
              let t = r.0.sound s to str goes in
              record { larger = t.larger; extends = t.extends; sound = t.sound; says = (r.0.declaration, r.0.has, t.says) };
        };
  };
  complete = λ fin. record {
    entries = λ s model w n k. entries_full law runs extract h program accepted keeps budget (all fin).0 (all fin).2 s model w n k.0 k.1 k.2;
    empties = λ s model n k.
        let r = empty_full law runs extract h program accepted keeps left (all fin).1 k.0 k.1 s model n k.2 in
        (r.0, r.1, r.3);
  };
  sound_empties = λ e has. (empty_sound law runs extract h program accepted keeps left e has).0;
  all_empties = λ fin d has s model n k. empty_full law runs extract h program accepted keeps left (all fin).1 d has s model n k;
  solved = λ e has. looked_up law runs extract h program accepted keeps e (entries_sound law runs extract h program accepted keeps budget e has);
}
  where
    left : ℕ
    left = budget - (declared_words extract (wordless h program) budget).visits

    all : (((declared_words extract (wordless h program) budget).finished && (declared_empties extract (wordless h program) left).finished) && (levels extract (wordless h program) program.lex_depth (declared_words extract (wordless h program) budget).all (left - (declared_empties extract (wordless h program) left).visits)).finished) ≡ true →
        ((declared_words extract (wordless h program) budget).finished ≡ true) × ((declared_empties extract (wordless h program) left).finished ≡ true) × ((levels extract (wordless h program) program.lex_depth (declared_words extract (wordless h program) budget).all (left - (declared_empties extract (wordless h program) left).visits)).finished ≡ true)
    all fin = fins law runs extract h program accepted keeps budget fin
