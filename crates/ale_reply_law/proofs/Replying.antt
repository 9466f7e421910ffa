-- What replies have to do with solutions, from the laws of searches, the lexicon, the chart and generation.
use Rattle.std.proofs.Common.{◌≡◌, ℕ, zero, suc, true, false, ◌&&◌, eqb, List, [], ◌∷◌, length, map, filter, get_or, inl, inr, refl, sym, ap, ◌∙◌, subst, arith, Option, Some, None}
use Rattle.std.proofs.lemmas.Bool.{and_parts, and_from, eqb-true, eq-eqb}
use Rattle.ale_declared.specs.Lists.{Has}
use Rattle.ale_hierarchy.specs.Hierarchy.{Hierarchy}
use Rattle.ale_graph.specs.Structures.{Structure}
use Rattle.ale_graph.specs.Morphisms.{Subsumes}
use Rattle.ale_graph.specs.Closure.{node_of}
use Rattle.ale_graph.proofs.Lists.{has_map, some_one, none_some}
use Rattle.ale_logic.specs.Descriptions.{Description, Describes, FitsDescription}
use Rattle.ale_logic.specs.Goals.{Goal, FitsGoal, IsPlain}
use Rattle.ale_logic.specs.Programs.{Word, Program}
use Rattle.ale_logic.specs.Words.{Entry, bound_in}
use Rattle.ale_logic.specs.Solutions.{SolvesDescription, SolvesWord, SolvesSentence, SolvesGeneration}
use Rattle.ale_logic.specs.Growing.{rooted}
use Rattle.ale_logic.specs.States.{bound, env_at}
use Rattle.ale_logic.specs.Starts.{start, start_goal, ChartItem}
use Rattle.ale_logic.specs.Visits.{Answer}
use Rattle.ale_logic.specs.Parts.{whole_of, Extract, placed}
use Rattle.ale_logic.specs.PartLaws.{PartLaw}
use Rattle.ale_logic.specs.Lexicons.{Lexicon, lexicon}
use Rattle.ale_logic.specs.Charts.{Keep, keep_all, items, chart, same_word}
use Rattle.ale_logic.specs.ChartLaws.{KeepLaw, ChartLaw, ChartLaws}
use Rattle.ale_logic.specs.LexiconLaws.{LexiconLaw, LexiconLaws}
use Rattle.ale_logic.specs.GenerationLaws.{generated_from, GenerationLaw, GenerationLaws}
use Rattle.ale_logic.specs.Answers.{IsAccepted, SubsumesAt, found_from, DescriptionLaw, DescriptionLaws, node_for, GoalLaw, GoalLaws}
use Rattle.ale_engine.specs.Engine.{is_nothing}
use Rattle.ale_logic.specs.Shown.{Shown, words_of, shown_root, shown_slots, shown_kept, mgsat, query, gen, lex, is_passive_over, rec}
use Rattle.ale_reply_law.specs.Replies.{without_words, IsPartOfSolution, ReplyLaw, StandFor, IsPartOfDerivation, QueryReplyLaw, ReplyLaws, WholeReplyLaws}
use Rattle.ale_declared.proofs.ListLemmas.{Has-filter, filter_has}
use Rattle.ale_extension_law.proofs.Wholes.{whole_part}
use Rattle.ale_run_law.proofs.Enough.{enough}
use Rattle.ale_chart_law.proofs.Beginning.{same_is, is_same}

pub map_has : {A B : Type 0} (f : A → B) (xs : List A) (x : A) → Has xs x → Has (map f xs) (f x)
map_has f [] x none = absurd none
map_has f (y ∷ ys) x (inl same) = inl (ap f same)
map_has f (y ∷ ys) x (inr there) = inr (map_has f ys x there)

-- one root goes to the other
one_root : (h : Hierarchy) (s t : Structure) (a b : ℕ) → SubsumesAt h s a t b → Subsumes h (rooted s (Some a ∷ [])) (rooted t (Some b ∷ []))
one_root h s t a b k = record {
  map = k.map;
  is = record {
    aside = record { into = k.is.into; types = k.is.types; values = k.is.values; differs = k.is.differs };
    roots = λ i n e. roots i n e;
  };
}
  where
    roots : (i n : ℕ) → get_or (Some a ∷ []) i None ≡ Some n → get_or (Some b ∷ []) i None ≡ Some (k.map n)
    roots zero n e = let same : a ≡ n = some_one e in ap Some (sym k.root_to ∙ ap k.map same)
    roots (suc i) n e = absurd (none_some (sym (past i) ∙ e))
      where
        past : (j : ℕ) → get_or {A = Option ℕ} [] j None ≡ None
        past zero = refl
        past (suc j) = refl

-- passive, and over the whole sentence
over_parts : (size : ℕ) (x : ChartItem) → is_passive_over 0 size x ≡ true → (x.from ≡ 0) × (x.to ≡ size) × (x.rest ≡ [])
over_parts size x e =
    let one = and_parts (eqb x.from 0 && eqb x.to size) (is_nothing x.rest) e in
    let two = and_parts (eqb x.from 0) (eqb x.to size) one.0 in
    (eqb-true x.from 0 two.0, eqb-true x.to size two.1, none x.rest one.1)
  where
    none : {A : Type 0} (xs : List A) → is_nothing xs ≡ true → xs ≡ []
    none [] q = refl
    none (y ∷ ys) q = absurd cc

over_from : (size : ℕ) (x : ChartItem) → x.from ≡ 0 → x.to ≡ size → x.rest ≡ [] → is_passive_over 0 size x ≡ true
over_from size x from to rest =
    and_from (eqb x.from 0 && eqb x.to size) (is_nothing x.rest) (and_from (eqb x.from 0) (eqb x.to size) (eq-eqb x.from 0 from) (eq-eqb x.to size to)) (ap is_nothing rest)

module _ (h : Hierarchy) (program : Program) (accepted : IsAccepted h program) where
  of_description : DescriptionLaws → (slots : ℕ) (d : Description) (budget : ℕ) → FitsDescription h slots d → ReplyLaw h (without_words (SolvesDescription h program d)) (mgsat h program slots d budget)
  of_description laws slots d budget fit = record {
    sound = λ x has.
        let f = has_map show (found_from h program budget (start slots d)).answers x has in
        subst (λ (z : Shown). IsPartOfSolution (without_words (SolvesDescription h program d)) z) (sym f.2)
        (record { solution = f.0.closed.graph; root = node_of f.0.closed 0; solves = (solved f.0 f.1, refl); visible_part = refl });
    complete = λ complete s n ws solves.
        let describes : Describes h s d n = solves.0.1 in
        let r = law.complete (finished complete) s n describes.assign (record { root = solves.0.0; nodes = describes.nodes; holds = describes.holds }) in
        record { answer = show r.0; has = map_has show (found_from h program budget (start slots d)).answers r.0 r.1; words = sym solves.1; subsumes = one_root h r.0.closed.graph s (node_of r.0.closed 0) n r.2.subsumes };
  }
    where
      law : DescriptionLaw h program slots d budget
      law = laws h program slots d budget accepted fit

      solved : (a : Answer) → Has (found_from h program budget (start slots d)).answers a → SolvesDescription h program d a.closed.graph (node_of a.closed 0)
      solved a has =
          let itself = law.sound a has in
          let under = itself.solves (λ v. node_of a.closed 0) (λ v. itself.root.node) in
          (itself.root, record { assign = node_for a (λ v. node_of a.closed 0); nodes = under.nodes; holds = under.holds })

      show : Answer → Shown
      show a = record { words = []; structure = shown_root a }

      finished : ((found_from h program budget (start slots d)).finished && true) ≡ true → (found_from h program budget (start slots d)).finished ≡ true
      finished e = (and_parts (found_from h program budget (start slots d)).finished true e).0

  -- each printed variable stands for its root
  stand : (a : Answer) (free : ℕ → ℕ) (printed : List ℕ) → StandFor (map (λ v. placed (node_of a.closed) (bound_in (env_at a.state.envs 0) v)) printed) printed free (node_for a free)
  stand a free [] = refl
  stand a free (v ∷ vs) = go (bound a.state.envs 0 v) refl (stand a free vs)
    where
      roots : List (Option ℕ)
      roots = map (λ v. placed (node_of a.closed) (bound_in (env_at a.state.envs 0) v)) vs

      go : (o : Option ℕ) → bound a.state.envs 0 v ≡ o → StandFor (map (λ v. placed (node_of a.closed) (bound_in (env_at a.state.envs 0) v)) vs) vs free (node_for a free) → StandFor (placed (node_of a.closed) o ∷ map (λ v. placed (node_of a.closed) (bound_in (env_at a.state.envs 0) v)) vs) (v ∷ vs) free (node_for a free)
      go None b rest = (ap (λ z. elim z [ None ↦ free v | Some n ↦ node_of a.closed n ]) b, rest)
      go (Some n) b rest = (ap (λ z. elim z [ None ↦ free v | Some n ↦ node_of a.closed n ]) b, rest)

  -- each bound root goes to where its variable stands
  slot_roots : (a : Answer) (to assign : ℕ → ℕ) → ((v n : ℕ) → bound a.state.envs 0 v ≡ Some n → assign v ≡ to (node_of a.closed n)) → (printed : List ℕ) (i n : ℕ) →
      get_or (map (λ v. placed (node_of a.closed) (bound_in (env_at a.state.envs 0) v)) printed) i None ≡ Some n → get_or (map (λ v. Some (assign v)) printed) i None ≡ Some (to n)
  slot_roots a to assign is [] i n e = absurd (past i e)
    where
      past : (j : ℕ) → get_or {A = Option ℕ} [] j None ≡ Some n → ⊥
      past zero q = none_some q
      past (suc j) q = none_some q
  slot_roots a to assign is (v ∷ vs) zero n e = go (bound a.state.envs 0 v) refl e
    where
      go : (o : Option ℕ) → bound a.state.envs 0 v ≡ o → placed (node_of a.closed) o ≡ Some n → Some (assign v) ≡ Some (to n)
      go None b q = absurd (none_some q)
      go (Some m) b q = ap Some (is v m b ∙ ap to (some_one q))
  slot_roots a to assign is (v ∷ vs) (suc i) n e = slot_roots a to assign is vs i n e

  of_goal : GoalLaws → (slots : ℕ) (g : Goal) (printed : List ℕ) (budget : ℕ) → FitsGoal h slots g → IsPlain g → QueryReplyLaw h program g printed (query h program slots g printed budget)
  of_goal laws slots g printed budget fit plain = record {
    sound = λ x has.
        let f = has_map show (found_from h program budget (start_goal slots g)).answers x has in
        subst (λ (z : Shown). IsPartOfDerivation h program g printed z) (sym f.2)
        (record { solution = f.0.closed.graph; visible_part = refl; solves = λ free nodes. (node_for f.0 free, law.sound f.0 f.1 free nodes, stand f.0 free printed) });
    complete = λ complete s assign solves.
        let r = law.complete (finished complete) s assign solves in
        record {
          answer = show r.0;
          has = map_has show (found_from h program budget (start_goal slots g)).answers r.0 r.1;
          subsumes = record {
            map = r.2.map;
            is = record {
              aside = record { into = r.2.is.into; types = r.2.is.types; values = r.2.is.values; differs = r.2.is.differs };
              roots = slot_roots r.0 r.2.map assign r.2.is_bound printed;
            };
          };
        };
  }
    where
      law : GoalLaw h program slots g budget
      law = laws h program slots g budget accepted fit plain

      show : Answer → Shown
      show a = record { words = []; structure = shown_slots printed a }

      finished : ((found_from h program budget (start_goal slots g)).finished && true) ≡ true → (found_from h program budget (start_goal slots g)).finished ≡ true
      finished e = (and_parts (found_from h program budget (start_goal slots g)).finished true e).0

  module _ (extract : Extract) (part : PartLaw h program extract) (lexica : LexiconLaws) (closing : ℕ) where
    abbrev l : Lexicon
    l = lexicon extract h program closing

    lexical : LexiconLaw extract h program (lexicon extract h program closing)
    lexical = lexica extract h program closing accepted part

    of_word : (w : Word) → ReplyLaw h (without_words (SolvesWord h program w)) (lex (lexicon extract h program closing) w)
    of_word w = record {
      sound = λ x has.
          let f = has_map show (filter (λ (e : Entry). same_word e.word w) l.words.entries) x has in
          let k = filter_has (λ (e : Entry). same_word e.word w) l.words.entries f.0 f.1 in
          let grows = lexical.solved f.0 k.0 in
          let same : f.0.word ≡ w = same_is f.0.word w k.1 in
          subst (λ (z : Shown). IsPartOfSolution (without_words (SolvesWord h program w)) z) (sym f.2)
          (record { solution = grows.larger; root = f.0.root; solves = (subst (λ z. SolvesWord h program z grows.larger f.0.root) same grows.solves, refl); visible_part = grows.visible_part });
      complete = λ complete s n ws solves.
          let e = (lexical.complete complete).entries s solves.0.0.model w n solves.0.1 in
          record {
            answer = show e.0;
            has = map_has show (filter (λ (x : Entry). same_word x.word w) l.words.entries) e.0 (Has-filter (λ (x : Entry). same_word x.word w) l.words.entries e.0 e.1 (is_same e.0.word w e.2));
            words = sym solves.1;
            subsumes = one_root h e.0.kept.graph s e.0.root n (record { map = e.3.map; is = e.3.is; root_to = e.3.root_to });
          };
    }
      where
        show : Entry → Shown
        show x = record { words = []; structure = shown_kept x.kept x.root }

    of_generation : GenerationLaws → (slots : ℕ) (d : Description) (budget : ℕ) → FitsDescription h slots d → ReplyLaw h (SolvesGeneration h program d) (gen h program (lexicon extract h program closing) slots d budget)
    of_generation laws slots d budget fit = record {
      sound = λ x has.
          let f = has_map show (generated_from h program l.words budget slots d).answers x has in
          let grows = law.solved f.0 f.1 in
          subst (λ (z : Shown). IsPartOfSolution (SolvesGeneration h program d) z) (sym f.2)
          (record { solution = grows.larger; root = node_of f.0.closed 0; solves = grows.solves; visible_part = grows.visible_part });
      complete = λ complete s n ws solves.
          let both = and_parts (generated_from h program l.words budget slots d).finished l.finished complete in
          let r = law.complete (lexical.complete both.1) both.0 s n ws solves in
          record { answer = show r.0; has = map_has show (generated_from h program l.words budget slots d).answers r.0 r.1; words = r.2; subsumes = one_root h r.0.closed.graph s (node_of r.0.closed 0) n r.3 };
    }
      where
        law : GenerationLaw h program l.words slots d budget
        law = laws h program l.words slots d budget accepted fit lexical.sound

        show : Answer → Shown
        show a = record { words = words_of a 0; structure = shown_root a }

    of_sentence : ChartLaws → (keep : Keep) → KeepLaw h keep → (sentence : List Word) (budget : ℕ) → ReplyLaw h (without_words (SolvesSentence h program sentence)) (rec extract keep h program (lexicon extract h program closing) sentence budget)
    of_sentence charts keep keeps sentence budget = record {
      sound = λ x has.
          let f = has_map show (filter (is_passive_over 0 (length sentence)) (items (chart extract keep h program l.words sentence budget))) x has in
          let k = filter_has (is_passive_over 0 (length sentence)) (items (chart extract keep h program l.words sentence budget)) f.0 f.1 in
          let spans = over_parts (length sentence) f.0 k.1 in
          let grows = ((law.sound f.0 k.0).passive spans.2).solved spans.0 spans.1 in
          subst (λ (z : Shown). IsPartOfSolution (without_words (SolvesSentence h program sentence)) z) (sym f.2)
          (record { solution = grows.larger; root = f.0.root; solves = (grows.solves, refl); visible_part = grows.visible_part });
      complete = λ complete s n ws solves.
          let both = and_parts (chart extract keep h program l.words sentence budget).finished l.finished complete in
          let r = law.complete (record { keeps = keeps; all_words = lexical.complete both.1; finished = both.0 }) s solves.0.0.model n 0 (length sentence) (omega arith) solves.0.1 in
          record {
            answer = show r.item;
            has = map_has show (filter (is_passive_over 0 (length sentence)) (items (chart extract keep h program l.words sentence budget))) r.item (Has-filter (is_passive_over 0 (length sentence)) (items (chart extract keep h program l.words sentence budget)) r.item r.has (over_from (length sentence) r.item r.from r.to r.passive));
            words = sym solves.1;
            subsumes = one_root h r.item.kept.graph s r.item.root n r.subsumes;
          };
    }
      where
        law : ChartLaw extract h program l.words sentence keep (chart extract keep h program l.words sentence budget)
        law = charts extract keep h program l.words sentence budget accepted part lexical.sound

        show : ChartItem → Shown
        show x = record { words = []; structure = shown_kept x.kept x.root }

pub reply_laws : DescriptionLaws → GoalLaws → LexiconLaws → ChartLaws → GenerationLaws → ReplyLaws
reply_laws descriptions goals lexica charts generations extract keep h program accepted part keeps = record {
  descriptions = of_description h program accepted descriptions;
  enough = λ slots d budget fit direct none few. ap (λ z. z && true) (enough h program slots d budget accepted fit direct none few);
  goals = of_goal h program accepted goals;
  words = of_word h program accepted extract part lexica;
  sentences = λ closing. of_sentence h program accepted extract part lexica closing charts keep keeps;
  generations = λ closing. of_generation h program accepted extract part lexica closing generations;
}

-- nothing is dropped
keeps_all : (h : Hierarchy) → KeepLaw h keep_all
keeps_all h law before x dropped = absurd (let clash : true ≡ false = dropped in cc)

pub whole_reply_laws : ReplyLaws → WholeReplyLaws
whole_reply_laws replies h program accepted = replies whole_of keep_all h program accepted (whole_part h program) (keeps_all h)
