-- What a lexical rule makes of an entry: a sound entry where the entry is sound, and where the search ended, one
-- wherever the rule leads from the entry in a model.
use Rattle.std.proofs.Common.{◌≡◌, ℕ, suc, ◌+◌, ◌<◌, true, sym, ap, ◌∙◌, subst, arith, Some}
use Rattle.ale_declared.specs.Lists.{Has}
use Rattle.ale_hierarchy.specs.Hierarchy.{Hierarchy}
use Rattle.ale_graph.specs.Structures.{Structure, IsStructure, count}
use Rattle.ale_graph.specs.Morphisms.{IsMorphismAside}
use Rattle.ale_graph.specs.Closure.{node_of}
use Rattle.ale_graph.proofs.Lists.{has_map}
use Rattle.ale_logic.specs.Descriptions.{HoldsAt, IsAssignment}
use Rattle.ale_logic.specs.Programs.{Word, LexicalRule, Program, goal_of}
use Rattle.ale_logic.specs.Fitting.{FitsLexicalRule}
use Rattle.ale_logic.specs.Derivations.{Derivable}
use Rattle.ale_logic.specs.Models.{MeetsAt, IsModel}
use Rattle.ale_logic.specs.Lexical.{LexicalAt}
use Rattle.ale_logic.specs.Words.{Entry, IsEntry, StandsAt, Grammar}
use Rattle.ale_logic.specs.Starts.{start_lex}
use Rattle.ale_logic.specs.StartLaws.{IsQuietStart}
use Rattle.ale_logic.specs.WellFormed.{ArePlainItems}
use Rattle.ale_logic.specs.Satisfaction.{Satisfies}
use Rattle.ale_logic.specs.Visits.{Answer}
use Rattle.ale_logic.specs.Parts.{Part, Extract}
use Rattle.ale_logic.specs.Lexicons.{wordless, entry_of}
use Rattle.ale_logic.specs.Runs.{FreeSense, Returns, MeetsPairs, RunLaws}
use Rattle.ale_logic.specs.Extending.{HasSoundExtension, OwesNothing}
use Rattle.ale_logic.specs.PartLaws.{IsReattached, IsPart, PartLaw}
use Rattle.ale_logic.specs.Answers.{IsAccepted, found_from}
use Rattle.ale_logic.specs.LexiconLaws.{IsSoundAs}
use Rattle.ale_extension_law.proofs.Stays as stays
use Rattle.ale_extension_law.proofs.Through.{extends_through}
use Rattle.ale_run_law.proofs.First.{Came, free_at, root_inside}
use Rattle.ale_run_law.proofs.Answers as answers
use Rattle.ale_run_law.proofs.Kept.{keepable, owes_nothing}
use Rattle.ale_run_law.proofs.Rises.{rise_on, all_met_on}
use Rattle.ale_lexicon_law.proofs.RuleStart.{rule_starts, rule_plain, rule_imposed, rule_rest, rule_said, rule_next, FitsThere, rule_down, sense, last_node, rule_up}

-- an entry of this level: whole, owing nothing, and lexical wherever it goes, in a sound extension
pub record IsEntryAt (h : Hierarchy) (program : Program) (level : ℕ) (e : Entry) : Type 0 where
  pub is : IsEntry h e
  pub owes : OwesNothing h program e.kept
  pub at_level : e.level ≡ level
  pub sound : IsSoundAs h program e (λ t n. LexicalAt h program t e.level e.word n)

module _ (runs : RunLaws) (extract : Extract) (h : Hierarchy) (program : Program) (accepted : IsAccepted h program) (keeps : PartLaw h program extract) (rule : LexicalRule) (has_rule : Has program.lex_rules rule) (x : Entry) (is : IsEntry h x) (budget : ℕ) where
  abbrev gr : Grammar
  gr = wordless h program

  fit : FitsLexicalRule h rule
  fit = accepted.fits.lex_rules rule has_rule

  starts : IsQuietStart h (start_lex rule x)
  starts = rule_starts h rule x accepted.lawful fit is

  plain : ArePlainItems (start_lex rule x).agenda
  plain = rule_plain h rule x (accepted.plain.lex_rules rule has_rule)

  arrived : (a : Answer) → Has (found_from h program budget (start_lex rule x)).answers a → Came gr (start_lex rule x) a
  arrived a has = answers.came runs h program accepted (start_lex rule x) starts plain budget a has

  -- the output's node is one of the answer's
  out_low : (a : Answer) → Has (found_from h program budget (start_lex rule x)).answers a → count x.kept.graph < a.state.next
  out_low a has =
      let c = arrived a has in
      let next = c.is.next in
      let first = rule_next h rule x in
      omega arith

  part_of : (a : Answer) → Has (found_from h program budget (start_lex rule x)).answers a → IsPart h program (count x.kept.graph) a (extract (count x.kept.graph) a)
  part_of a has = keeps (count x.kept.graph) a (keepable gr (start_lex rule x) a (arrived a has).is (count x.kept.graph) (out_low a has))

  module _ (a : Answer) (has : Has (found_from h program budget (start_lex rule x)).answers a) (w : Word) (becomes : rule.becomes x.word ≡ Some w) where
    abbrev part : Part
    part = extract (count x.kept.graph) a

    -- where the part goes, the whole goes into an extension, in which the entry goes too and the rule fits
    module _ (s : Structure) (to : ℕ → ℕ) (p : IsPart h program (count x.kept.graph) a part) (r : IsReattached h a part s to) (free : FreeSense r.larger a) (back : Returns gr r.larger (start_lex rule x) a r.map free) where
      fits : FitsThere h program rule x r.larger back.sense.node (back.sense.var 0)
      fits = rule_down gr rule x r.larger back.sense a.state.rest back.satisfies

      -- the root goes where the output's node goes
      out : back.sense.node (0 + count x.kept.graph) ≡ to part.root
      out =
          let same : 0 + count x.kept.graph ≡ count x.kept.graph = omega arith in
          ap back.sense.node same ∙ back.node (count x.kept.graph) ∙ ap r.map (sym p.root_is) ∙ r.agrees part.root p.is.root_below

      out_inside : back.sense.node (0 + count x.kept.graph) < count r.larger
      out_inside = back.satisfies.fulfils.into (0 + count x.kept.graph) (let first = rule_next h rule x in omega arith)

      input : HoldsAt h r.larger (back.sense.var 0) rule.input (back.sense.node (0 + x.root))
      input =
          let same : x.root ≡ 0 + x.root = omega arith in
          subst (λ z. HoldsAt h r.larger (back.sense.var 0) rule.input (back.sense.node z)) same fits.input

      -- in a further extension the entry is sound
      abbrev SoundThere : Type 0
      SoundThere = HasSoundExtension h program x.kept r.larger (λ n. back.sense.node (0 + n)) (λ u. LexicalAt h program u x.level x.word (back.sense.node (0 + x.root)))

      met : (t : SoundThere) → MeetsPairs gr t.larger (λ n. r.map (node_of a.closed n)) a.state.imposed
      met t = all_met_on gr (answers.none_brought runs h program accepted) r.larger t.larger t.extends (start_lex rule x) a (arrived a has).is r.map r.is free back given
        where
          given : (n k : ℕ) → Has (start_lex rule x).imposed (n, k) → MeetsAt h program t.larger k (r.map (node_of a.closed n))
          given n k there =
              let e = has_map (λ (q : ℕ × ℕ). (0 + q.0, q.1)) x.kept.imposed (n, k) (subst (λ ps. Has ps (n, k)) (rule_imposed h rule x) there) in
              let first : n ≡ 0 + e.0.0 = ap (λ (q : ℕ × ℕ). q.0) e.2 in
              let second : k ≡ e.0.1 = ap (λ (q : ℕ × ℕ). q.1) e.2 in
              subst (λ z. MeetsAt h program t.larger z (r.map (node_of a.closed n))) (sym second)
              (subst (MeetsAt h program t.larger e.0.1) (ap back.sense.node (sym first) ∙ back.node n) (t.sound.imposed e.0.0 e.0.1 e.1))

      by_rule : (t : SoundThere) → LexicalAt h program t.larger (suc x.level) w (to part.root)
      by_rule t =
          let stay = stays.stays_law h program r.larger t.larger t.extends in
          record {
            rule = rule;
            has = has_rule;
            word = x.word;
            becomes = becomes;
            inside = subst (λ z. z < count t.larger) out (let wide = stay.larger in let low = out_inside in omega arith);
            node = back.sense.node (0 + x.root);
            lexical = t.says;
            assign = back.sense.var 0;
            nodes = stay.assigns (back.sense.var 0) (back.satisfies.nodes 0);
            input = stay.holds (back.sense.var 0) rule.input (back.sense.node (0 + x.root)) (fits.goes.into x.root is.root_below) input;
            output = subst (HoldsAt h t.larger (back.sense.var 0) rule.output) out (stay.holds (back.sense.var 0) rule.output (back.sense.node (0 + count x.kept.graph)) out_inside fits.out);
            derived = stay.derivable (back.sense.var 0) (goal_of rule.goal) fits.derived;
          }

      sound_there : (t : SoundThere) → HasSoundExtension h program part.kept s to (λ u. LexicalAt h program u (suc x.level) w (to part.root))
      sound_there t = record {
        larger = t.larger;
        extends = extends_through h s r.larger t.larger r.extends t.extends;
        sound = rise_on gr accepted.lawful (count x.kept.graph) a part (arrived a has).is.structure p (arrived a has).is.all_imposed s to r t.larger t.extends t.sound.added (met t);
        says = by_rule t;
      }

    lexical_there : IsSoundAs h program x (λ t n. LexicalAt h program t x.level x.word n) → (s : Structure) (to : ℕ → ℕ) → IsStructure h s → IsMorphismAside h part.kept.graph s to →
        HasSoundExtension h program part.kept s to (λ t. LexicalAt h program t (suc x.level) w (to part.root))
    lexical_there sound s to str m =
        let p = part_of a has in
        let r = p.reattached s to str m in
        let c = arrived a has in
        let low : r.map (node_of a.closed 0) < count r.larger = r.is.into (node_of a.closed 0) (root_inside gr (start_lex rule x) a c 0 starts.is.is.some_node) in
        let free = free_at r.larger a (λ e v. r.map (node_of a.closed 0)) (λ e v. low) (c.is.said starts.quiet ∙ rule_said h rule x) in
        let back = answers.returned runs h program accepted (start_lex rule x) starts plain budget a has r.larger r.map r.extends.larger r.is free in
        sound_there s to p r free back (sound r.larger (λ n. back.sense.node (0 + n)) r.extends.larger (fits s to p r free back).goes)

    -- what the rule makes is an entry of the next level
    pub entry_there : (level : ℕ) → IsEntryAt h program level x → IsEntryAt h program (suc level) (entry_of w (suc x.level) part)
    entry_there level k = record {
      is = (part_of a has).is;
      owes = (part_of a has).owes (owes_nothing gr a (arrived a has).is.all_imposed);
      at_level = ap suc k.at_level;
      sound = lexical_there k.sound;
    }

  -- where the rule leads in a model, something of an answer goes
  pub rule_full : (found_from h program budget (start_lex rule x)).finished ≡ true → (s : Structure) → IsModel h program s → (to : ℕ → ℕ) → IsMorphismAside h x.kept.graph s to → (n : ℕ) → n < count s → (assign : ℕ → ℕ) → IsAssignment s assign →
      HoldsAt h s assign rule.input (to x.root) → HoldsAt h s assign rule.output n → Derivable h program s assign (goal_of rule.goal) →
      (a : Answer) × Has (found_from h program budget (start_lex rule x)).answers a × ((w : Word) → StandsAt h s (entry_of w (suc x.level) (extract (count x.kept.graph) a)) n)
  rule_full fin s model to goes n low assign nodes input out derived =
      let sat = rule_up gr rule x s is to n assign goes low nodes input out derived in
      let r = answers.found_at runs h program accepted (start_lex rule x) starts plain budget fin s model (sense gr rule x s is to n assign goes low nodes) (subst (Satisfies gr s (sense gr rule x s is to n assign goes low nodes) (start_lex rule x)) (sym (rule_rest h rule x)) sat) in
      let p = part_of r.answer r.has in
      let same : 0 + count x.kept.graph ≡ count x.kept.graph = omega arith in
      let there : r.map (node_of r.answer.closed (count x.kept.graph)) ≡ n =
      r.lands (count x.kept.graph) (out_low r.answer r.has)
      ∙ r.agrees.node (count x.kept.graph) (let first = rule_next h rule x in omega arith)
      ∙ ap (sense gr rule x s is to n assign goes low nodes).node (sym same)
      ∙ last_node gr rule x s is to n assign goes low nodes in (
        r.answer,
        r.has,
        λ w. record {
          map = λ k. r.map ((extract (count x.kept.graph) r.answer).whole k);
          is = p.onward s r.map r.is;
          root_to = ap r.map p.root_is ∙ there;
        },
      )
