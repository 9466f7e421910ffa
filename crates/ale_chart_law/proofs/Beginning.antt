-- The items with which a chart begins: each is good, and all that there are to be are there.
use Rattle.std.proofs.Common.{◌≡◌, ℕ, zero, suc, ◌+◌, ◌<◌, ◌≤◌, true, eqb, List, [], ◌∷◌, ◌++◌, map, length, filter, get_or, replicate, ◌⊎◌, inl, inr, refl, sym, ap, ◌∙◌, subst, arith, Option, Some, None}
use Rattle.std.proofs.lemmas.Bool.{and_parts, and_from, eqb-true, eq-eqb}
use Rattle.std.proofs.lemmas.List.{length-replicate}
use Rattle.ale_declared.specs.Lists.{Has, upto}
use Rattle.ale_declared.proofs.ListLemmas.{Has-filter, filter_has, le-sum_over}
use Rattle.ale_hierarchy.specs.Hierarchy.{Hierarchy, Above, IsLawful, size_at}
use Rattle.ale_graph.specs.Structures.{Structure, IsStructure, count, type_of, value_of}
use Rattle.ale_graph.specs.Morphisms.{IsMorphismAside}
use Rattle.ale_graph.specs.Extensions.{Extends}
use Rattle.ale_graph.proofs.Lists.{has_left, has_right, has_either, has_map, has_upto, none_some, some_one}
use Rattle.ale_engine.proofs.Lists.{in_map}
use Rattle.ale_logic.specs.Descriptions.{HoldsAt, FitsDescription}
use Rattle.ale_logic.specs.Programs.{Word, Element, cat, cats, derived, sem_head, member, tail, Rule, Program}
use Rattle.ale_logic.specs.Fitting.{FitsElement, FitsRule}
use Rattle.ale_logic.specs.Words.{Entry, Words}
use Rattle.ale_logic.specs.Spans.{Covers, word_at}
use Rattle.ale_logic.specs.Spans.Spans.{by_word, by_empty, by_rule}
use Rattle.ale_logic.specs.Parts.{renamed}
use Rattle.ale_logic.specs.LexiconLaws.{AreSoundWords, IsSoundEntry, IsSoundEmpty}
use Rattle.ale_logic.specs.Answers.{IsAccepted}
use Rattle.ale_logic.specs.Starts.{ChartItem, mother_at}
use Rattle.ale_logic.specs.Charts.{same_word, passive_of, one_node, rules_from, between, initial_items}
use Rattle.ale_extension_law.proofs.Stays as stays
use Rattle.ale_run_law.proofs.First.{none_bound}
use Rattle.ale_chart_law.proofs.Items.{FitsLeft, IsThere}
use Rattle.ale_chart_law.proofs.Searches.{rule_renamed}
use Rattle.ale_chart_law.proofs.Extensions.{extends_self, none_added}
use Rattle.ale_chart_law.proofs.Good.{Pending, Says, IsGood}

-- no feature is appropriate to the most general type, as it would lead to ever smaller types
module _ (h : Hierarchy) (law : IsLawful h) (f r : ℕ) (at : h.approp f 0 ≡ Some r) where
  falls : (n t : ℕ) → t < h.types → h.size t ≤ n → ⊥
  falls zero t low le = let is = law.size_is t low in omega arith
  falls (suc n) t low le = go (falls n) (law.approp_along f 0 t r low (law.bottom t low) at)
    where
      go : ((q : ℕ) → q < h.types → h.size q ≤ n → ⊥) → (q : ℕ) × (h.approp f t ≡ Some q) × Above h r q → ⊥
      go later (q, e, up) =
          let inside = law.approp_inside f t q e in
          let sum = le-sum_over (λ g. size_at h (h.approp g t)) (upto h.features) f (has_upto h.features f inside.0) in
          let size : size_at h (h.approp f t) ≡ h.size q = ap (size_at h) e in
          let is = law.size_is t low in
          later q inside.1 (omega arith)

  pub bot_has_none : ⊥
  bot_has_none = falls (h.size 0) 0 law.some_type (omega arith)

-- one node of the most general type is a structure
pub one_is : (h : Hierarchy) → IsLawful h → (slots : ℕ) → IsStructure h (one_node slots).graph
one_is h law slots = record {
  formed = refl;
  total = record { types = λ n low. types n; there = λ n f r low e. absurd (there n f r e); only = λ n f m e. absurd (only n f m e) };
  extensional = λ a b one two same ext values. let first : a ≡ 0 = omega arith in let second : b ≡ 0 = omega arith in first ∙ sym second;
  apart = λ a b has. absurd has;
}
  where
    types : (n : ℕ) → type_of (one_node slots).graph n < h.types
    types zero = law.some_type
    types (suc n) = law.some_type

    there : (n f r : ℕ) → h.approp f (type_of (one_node slots).graph n) ≡ Some r → ⊥
    there zero f r e = bot_has_none h law f r e
    there (suc n) f r e = bot_has_none h law f r e

    only : (n f m : ℕ) → value_of (one_node slots).graph n f ≡ Some m → ⊥
    only zero f m e = none_some e
    only (suc n) f m e = none_some e

element_left : (h : Hierarchy) (program : Program) (slots n : ℕ) (e : Element) → FitsElement h slots e → FitsLeft h slots n e
element_left h program slots n (cat d) fit = fit
element_left h program slots n (cats d) fit = fit
element_left h program slots n (sem_head d) fit = fit
element_left h program slots n (derived g) fit = fit
element_left h program slots n (member m) fit = absurd fit
element_left h program slots n (tail m) fit = absurd fit

element_there : (h : Hierarchy) (program : Program) (slots : ℕ) (s : Structure) (e : Element) → FitsElement h slots e → IsThere program s e
element_there h program slots s (cat d) fit = tt
element_there h program slots s (cats d) fit = tt
element_there h program slots s (sem_head d) fit = tt
element_there h program slots s (derived g) fit = tt
element_there h program slots s (member m) fit = absurd fit
element_there h program slots s (tail m) fit = absurd fit

pub same_is : (v w : Word) → same_word v w ≡ true → v ≡ w
same_is [] [] e = refl
same_is [] (d ∷ w) e = absurd cc
same_is (c ∷ v) [] e = absurd cc
same_is (c ∷ v) (d ∷ w) e =
    let both = and_parts (eqb c d) (same_word v w) e in
    ap (λ z. z ∷ v) (eqb-true c d both.0) ∙ ap (λ z. d ∷ z) (same_is v w both.1)

pub is_same : (v w : Word) → v ≡ w → same_word v w ≡ true
is_same v w e = subst (λ z. same_word v z ≡ true) e (itself v)
  where
    itself : (u : Word) → same_word u u ≡ true
    itself [] = refl
    itself (c ∷ u) = and_from (eqb c c) (same_word u u) (eq-eqb c c refl) (itself u)

module _ (h : Hierarchy) (program : Program) (ok : IsAccepted h program) (words : Words) (sound_words : AreSoundWords h program words) (sentence : List Word) where
  entry_good : (x : Entry) (i : ℕ) → Has words.entries x → word_at sentence i ≡ Some x.word → suc i ≤ length sentence → IsGood h program sentence (passive_of i (suc i) x)
  entry_good x i has at place = record {
    item = record { is = e.is; active = λ d ds eq. absurd cc };
    ordered = omega arith;
    place = place;
    owes = λ none. e.owes;
    rises = λ s to str mor.
        let r = e.sound s to str mor in
        record { larger = r.larger; extends = r.extends; added = r.sound.added; imposed = r.sound.imposed; says = by_word (to x.root) i x.word at (x.level, e.level, r.says) };
  }
    where
      e : IsSoundEntry h program x
      e = sound_words.entries x has

  empty_good : (x : Entry) (i : ℕ) → Has words.empties x → i ≤ length sentence → IsGood h program sentence (passive_of i i x)
  empty_good x i has place = record {
    item = record { is = e.is; active = λ d ds eq. absurd cc };
    ordered = omega arith;
    place = place;
    owes = λ none. e.owes;
    rises = λ s to str mor.
        let r = e.sound s to str mor in
        record { larger = r.larger; extends = r.extends; added = r.sound.added; imposed = r.sound.imposed; says = by_empty (to x.root) i r.says };
  }
    where
      e : IsSoundEmpty h program x
      e = sound_words.empties x has

  -- the item with which a rule begins
  abbrev pub rule_item : ℕ → ℕ → Rule → ChartItem
  rule_item i k r = record { from = i; to = i; kept = one_node r.slots; root = 0; rule = Some k; rest = r.elements }

  rule_good : (r : Rule) (i k : ℕ) → Has program.rules r → mother_at program.rules (Some k) ≡ Some r.mother → i ≤ length sentence → IsGood h program sentence (rule_item i k r)
  rule_good r i k has number place = record {
    item = record {
      is = record { structure = one_is h ok.lawful r.slots; root_below = omega arith; env_below = λ v n b. absurd (none_bound r.slots 0 v n b); imposed_below = λ n c p. absurd p };
      active = λ e es eq. record {
        mother = r.mother;
        number = number;
        mother_fits = subst (λ n. FitsDescription h n r.mother) (sym slots) fits.mother;
        left = λ d at. record {
          fits = element_left h program (length (replicate {A = Option ℕ} r.slots None)) 1 d (subst (λ n. FitsElement h n d) (sym slots) (fits.elements d at));
          plain = ok.plain.rules r has d at;
          there = element_there h program r.slots (one_node r.slots).graph d (fits.elements d at);
        };
      };
    };
    ordered = omega arith;
    place = place;
    owes = λ none. absurd (subst (λ z. Has z fits.daughter.0) none fits.daughter.1);
    rises = λ s to str mor. record {
      larger = s;
      extends = extends_self h s str;
      added = none_added h program s;
      imposed = λ n c p. absurd p;
      says = says s to mor r.elements refl;
    };
  }
    where
      fits : FitsRule h r
      fits = ok.fits.rules r has

      slots : length (replicate {A = Option ℕ} r.slots None) ≡ r.slots
      slots = length-replicate {A = Option ℕ} r.slots None

      pends : (s : Structure) (to : ℕ → ℕ) → IsMorphismAside h (one_node r.slots).graph s to → (d : Element) (ds : List Element) → r.elements ≡ d ∷ ds → Pending h program sentence (rule_item i k r) s to (d ∷ ds)
      pends s to mor d ds eq u ext assign inside agrees m is holds_m j covers =
          let same : m ≡ r.mother = some_one (sym is ∙ number) in
          by_rule (to 0) i j r assign has inside (within s u ext (to 0) (mor.into 0 (omega arith))) (subst (λ z. HoldsAt h u assign z (to 0)) same holds_m)
          (subst (λ z. Covers h program u sentence assign z i j) (ap (λ z. map (renamed to) z) (sym eq) ∙ rule_renamed h to r.slots r.elements fits.elements) covers)
        where
          within : (s u : Structure) → Extends h s u → (n : ℕ) → n < count s → n < count u
          within s u ext n low = stays.within h s u ext n low

      says : (s : Structure) (to : ℕ → ℕ) → IsMorphismAside h (one_node r.slots).graph s to → (ds : List Element) → r.elements ≡ ds → Says h program sentence (rule_item i k r) s to ds
      says s to mor [] eq = absurd (subst (λ z. Has z fits.daughter.0) eq fits.daughter.1)
      says s to mor (d ∷ ds) eq = pends s to mor d ds eq

  -- the rules from number j on
  rules_good : (i : ℕ) → i ≤ length sentence → (j : ℕ) (rs : List Rule) → ((r : Rule) → Has rs r → Has program.rules r) → ((k : ℕ) → get_or (map (λ (r : Rule). Some r.mother) rs) k None ≡ mother_at program.rules (Some (j + k))) →
      (x : ChartItem) → Has (rules_from i j rs) x → IsGood h program sentence x
  rules_good i place j [] sub numbers x has = absurd has
  rules_good i place j (r ∷ rs) sub numbers x (inl p) =
      let same : j + 0 ≡ j = omega arith in
      subst (IsGood h program sentence) (sym p) (rule_good r i j (sub r (inl refl)) (ap (λ z. mother_at program.rules (Some z)) (sym same) ∙ sym (numbers 0)) place)
  rules_good i place j (r ∷ rs) sub numbers x (inr p) =
      rules_good i place (suc j) rs (λ q at. sub q (inr at)) (λ k. numbers (suc k) ∙ ap (λ z. mother_at program.rules (Some z)) (omega arith)) x p

  between_good : (i : ℕ) → i ≤ length sentence → (x : ChartItem) → Has (between words program i) x → IsGood h program sentence x
  between_good i place x has = go (has_either (map (passive_of i i) words.empties) (rules_from i 0 program.rules) x has)
    where
      go : Has (map (passive_of i i) words.empties) x ⊎ Has (rules_from i 0 program.rules) x → IsGood h program sentence x
      go (inl p) = let r = has_map (passive_of i i) words.empties x p in subst (IsGood h program sentence) (sym r.2) (empty_good r.0 i r.1 place)
      go (inr p) = rules_good i place 0 program.rules (λ r at. at) (λ k. ap (λ z. mother_at program.rules (Some z)) (omega arith)) x p

  initial_good : (i : ℕ) (ws : List Word) → i + length ws ≡ length sentence → ((k : ℕ) → word_at ws k ≡ word_at sentence (i + k)) → (x : ChartItem) → Has (initial_items words program i ws) x → IsGood h program sentence x
  initial_good i [] size at x has = between_good i (omega arith) x has
  initial_good i (w ∷ ws) size at x has =
      go (initial_good (suc i) ws (omega arith) (λ k. at (suc k) ∙ ap (word_at sentence) (omega arith)) x)
      (has_either (map (passive_of i (suc i)) (filter (λ (e : Entry). same_word e.word w) words.entries)) (between words program i ++ initial_items words program (suc i) ws) x has)
    where
      entry : (e : Entry) → Has (filter (λ (e : Entry). same_word e.word w) words.entries) e → IsGood h program sentence (passive_of i (suc i) e)
      entry e p =
          let r = filter_has (λ (e : Entry). same_word e.word w) words.entries e p in
          let same : i + 0 ≡ i = omega arith in
          entry_good e i r.0 (ap (word_at sentence) (sym same) ∙ sym (at 0) ∙ ap Some (sym (same_is e.word w r.1))) (omega arith)

      go : (Has (initial_items words program (suc i) ws) x → IsGood h program sentence x) →
          Has (map (passive_of i (suc i)) (filter (λ (e : Entry). same_word e.word w) words.entries)) x ⊎ Has (between words program i ++ initial_items words program (suc i) ws) x → IsGood h program sentence x
      go ih (inl p) = let r = has_map (passive_of i (suc i)) (filter (λ (e : Entry). same_word e.word w) words.entries) x p in subst (IsGood h program sentence) (sym r.2) (entry r.0 r.1)
      go ih (inr p) = elim (has_either (between words program i) (initial_items words program (suc i) ws) x p) [
        | inl q ↦ between_good i (omega arith) x q
        | inr q ↦ ih q
      ]

  pub first_good : (x : ChartItem) → Has (initial_items words program 0 sentence) x → IsGood h program sentence x
  first_good x has = initial_good 0 sentence (omega arith) (λ k. ap (word_at sentence) (omega arith)) x has

-- what there is to be is there
module _ (program : Program) (words : Words) where
  pub word_there : (place : ℕ) (ws : List Word) (i : ℕ) (w : Word) → word_at ws i ≡ Some w → (e : Entry) → Has words.entries e → e.word ≡ w → Has (initial_items words program place ws) (passive_of (place + i) (suc (place + i)) e)
  word_there place [] i w at e has is = absurd (none_some at)
  word_there place (v ∷ ws) zero w at e has is =
      let same : place + 0 ≡ place = omega arith in
      subst (λ n. Has (initial_items words program place (v ∷ ws)) (passive_of n (suc n) e)) (sym same)
      (has_left (map (passive_of place (suc place)) (filter (λ (x : Entry). same_word x.word v) words.entries)) (between words program place ++ initial_items words program (suc place) ws) (passive_of place (suc place) e)
      (in_map (passive_of place (suc place)) (filter (λ (x : Entry). same_word x.word v) words.entries) e (Has-filter (λ (x : Entry). same_word x.word v) words.entries e has (is_same e.word v (is ∙ sym (some_one at))))))
  word_there place (v ∷ ws) (suc i) w at e has is =
      let same : suc place + i ≡ place + suc i = omega arith in
      subst (λ n. Has (initial_items words program place (v ∷ ws)) (passive_of n (suc n) e)) same
      (has_right (map (passive_of place (suc place)) (filter (λ (x : Entry). same_word x.word v) words.entries)) (between words program place ++ initial_items words program (suc place) ws) (passive_of (suc place + i) (suc (suc place + i)) e)
      (has_right (between words program place) (initial_items words program (suc place) ws) (passive_of (suc place + i) (suc (suc place + i)) e) (word_there (suc place) ws i w at e has is)))

  pub between_there : (place : ℕ) (ws : List Word) (i : ℕ) → i ≤ length ws → (x : ChartItem) → Has (between words program (place + i)) x → Has (initial_items words program place ws) x
  between_there place [] i low x has = let same : place + i ≡ place = omega arith in subst (λ n. Has (between words program n) x) same has
  between_there place (v ∷ ws) zero low x has =
      let same : place + 0 ≡ place = omega arith in
      has_right (map (passive_of place (suc place)) (filter (λ (x : Entry). same_word x.word v) words.entries)) (between words program place ++ initial_items words program (suc place) ws) x
      (has_left (between words program place) (initial_items words program (suc place) ws) x (subst (λ n. Has (between words program n) x) same has))
  between_there place (v ∷ ws) (suc i) low x has =
      let same : place + suc i ≡ suc place + i = omega arith in
      has_right (map (passive_of place (suc place)) (filter (λ (x : Entry). same_word x.word v) words.entries)) (between words program place ++ initial_items words program (suc place) ws) x
      (has_right (between words program place) (initial_items words program (suc place) ws) x (between_there (suc place) ws i (omega arith) x (subst (λ n. Has (between words program n) x) same has)))

  rules_there : (place j : ℕ) (rs : List Rule) (r : Rule) → Has rs r →
      (k : ℕ) × (get_or (map (λ (q : Rule). Some q.mother) rs) k None ≡ Some r.mother) × Has (rules_from place j rs) (record { from = place; to = place; kept = one_node r.slots; root = 0; rule = Some (j + k); rest = r.elements })
  rules_there place j [] r has = absurd has
  rules_there place j (q ∷ rs) r (inl e) =
      let same : j + 0 ≡ j = omega arith in
      (0, ap (λ (z : Rule). Some z.mother) (sym e), inl (ap (λ n. record { from = place; to = place; kept = one_node r.slots; root = 0; rule = Some n; rest = r.elements }) same ∙ ap (λ (z : Rule). record { from = place; to = place; kept = one_node z.slots; root = 0; rule = Some j; rest = z.elements }) e))
  rules_there place j (q ∷ rs) r (inr has) =
      let t = rules_there place (suc j) rs r has in
      let same : suc j + t.0 ≡ j + suc t.0 = omega arith in
      (suc t.0, t.1, inr (subst (λ n. Has (rules_from place (suc j) rs) (record { from = place; to = place; kept = one_node r.slots; root = 0; rule = Some n; rest = r.elements })) same t.2))

  pub rule_there : (place : ℕ) (r : Rule) → Has program.rules r →
      (k : ℕ) × (mother_at program.rules (Some k) ≡ Some r.mother) × Has (between words program place) (record { from = place; to = place; kept = one_node r.slots; root = 0; rule = Some k; rest = r.elements })
  rule_there place r has =
      let t = rules_there place 0 program.rules r has in
      let same : 0 + t.0 ≡ t.0 = omega arith in (
        t.0,
        t.1,
        has_right (map (passive_of place place) words.empties) (rules_from place 0 program.rules) (record { from = place; to = place; kept = one_node r.slots; root = 0; rule = Some t.0; rest = r.elements })
            (subst (λ n. Has (rules_from place 0 program.rules) (record { from = place; to = place; kept = one_node r.slots; root = 0; rule = Some n; rest = r.elements })) same t.2),
      )
