-- What is headed by words spans these words, wherever they stand, as no rule has two heads.
use Rattle.std.proofs.Common.{◌≡◌, ℕ, suc, ◌+◌, ◌≤◌, List, [], ◌∷◌, ◌++◌, length, map, get_or, refl, sym, ap, ◌∙◌, subst, arith, Some, None}
use Rattle.std.proofs.lemmas.List.{length-append, append_assoc, map-append, length-map}
use Rattle.std.proofs.Math.Seq.{get_or-append_seam}
use Rattle.ale_declared.specs.Lists.{Has}
use Rattle.ale_hierarchy.specs.Hierarchy.{Hierarchy}
use Rattle.ale_graph.specs.Structures.{Structure}
use Rattle.ale_graph.proofs.Lists.{some_one, none_some}
use Rattle.ale_logic.specs.Descriptions.{Description, HoldsAt}
use Rattle.ale_logic.specs.Programs.{Word, Element, cat, cats, derived, sem_head, member, tail, Rule, Program}
use Rattle.ale_logic.specs.Fitting.{sem_heads, FitsRule}
use Rattle.ale_logic.specs.Lexical.{Lexical, IsEmptyCategory}
use Rattle.ale_logic.specs.Spans.{word_at, Spans, Covers, ListSpans}
use Rattle.ale_logic.specs.Spans.Spans.{by_word, by_empty, by_rule}
use Rattle.ale_logic.specs.Spans.Covers.{no_more, by_cat, by_head, by_cats, by_goal}
use Rattle.ale_logic.specs.Spans.ListSpans.{ends, goes_on}
use Rattle.ale_logic.specs.Headed.{semantic_head, Headed, IsPivot, IsChain, Spells, HeadedList}
use Rattle.ale_logic.specs.Headed.Headed.{by_pivot}
use Rattle.ale_logic.specs.Headed.IsPivot.{word_pivot, empty_pivot, rule_pivot}
use Rattle.ale_logic.specs.Headed.IsChain.{arrived, upward}
use Rattle.ale_logic.specs.Headed.Spells.{spelled, spells_head, spells_cat, spells_cats, spells_goal}
use Rattle.ale_logic.specs.Headed.HeadedList.{list_end, list_on}
use Rattle.ale_logic.specs.GenerationLaws.{HeadedSpans}

-- the words ws stand in `words` from place i on
abbrev StandAt : List Word → ℕ → List Word → Type 0
StandAt words i [] = Unit {0}
StandAt words i (w ∷ ws) = (word_at words i ≡ Some w) × StandAt words (suc i) ws

stand_both : (words : List Word) (i : ℕ) (vs ws : List Word) → StandAt words i (vs ++ ws) → StandAt words i vs × StandAt words (i + length vs) ws
stand_both words i [] ws p = let same : i ≡ i + 0 = omega arith in (tt, subst (λ z. StandAt words z ws) same p)
stand_both words i (v ∷ vs) ws p =
    let r = stand_both words (suc i) vs ws p.1 in
    let same : suc i + length vs ≡ i + suc (length vs) = omega arith in
    ((p.0, r.0), subst (λ z. StandAt words z ws) same r.1)

stand_behind : (before ws : List Word) → StandAt (before ++ ws) (length before) ws
stand_behind before [] = tt
stand_behind before (w ∷ ws) =
    let words : List Word = before ++ w ∷ ws in
    let first : word_at (before ++ w ∷ ws) (length before) ≡ Some w =
    ap (λ z. get_or z (length before) None) (map-append Some before (w ∷ ws))
    ∙ ap (λ z. get_or (map Some before ++ Some w ∷ map Some ws) z None) (sym (length-map before Some))
    ∙ get_or-append_seam (map Some before) (Some w) (map Some ws) None in
    let more : before ++ w ∷ [] ++ ws ≡ before ++ w ∷ ws = append_assoc before (w ∷ []) ws in
    let long : length (before ++ w ∷ []) ≡ suc (length before) = let l = length-append before (w ∷ []) in omega arith in
    let rest : StandAt (before ++ w ∷ ws) (suc (length before)) ws = subst (λ z. StandAt (before ++ w ∷ ws) z ws) long (subst (λ z. StandAt z (length (before ++ w ∷ [])) ws) more (stand_behind (before ++ w ∷ []) ws)) in
    (first, rest)

-- without a head there is none
headless : (es : List Element) → sem_heads es ≤ 0 → semantic_head es ≡ None
headless [] few = refl
headless (sem_head d ∷ es) few = absurd (omega arith)
headless (cat d ∷ es) few = headless es few
headless (cats d ∷ es) few = headless es few
headless (derived g ∷ es) few = headless es few
headless (member n ∷ es) few = headless es few
headless (tail n ∷ es) few = headless es few

module _ (h : Hierarchy) (program : Program) (s : Structure) (rules : (r : Rule) → Has program.rules r → FitsRule h r) where
  abbrev SpansAll : ℕ → List Word → Type 0
  SpansAll n ws = (words : List Word) (i : ℕ) → StandAt words i ws → Spans h program s words n i (i + length ws)

  -- the head's description holds at a node that spans its words
  abbrev HeadSpans : (ℕ → ℕ) → List Word → List Element → Type 0
  HeadSpans assign us es = (d : Description) → semantic_head es ≡ Some d → (p : ℕ) × HoldsAt h s assign d p × SpansAll p us

  mutual
    headed_spans : (n : ℕ) (ws : List Word) → Headed h program s (Lexical h program s) (IsEmptyCategory h program s) n ws → SpansAll n ws
    headed_spans n ws (by_pivot _ sem p c us _ low inside means pv few chain) = chain_spans p us n ws c chain (pivot_spans p sem us pv)

    pivot_spans : (p sem : ℕ) (us : List Word) → IsPivot h program s (Lexical h program s) (IsEmptyCategory h program s) p sem us → SpansAll p us
    pivot_spans p sem _ (word_pivot _ _ w low lexical means) words i stand =
        let same : suc i ≡ i + length (w ∷ []) = omega arith in
        subst (Spans h program s words p i) same (by_word p i w stand.0 lexical)
    pivot_spans p sem _ (empty_pivot _ _ low empty means) words i stand =
        let same : i ≡ i + 0 = omega arith in
        subst (Spans h program s words p i) same (by_empty p i empty)
    pivot_spans p sem us (rule_pivot _ _ _ r assign has none nodes low mother means spells) words i stand =
        by_rule p i (i + length us) r assign has nodes low mother
        (covers assign [] r.elements us spells (rules r has).one_head (λ d e. absurd (none_some (sym none ∙ e))) words i stand)

    chain_spans : (p : ℕ) (us : List Word) (n : ℕ) (ws : List Word) (c : ℕ) → IsChain h program s (Lexical h program s) (IsEmptyCategory h program s) p us n ws c → SpansAll p us → SpansAll n ws
    chain_spans p us _ _ c (arrived _ _) spans = spans
    chain_spans p us n ws _ (upward _ q _ c _ vs _ r d assign has some nodes low mother below spells chain) spans =
        chain_spans q vs n ws c chain
        (λ words i stand. by_rule q i (i + length vs) r assign has nodes low mother
        (covers assign us r.elements vs spells (rules r has).one_head (λ e same. (p, subst (λ z. HoldsAt h s assign z p) (some_one (sym some ∙ same)) below, spans)) words i stand))

    covers : (assign : ℕ → ℕ) (us : List Word) (es : List Element) (vs : List Word) → Spells h program s (Lexical h program s) (IsEmptyCategory h program s) assign us es vs → sem_heads es ≤ 1 → HeadSpans assign us es →
        (words : List Word) (i : ℕ) → StandAt words i vs → Covers h program s words assign es i (i + length vs)
    covers assign us _ _ (spelled _ _) few heads words i stand =
        let same : i ≡ i + 0 = omega arith in
        subst (Covers h program s words assign [] i) same (no_more assign i)
    covers assign us _ _ (spells_head _ _ d es ws rest) few heads words i stand =
        let both = stand_both words i us ws stand in
        let head = heads d refl in
        let long : i + length us + length ws ≡ i + length (us ++ ws) = let l = length-append us ws in omega arith in
        subst (Covers h program s words assign (sem_head d ∷ es) i) long
        (by_head assign d es head.0 i (i + length us) (i + length us + length ws) head.1 (head.2 words i both.0)
        (covers assign us es ws rest (omega arith) (λ e same. absurd (none_some (sym (headless es (omega arith)) ∙ same))) words (i + length us) both.1))
    covers assign us _ _ (spells_cat _ _ d es m vs ws here headed rest) few heads words i stand =
        let both = stand_both words i vs ws stand in
        let long : i + length vs + length ws ≡ i + length (vs ++ ws) = let l = length-append vs ws in omega arith in
        subst (Covers h program s words assign (cat d ∷ es) i) long
        (by_cat assign d es m i (i + length vs) (i + length vs + length ws) here (headed_spans m vs headed words i both.0) (covers assign us es ws rest few heads words (i + length vs) both.1))
    covers assign us _ _ (spells_cats _ _ d es m vs ws here headed rest) few heads words i stand =
        let both = stand_both words i vs ws stand in
        let long : i + length vs + length ws ≡ i + length (vs ++ ws) = let l = length-append vs ws in omega arith in
        subst (Covers h program s words assign (cats d ∷ es) i) long
        (by_cats assign d es m i (i + length vs) (i + length vs + length ws) here (list_spans m vs headed words i both.0) (covers assign us es ws rest few heads words (i + length vs) both.1))
    covers assign us _ vs (spells_goal _ _ g es _ derivable rest) few heads words i stand =
        by_goal assign g es i (i + length vs) derivable (covers assign us es vs rest few heads words i stand)

    list_spans : (m : ℕ) (ws : List Word) → HeadedList h program s (Lexical h program s) (IsEmptyCategory h program s) m ws → (words : List Word) (i : ℕ) → StandAt words i ws → ListSpans h program s words m i (i + length ws)
    list_spans m _ (list_end _ low empty) words i stand =
        let same : i ≡ i + 0 = omega arith in
        subst (ListSpans h program s words m i) same (ends m i low empty)
    list_spans m _ (list_on _ hd tl vs ws low cell first others) words i stand =
        let both = stand_both words i vs ws stand in
        let long : i + length vs + length ws ≡ i + length (vs ++ ws) = let l = length-append vs ws in omega arith in
        subst (ListSpans h program s words m i) long
        (goes_on m hd tl i (i + length vs) (i + length vs + length ws) low cell (headed_spans hd vs first words i both.0) (list_spans tl ws others words (i + length vs) both.1))

pub headed_spans_law : HeadedSpans
headed_spans_law h program s n ws fits headed =
    let same : 0 + length ws ≡ length ws = omega arith in
    subst (Spans h program s ws n 0) same (headed_spans h program s fits.rules n ws headed ws 0 (stand_behind [] ws))
