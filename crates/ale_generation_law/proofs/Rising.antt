-- What is headed where entries and empties stand is soon headed where words are lexical and empty categories are.
use Rattle.std.proofs.Common.{◌≡◌, ℕ, suc, ◌<◌, List, [], ◌∷◌, ◌++◌, ◌⊎◌, inl, inr, sym, subst}
use Rattle.ale_declared.specs.Lists.{Has}
use Rattle.ale_hierarchy.specs.Hierarchy.{Hierarchy, Above}
use Rattle.ale_graph.specs.Structures.{Structure, count, type_of}
use Rattle.ale_graph.specs.Morphisms.{IsMorphismAside}
use Rattle.ale_graph.specs.Extensions.{Extends}
use Rattle.ale_logic.specs.Programs.{Word, Element, cat, cats, derived, sem_head, Program}
use Rattle.ale_logic.specs.ListNodes.{IsCell}
use Rattle.ale_logic.specs.Models.{MeetsAt}
use Rattle.ale_logic.specs.Words.{Entry, Words, Grammar, HasEntry, HasEmpty}
use Rattle.ale_logic.specs.Lexical.{Lexical, LexicalAt, IsEmptyCategory}
use Rattle.ale_logic.specs.Headed.{Means, Headed, IsPivot, IsChain, Spells, HeadedList}
use Rattle.ale_logic.specs.Headed.Headed.{by_pivot}
use Rattle.ale_logic.specs.Headed.IsPivot.{word_pivot, empty_pivot, rule_pivot}
use Rattle.ale_logic.specs.Headed.IsChain.{arrived, upward}
use Rattle.ale_logic.specs.Headed.Spells.{spelled, spells_head, spells_cat, spells_cats, spells_goal}
use Rattle.ale_logic.specs.Headed.HeadedList.{list_end, list_on}
use Rattle.ale_logic.specs.Lexicons.{with_words}
use Rattle.ale_logic.specs.LexiconLaws.{AreSoundWords}
use Rattle.ale_logic.specs.Steps.{IsBrought}
use Rattle.ale_extension_law.proofs.Stays.{stays_law, within, type_stays, value_stays}
use Rattle.ale_generation_law.proofs.HeadedOn.{headed_inside, list_inside, pivot_inside, means_on, cell_on, headed_on, pivot_on, spells_on, list_on_larger}
use Rattle.ale_generation_law.proofs.Soon.{Later, Soon, Stays, soon_now, soon_map, soon_both}

-- a morphism into s is one into each extension
pub morphism_on : (h : Hierarchy) (g s t : Structure) → Extends h s t → (map : ℕ → ℕ) → IsMorphismAside h g s map → IsMorphismAside h g t map
morphism_on h g s t ext map m = record {
  into = λ n low. within h s t ext (map n) (m.into n low);
  types = λ n low. subst (Above h (type_of g n)) (sym (type_stays h s t ext (map n) (m.into n low))) (m.types n low);
  values = λ n f k e. value_stays h s t ext (map n) f (map k) (m.values n f k e);
  differs = m.differs;
}

module _ (h : Hierarchy) (program : Program) (words : Words) (sound : AreSoundWords h program words) (s : Structure) where
  abbrev gr : Grammar
  gr = with_words h program words

  -- an entry, and an empty, that stand at a node
  word_soon : (w : Word) (n : ℕ) → HasEntry gr s w n → Soon h program s (λ t. Lexical h program t w n)
  word_soon w n entry u ext =
      let e : Entry = entry.0 in
      let law = sound.entries e entry.1 in
      let r = law.sound u entry.3.map ext.larger (morphism_on h e.kept.graph s u ext entry.3.map entry.3.is) in
      record {
        larger = r.larger;
        extends = r.extends;
        added = r.sound.added;
        says = (e.level, law.level, lexical r.larger e (entry.3.map e.root) entry.2 entry.3.root_to r.says);
      }
    where
      lexical : (t : Structure) (e : Entry) (root : ℕ) → e.word ≡ w → root ≡ n → LexicalAt h program t e.level e.word root → LexicalAt h program t e.level w n
      lexical t e root one two k = subst (λ z. LexicalAt h program t e.level z n) one (subst (LexicalAt h program t e.level e.word) two k)

  empty_soon : (n : ℕ) → HasEmpty gr s n → Soon h program s (λ t. IsEmptyCategory h program t n)
  empty_soon n entry u ext =
      let e : Entry = entry.0 in
      let law = sound.empties e entry.1 in
      let r = law.sound u entry.2.map ext.larger (morphism_on h e.kept.graph s u ext entry.2.map entry.2.is) in
      record { larger = r.larger; extends = r.extends; added = r.sound.added; says = subst (IsEmptyCategory h program r.larger) entry.2.root_to r.says }

  -- what an entry or an empty brought is soon met
  pub brought_soon : (n k : ℕ) → IsBrought gr s n k → Soon h program s (λ t. MeetsAt h program t k n)
  brought_soon n k b u ext = go b.has
    where
      there : IsMorphismAside h b.entry.kept.graph u b.map
      there = morphism_on h b.entry.kept.graph s u ext b.map b.is

      go : Has words.entries b.entry ⊎ Has words.empties b.entry → Later h program u (λ t. MeetsAt h program t k n)
      go (inl has) =
          let r = (sound.entries b.entry has).sound u b.map ext.larger there in
          record { larger = r.larger; extends = r.extends; added = r.sound.added; says = subst (MeetsAt h program r.larger k) b.to (r.sound.imposed b.node k b.imposed) }
      go (inr has) =
          let r = (sound.empties b.entry has).sound u b.map ext.larger there in
          record { larger = r.larger; extends = r.extends; added = r.sound.added; says = subst (MeetsAt h program r.larger k) b.to (r.sound.imposed b.node k b.imposed) }

  -- the families over lexical words and empty categories, and that they stay in extensions
  abbrev pub IsHeadedIn : ℕ → List Word → Structure → Type 0
  IsHeadedIn n ws t = Headed h program t (Lexical h program t) (IsEmptyCategory h program t) n ws

  abbrev IsPivotIn : ℕ → ℕ → List Word → Structure → Type 0
  IsPivotIn p sem us t = IsPivot h program t (Lexical h program t) (IsEmptyCategory h program t) p sem us

  abbrev IsChainIn : ℕ → List Word → ℕ → List Word → ℕ → Structure → Type 0
  IsChainIn p us n ws c t = IsChain h program t (Lexical h program t) (IsEmptyCategory h program t) p us n ws c

  abbrev SpellsIn : (ℕ → ℕ) → List Word → List Element → List Word → Structure → Type 0
  SpellsIn assign us es vs t = Spells h program t (Lexical h program t) (IsEmptyCategory h program t) assign us es vs

  abbrev IsListIn : ℕ → List Word → Structure → Type 0
  IsListIn m ws t = HeadedList h program t (Lexical h program t) (IsEmptyCategory h program t) m ws

  words_stay : (u v : Structure) → Extends h u v → (w : Word) (n : ℕ) → n < count u → Lexical h program u w n → Lexical h program v w n
  words_stay u v ext w n low (depth, few, k) = (depth, few, (stays_law h program u v ext).lexical depth w n k)

  empties_stay : (u v : Structure) → Extends h u v → (n : ℕ) → n < count u → IsEmptyCategory h program u n → IsEmptyCategory h program v n
  empties_stay u v ext n low k = (stays_law h program u v ext).empty n k

  pub headed_stays : (n : ℕ) (ws : List Word) → Stays h program s (IsHeadedIn n ws)
  headed_stays n ws u v first ext k =
      headed_on h program u v ext (Lexical h program u) (Lexical h program v) (IsEmptyCategory h program u) (IsEmptyCategory h program v) (words_stay u v ext) (empties_stay u v ext) n ws k

  pivot_stays : (p sem : ℕ) (us : List Word) → Stays h program s (IsPivotIn p sem us)
  pivot_stays p sem us u v first ext k =
      pivot_on h program u v ext (Lexical h program u) (Lexical h program v) (IsEmptyCategory h program u) (IsEmptyCategory h program v) (words_stay u v ext) (empties_stay u v ext) p sem us k

  spells_stay : (assign : ℕ → ℕ) (us : List Word) (es : List Element) (vs : List Word) → Stays h program s (SpellsIn assign us es vs)
  spells_stay assign us es vs u v first ext k =
      spells_on h program u v ext (Lexical h program u) (Lexical h program v) (IsEmptyCategory h program u) (IsEmptyCategory h program v) (words_stay u v ext) (empties_stay u v ext) assign us es vs k

  list_stays : (m : ℕ) (ws : List Word) → Stays h program s (IsListIn m ws)
  list_stays m ws u v first ext k =
      list_on_larger h program u v ext (Lexical h program u) (Lexical h program v) (IsEmptyCategory h program u) (IsEmptyCategory h program v) (words_stay u v ext) (empties_stay u v ext) m ws k

  means_in : (u : Structure) → Extends h s u → (n sem : ℕ) → Means h program s n sem → Means h program u n sem
  means_in u ext n sem = means_on h program s u ext (HasEntry gr s) (HasEntry gr s) (HasEmpty gr s) (HasEmpty gr s) (λ w n low k. k) (λ n low k. k) n sem

  cell_in : (u : Structure) → Extends h s u → (m hd tl : ℕ) → m < count s → IsCell h program s m hd tl → IsCell h program u m hd tl
  cell_in u ext m hd tl low k = cell_on h program s u ext (HasEntry gr s) (HasEntry gr s) (HasEmpty gr s) (HasEmpty gr s) (λ w n low k. k) (λ n low k. k) m hd tl low k

  mutual
    pub headed_soon : (n : ℕ) (ws : List Word) → Headed h program s (HasEntry gr s) (HasEmpty gr s) n ws → Soon h program s (IsHeadedIn n ws)
    headed_soon n ws (by_pivot _ sem p c us _ low inside means pv few chain) =
        soon_map h program s (λ t. IsPivotIn p sem us t × IsChainIn p us n ws c t) (IsHeadedIn n ws)
        (λ u ext k. by_pivot n sem p c us ws (within h s u ext n low) (within h s u ext sem inside) (means_in u ext n sem means) k.0 few k.1)
        (soon_both h program s (IsPivotIn p sem us) (IsChainIn p us n ws c) (pivot_stays p sem us) (pivot_soon p sem us pv) (chain_soon p us n ws c (pivot_inside h program s (HasEntry gr s) (HasEmpty gr s) p sem us pv) chain))

    pivot_soon : (p sem : ℕ) (us : List Word) → IsPivot h program s (HasEntry gr s) (HasEmpty gr s) p sem us → Soon h program s (IsPivotIn p sem us)
    pivot_soon p sem _ (word_pivot _ _ w low entry means) =
        soon_map h program s (λ t. Lexical h program t w p) (IsPivotIn p sem (w ∷ []))
        (λ u ext k. word_pivot p sem w (within h s u ext p low) k (means_in u ext p sem means)) (word_soon w p entry)
    pivot_soon p sem _ (empty_pivot _ _ low entry means) =
        soon_map h program s (λ t. IsEmptyCategory h program t p) (IsPivotIn p sem [])
        (λ u ext k. empty_pivot p sem (within h s u ext p low) k (means_in u ext p sem means)) (empty_soon p entry)
    pivot_soon p sem us (rule_pivot _ _ _ r assign has none nodes low mother means spells) =
        soon_map h program s (SpellsIn assign [] r.elements us) (IsPivotIn p sem us)
        (λ u ext k. rule_pivot p sem us r assign has none ((stays_law h program s u ext).assigns assign nodes) (within h s u ext p low) ((stays_law h program s u ext).holds assign r.mother p low mother) (means_in u ext p sem means) k)
        (spells_soon assign [] r.elements us spells)

    chain_soon : (p : ℕ) (us : List Word) (n : ℕ) (ws : List Word) (c : ℕ) → p < count s → IsChain h program s (HasEntry gr s) (HasEmpty gr s) p us n ws c → Soon h program s (IsChainIn p us n ws c)
    chain_soon p us _ _ _ low (arrived _ _) = soon_now h program s (IsChainIn p us p us 0) (λ u ext. arrived p us)
    chain_soon p us n ws _ low (upward _ q _ c _ vs _ r d assign has some nodes inside mother below spells chain) =
        soon_map h program s (λ t. SpellsIn assign us r.elements vs t × IsChainIn q vs n ws c t) (IsChainIn p us n ws (suc c))
        (λ u ext k. upward p q n c us vs ws r d assign has some ((stays_law h program s u ext).assigns assign nodes) (within h s u ext q inside) ((stays_law h program s u ext).holds assign r.mother q inside mother)
        ((stays_law h program s u ext).holds assign d p low below) k.0 k.1)
        (soon_both h program s (SpellsIn assign us r.elements vs) (IsChainIn q vs n ws c) (spells_stay assign us r.elements vs) (spells_soon assign us r.elements vs spells) (chain_soon q vs n ws c inside chain))

    spells_soon : (assign : ℕ → ℕ) (us : List Word) (es : List Element) (vs : List Word) → Spells h program s (HasEntry gr s) (HasEmpty gr s) assign us es vs → Soon h program s (SpellsIn assign us es vs)
    spells_soon assign us _ _ (spelled _ _) = soon_now h program s (SpellsIn assign us [] []) (λ u ext. spelled assign us)
    spells_soon assign us _ _ (spells_head _ _ d es ws rest) =
        soon_map h program s (SpellsIn assign us es ws) (SpellsIn assign us (sem_head d ∷ es) (us ++ ws)) (λ u ext k. spells_head assign us d es ws k) (spells_soon assign us es ws rest)
    spells_soon assign us _ _ (spells_cat _ _ d es m vs ws here headed rest) =
        soon_map h program s (λ t. IsHeadedIn m vs t × SpellsIn assign us es ws t) (SpellsIn assign us (cat d ∷ es) (vs ++ ws))
        (λ u ext k. spells_cat assign us d es m vs ws ((stays_law h program s u ext).holds assign d m (headed_inside h program s (HasEntry gr s) (HasEmpty gr s) m vs headed) here) k.0 k.1)
        (soon_both h program s (IsHeadedIn m vs) (SpellsIn assign us es ws) (headed_stays m vs) (headed_soon m vs headed) (spells_soon assign us es ws rest))
    spells_soon assign us _ _ (spells_cats _ _ d es m vs ws here headed rest) =
        soon_map h program s (λ t. IsListIn m vs t × SpellsIn assign us es ws t) (SpellsIn assign us (cats d ∷ es) (vs ++ ws))
        (λ u ext k. spells_cats assign us d es m vs ws ((stays_law h program s u ext).holds assign d m (list_inside h program s (HasEntry gr s) (HasEmpty gr s) m vs headed) here) k.0 k.1)
        (soon_both h program s (IsListIn m vs) (SpellsIn assign us es ws) (list_stays m vs) (list_soon m vs headed) (spells_soon assign us es ws rest))
    spells_soon assign us _ _ (spells_goal _ _ g es ws derivable rest) =
        soon_map h program s (SpellsIn assign us es ws) (SpellsIn assign us (derived g ∷ es) ws) (λ u ext k. spells_goal assign us g es ws ((stays_law h program s u ext).derivable assign g derivable) k) (spells_soon assign us es ws rest)

    list_soon : (m : ℕ) (ws : List Word) → HeadedList h program s (HasEntry gr s) (HasEmpty gr s) m ws → Soon h program s (IsListIn m ws)
    list_soon m _ (list_end _ low empty) = soon_now h program s (IsListIn m []) (λ u ext. list_end m (within h s u ext m low) ((stays_law h program s u ext).empty_list m low empty))
    list_soon m _ (list_on _ hd tl vs ws low cell first others) =
        soon_map h program s (λ t. IsHeadedIn hd vs t × IsListIn tl ws t) (IsListIn m (vs ++ ws))
        (λ u ext k. list_on m hd tl vs ws (within h s u ext m low) (cell_in u ext m hd tl low cell) k.0 k.1)
        (soon_both h program s (IsHeadedIn hd vs) (IsListIn tl ws) (headed_stays hd vs) (headed_soon hd vs first) (list_soon tl ws others))
