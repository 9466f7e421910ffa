-- What is headed by words stays so in an extension, and where words and empties stand at more nodes.
use Rattle.std.proofs.Common.{ℕ, ◌<◌, List, [], ◌∷◌}
use Rattle.ale_hierarchy.specs.Hierarchy.{Hierarchy}
use Rattle.ale_graph.specs.Structures.{Structure, count}
use Rattle.ale_graph.specs.Extensions.{Extends}
use Rattle.ale_logic.specs.Programs.{Word, Element, Program}
use Rattle.ale_logic.specs.ListNodes.{IsCell}
use Rattle.ale_logic.specs.Headed.{Means, Headed, IsPivot, IsChain, Spells, HeadedList}
use Rattle.ale_logic.specs.Headed.Headed.{by_pivot}
use Rattle.ale_logic.specs.Headed.IsPivot.{word_pivot, empty_pivot, rule_pivot}
use Rattle.ale_logic.specs.Headed.IsChain.{arrived, upward}
use Rattle.ale_logic.specs.Headed.Spells.{spelled, spells_head, spells_cat, spells_cats, spells_goal}
use Rattle.ale_logic.specs.Headed.HeadedList.{list_end, list_on}
use Rattle.ale_extension_law.proofs.Stays.{stays_law, within}

-- the nodes of which these families speak are nodes of the structure
module _ (h : Hierarchy) (program : Program) (s : Structure) (at_word : Word → ℕ → Type 0) (at_empty : ℕ → Type 0) where
  pub headed_inside : (n : ℕ) (ws : List Word) → Headed h program s at_word at_empty n ws → n < count s
  headed_inside n ws (by_pivot _ sem p c us _ low inside means pv few chain) = low

  pub list_inside : (m : ℕ) (ws : List Word) → HeadedList h program s at_word at_empty m ws → m < count s
  list_inside m _ (list_end _ low empty) = low
  list_inside m _ (list_on _ hd tl vs ws low cell first others) = low

  pub pivot_inside : (p sem : ℕ) (us : List Word) → IsPivot h program s at_word at_empty p sem us → p < count s
  pivot_inside p sem _ (word_pivot _ _ w low lexical means) = low
  pivot_inside p sem _ (empty_pivot _ _ low empty means) = low
  pivot_inside p sem us (rule_pivot _ _ _ r assign has none nodes low mother means spells) = low

module _ (h : Hierarchy) (program : Program) (s t : Structure) (ext : Extends h s t) (at_word now_word : Word → ℕ → Type 0) (at_empty now_empty : ℕ → Type 0)
    (on_word : (w : Word) (n : ℕ) → n < count s → at_word w n → now_word w n) (on_empty : (n : ℕ) → n < count s → at_empty n → now_empty n) where
  pub means_on : (n sem : ℕ) → Means h program s n sem → Means h program t n sem
  means_on n sem (p, is, (depth, calls)) = (p, is, (depth, (stays_law h program s t ext).calls depth p (n ∷ sem ∷ []) calls))

  pub cell_on : (m hd tl : ℕ) → m < count s → IsCell h program s m hd tl → IsCell h program t m hd tl
  cell_on m hd tl low k = record {
    is_list = (stays_law h program s t ext).non_empty_list m low k.is_list;
    hd_is = (stays_law h program s t ext).hds m hd k.hd_is;
    tl_is = (stays_law h program s t ext).tls m tl k.tl_is;
  }

  mutual
    pub headed_on : (n : ℕ) (ws : List Word) → Headed h program s at_word at_empty n ws → Headed h program t now_word now_empty n ws
    headed_on n ws (by_pivot _ sem p c us _ low inside means pv few chain) =
        by_pivot n sem p c us ws (within h s t ext n low) (within h s t ext sem inside) (means_on n sem means) (pivot_on p sem us pv) few (chain_on p us n ws c (pivot_inside h program s at_word at_empty p sem us pv) chain)

    pub pivot_on : (p sem : ℕ) (us : List Word) → IsPivot h program s at_word at_empty p sem us → IsPivot h program t now_word now_empty p sem us
    pivot_on p sem _ (word_pivot _ _ w low lexical means) = word_pivot p sem w (within h s t ext p low) (on_word w p low lexical) (means_on p sem means)
    pivot_on p sem _ (empty_pivot _ _ low empty means) = empty_pivot p sem (within h s t ext p low) (on_empty p low empty) (means_on p sem means)
    pivot_on p sem us (rule_pivot _ _ _ r assign has none nodes low mother means spells) =
        rule_pivot p sem us r assign has none ((stays_law h program s t ext).assigns assign nodes) (within h s t ext p low) ((stays_law h program s t ext).holds assign r.mother p low mother) (means_on p sem means) (spells_on assign [] r.elements us spells)

    pub chain_on : (p : ℕ) (us : List Word) (n : ℕ) (ws : List Word) (c : ℕ) → p < count s → IsChain h program s at_word at_empty p us n ws c → IsChain h program t now_word now_empty p us n ws c
    chain_on p us _ _ _ low (arrived _ _) = arrived p us
    chain_on p us n ws _ low (upward _ q _ c _ vs _ r d assign has some nodes inside mother below spells chain) =
        upward p q n c us vs ws r d assign has some ((stays_law h program s t ext).assigns assign nodes) (within h s t ext q inside) ((stays_law h program s t ext).holds assign r.mother q inside mother) ((stays_law h program s t ext).holds assign d p low below)
        (spells_on assign us r.elements vs spells) (chain_on q vs n ws c inside chain)

    pub spells_on : (assign : ℕ → ℕ) (us : List Word) (es : List Element) (vs : List Word) → Spells h program s at_word at_empty assign us es vs → Spells h program t now_word now_empty assign us es vs
    spells_on assign us _ _ (spelled _ _) = spelled assign us
    spells_on assign us _ _ (spells_head _ _ d es ws rest) = spells_head assign us d es ws (spells_on assign us es ws rest)
    spells_on assign us _ _ (spells_cat _ _ d es m vs ws here headed rest) =
        spells_cat assign us d es m vs ws ((stays_law h program s t ext).holds assign d m (headed_inside h program s at_word at_empty m vs headed) here) (headed_on m vs headed) (spells_on assign us es ws rest)
    spells_on assign us _ _ (spells_cats _ _ d es m vs ws here headed rest) =
        spells_cats assign us d es m vs ws ((stays_law h program s t ext).holds assign d m (list_inside h program s at_word at_empty m vs headed) here) (list_on_larger m vs headed) (spells_on assign us es ws rest)
    spells_on assign us _ _ (spells_goal _ _ g es ws derivable rest) = spells_goal assign us g es ws ((stays_law h program s t ext).derivable assign g derivable) (spells_on assign us es ws rest)

    pub list_on_larger : (m : ℕ) (ws : List Word) → HeadedList h program s at_word at_empty m ws → HeadedList h program t now_word now_empty m ws
    list_on_larger m _ (list_end _ low empty) = list_end m (within h s t ext m low) ((stays_law h program s t ext).empty_list m low empty)
    list_on_larger m _ (list_on _ hd tl vs ws low cell first others) = list_on m hd tl vs ws (within h s t ext m low) (cell_on m hd tl low cell) (headed_on hd vs first) (list_on_larger tl ws others)
