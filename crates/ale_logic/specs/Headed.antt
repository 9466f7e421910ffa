-- When a node is headed by words: a pivot with the node's semantics, and a chain of rules from the pivot up to
-- the node. Source: semantic-head-driven generation, Shieber, van Noord, Pereira and Moore 1990.
-- `at_word` and `at_empty` say at which nodes a word and an empty category stand.
use Rattle.std.specs.Prelude.{◌≡◌, ℕ, zero, suc, ◌<◌, ◌≤◌, Option, Some, None, List, [], ◌∷◌, ◌++◌}
use Rattle.ale_declared.specs.Lists.{Has}
use Rattle.ale_hierarchy.specs.Hierarchy.{Hierarchy}
use Rattle.ale_graph.specs.Structures.{Structure, count}
use Rattle.ale_logic.specs.Descriptions.{Description, HoldsAt, IsAssignment}
use Rattle.ale_logic.specs.Goals.{Goal}
use Rattle.ale_logic.specs.Programs.{Word, Element, cat, cats, derived, sem_head, member, tail, Rule, Program}
use Rattle.ale_logic.specs.ListNodes.{IsEmptyList, IsCell}
use Rattle.ale_logic.specs.Derivations.{Derivable, Callable}

-- the description of the semantic head, where there is one
abbrev pub semantic_head : List Element → Option Description
semantic_head [] = None
semantic_head (sem_head d ∷ es) = Some d
semantic_head (cat d ∷ es) = semantic_head es
semantic_head (cats d ∷ es) = semantic_head es
semantic_head (derived g ∷ es) = semantic_head es
semantic_head (member n ∷ es) = semantic_head es
semantic_head (tail n ∷ es) = semantic_head es

-- the semantics of the node is sem
abbrev pub Means : Hierarchy → Program → Structure → ℕ → ℕ → Type 0
Means h program s n sem = (p : ℕ) × (program.semantics ≡ Some p) × Callable h program s p (n ∷ sem ∷ [])

mutual
  pub data Headed (h : Hierarchy) (program : Program) (s : Structure) (at_word : Word → ℕ → Type 0) (at_empty : ℕ → Type 0) : ℕ → List Word → Type 0 where
    by_pivot : (n sem p c : ℕ) (us ws : List Word) → n < count s → sem < count s → Means h program s n sem →
        IsPivot h program s at_word at_empty p sem us → c ≤ program.chain_length → IsChain h program s at_word at_empty p us n ws c →
        Headed h program s at_word at_empty n ws

  -- p is a pivot with this semantics and these words
  pub data IsPivot (h : Hierarchy) (program : Program) (s : Structure) (at_word : Word → ℕ → Type 0) (at_empty : ℕ → Type 0) : ℕ → ℕ → List Word → Type 0 where
    word_pivot : (p sem : ℕ) (w : Word) → p < count s → at_word w p → Means h program s p sem → IsPivot h program s at_word at_empty p sem (w ∷ [])
    empty_pivot : (p sem : ℕ) → p < count s → at_empty p → Means h program s p sem → IsPivot h program s at_word at_empty p sem []
    rule_pivot : (p sem : ℕ) (us : List Word) (r : Rule) (assign : ℕ → ℕ) → Has program.rules r → semantic_head r.elements ≡ None →
        IsAssignment s assign → p < count s → HoldsAt h s assign r.mother p → Means h program s p sem →
        Spells h program s at_word at_empty assign [] r.elements us → IsPivot h program s at_word at_empty p sem us

  -- so many rules lead from p with the words us to n with the words ws
  pub data IsChain (h : Hierarchy) (program : Program) (s : Structure) (at_word : Word → ℕ → Type 0) (at_empty : ℕ → Type 0) : ℕ → List Word → ℕ → List Word → ℕ → Type 0 where
    arrived : (n : ℕ) (ws : List Word) → IsChain h program s at_word at_empty n ws n ws zero
    upward : (p q n c : ℕ) (us vs ws : List Word) (r : Rule) (d : Description) (assign : ℕ → ℕ) → Has program.rules r → semantic_head r.elements ≡ Some d →
        IsAssignment s assign → q < count s → HoldsAt h s assign r.mother q → HoldsAt h s assign d p →
        Spells h program s at_word at_empty assign us r.elements vs → IsChain h program s at_word at_empty q vs n ws c →
        IsChain h program s at_word at_empty p us n ws (suc c)

  -- the words of the elements, in order, with `us` in the head's place
  pub data Spells (h : Hierarchy) (program : Program) (s : Structure) (at_word : Word → ℕ → Type 0) (at_empty : ℕ → Type 0) : (ℕ → ℕ) → List Word → List Element → List Word → Type 0 where
    spelled : (assign : ℕ → ℕ) (us : List Word) → Spells h program s at_word at_empty assign us [] []
    spells_head : (assign : ℕ → ℕ) (us : List Word) (d : Description) (es : List Element) (ws : List Word) →
        Spells h program s at_word at_empty assign us es ws → Spells h program s at_word at_empty assign us (sem_head d ∷ es) (us ++ ws)
    spells_cat : (assign : ℕ → ℕ) (us : List Word) (d : Description) (es : List Element) (m : ℕ) (vs ws : List Word) → HoldsAt h s assign d m →
        Headed h program s at_word at_empty m vs → Spells h program s at_word at_empty assign us es ws → Spells h program s at_word at_empty assign us (cat d ∷ es) (vs ++ ws)
    spells_cats : (assign : ℕ → ℕ) (us : List Word) (d : Description) (es : List Element) (m : ℕ) (vs ws : List Word) → HoldsAt h s assign d m →
        HeadedList h program s at_word at_empty m vs → Spells h program s at_word at_empty assign us es ws → Spells h program s at_word at_empty assign us (cats d ∷ es) (vs ++ ws)
    spells_goal : (assign : ℕ → ℕ) (us : List Word) (g : Goal) (es : List Element) (ws : List Word) → Derivable h program s assign g →
        Spells h program s at_word at_empty assign us es ws → Spells h program s at_word at_empty assign us (derived g ∷ es) ws

  -- the words of the list's members, in order
  pub data HeadedList (h : Hierarchy) (program : Program) (s : Structure) (at_word : Word → ℕ → Type 0) (at_empty : ℕ → Type 0) : ℕ → List Word → Type 0 where
    list_end : (m : ℕ) → m < count s → IsEmptyList h program s m → HeadedList h program s at_word at_empty m []
    list_on : (m hd tl : ℕ) (vs ws : List Word) → m < count s → IsCell h program s m hd tl →
        Headed h program s at_word at_empty hd vs → HeadedList h program s at_word at_empty tl ws → HeadedList h program s at_word at_empty m (vs ++ ws)
