-- When a node spans part of a sentence: by its words, by an empty category, or by a rule whose elements cover
-- it from left to right. Source: phrase structure rules, ALE 3.2 User's Guide; `cats>` is this project's own.
use Rattle.std.specs.Prelude.{◌≡◌, ℕ, suc, ◌<◌, Option, Some, None, List, [], ◌∷◌, get_or, map}
use Rattle.ale_declared.specs.Lists.{Has}
use Rattle.ale_hierarchy.specs.Hierarchy.{Hierarchy}
use Rattle.ale_graph.specs.Structures.{Structure, count}
use Rattle.ale_logic.specs.Descriptions.{Description, HoldsAt, IsAssignment}
use Rattle.ale_logic.specs.Goals.{Goal}
use Rattle.ale_logic.specs.Programs.{Word, Element, cat, cats, derived, sem_head, member, tail, Rule, Program}
use Rattle.ale_logic.specs.Derivations.{Derivable}
use Rattle.ale_logic.specs.ListNodes.{IsEmptyList, IsCell, IsHd, IsTl}
use Rattle.ale_logic.specs.Lexical.{Lexical, IsEmptyCategory}

abbrev pub word_at : List Word → ℕ → Option Word
word_at words i = get_or (map Some words) i None

mutual
  pub data Spans (h : Hierarchy) (program : Program) (s : Structure) (words : List Word) : ℕ → ℕ → ℕ → Type 0 where
    by_word : (n i : ℕ) (w : Word) → word_at words i ≡ Some w → Lexical h program s w n → Spans h program s words n i (suc i)
    by_empty : (n i : ℕ) → IsEmptyCategory h program s n → Spans h program s words n i i
    by_rule : (n i k : ℕ) (r : Rule) (assign : ℕ → ℕ) → Has program.rules r → IsAssignment s assign → n < count s → HoldsAt h s assign r.mother n →
        Covers h program s words assign r.elements i k → Spans h program s words n i k

  -- the elements, in order and under one assignment, cover the words from i to k without a gap; what remains of a
  -- list whose first members are done is its next member and its tail
  pub data Covers (h : Hierarchy) (program : Program) (s : Structure) (words : List Word) : (ℕ → ℕ) → List Element → ℕ → ℕ → Type 0 where
    no_more : (assign : ℕ → ℕ) (i : ℕ) → Covers h program s words assign [] i i
    by_cat : (assign : ℕ → ℕ) (d : Description) (es : List Element) (m i j k : ℕ) → HoldsAt h s assign d m → Spans h program s words m i j →
        Covers h program s words assign es j k → Covers h program s words assign (cat d ∷ es) i k
    by_head : (assign : ℕ → ℕ) (d : Description) (es : List Element) (m i j k : ℕ) → HoldsAt h s assign d m → Spans h program s words m i j →
        Covers h program s words assign es j k → Covers h program s words assign (sem_head d ∷ es) i k
    by_cats : (assign : ℕ → ℕ) (d : Description) (es : List Element) (m i j k : ℕ) → HoldsAt h s assign d m → ListSpans h program s words m i j →
        Covers h program s words assign es j k → Covers h program s words assign (cats d ∷ es) i k
    by_goal : (assign : ℕ → ℕ) (g : Goal) (es : List Element) (i k : ℕ) → Derivable h program s assign g →
        Covers h program s words assign es i k → Covers h program s words assign (derived g ∷ es) i k
    by_member : (assign : ℕ → ℕ) (es : List Element) (m hd i j k : ℕ) → IsHd program s m hd → Spans h program s words hd i j →
        Covers h program s words assign es j k → Covers h program s words assign (member m ∷ es) i k
    by_tail : (assign : ℕ → ℕ) (es : List Element) (m tl i j k : ℕ) → IsTl program s m tl → ListSpans h program s words tl i j →
        Covers h program s words assign es j k → Covers h program s words assign (tail m ∷ es) i k

  -- the members of the list span the words from i to k, one after the other
  pub data ListSpans (h : Hierarchy) (program : Program) (s : Structure) (words : List Word) : ℕ → ℕ → ℕ → Type 0 where
    ends : (m i : ℕ) → m < count s → IsEmptyList h program s m → ListSpans h program s words m i i
    goes_on : (m hd tl i j k : ℕ) → m < count s → IsCell h program s m hd tl →
        Spans h program s words hd i j → ListSpans h program s words tl j k → ListSpans h program s words m i k
