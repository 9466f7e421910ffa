-- Worked examples: what is seen of replies, and of a lexicon. Source: this project's own examples; the expected values
-- are those of a reference that was written apart from these definitions.
use Rattle.std.specs.Prelude.{◌≡◌, ℕ, true, false, Some, List, [], ◌∷◌, map, codes}
use Rattle.ale_graph.specs.declared.node.Node.{Node}
use Rattle.ale_graph.specs.Structures.{Structure}
use Rattle.ale_morphism.specs.Visible.{visible}
use Rattle.ale_logic.specs.Descriptions.{of_type, slot, at, all, differs, none, more}
use Rattle.ale_logic.specs.Goals.{cut, each, equal, unless, if_else, no_goal, and_goal}
use Rattle.ale_logic.specs.Programs.{Word}
use Rattle.ale_logic.specs.Words.{Entry}
use Rattle.ale_logic.specs.Parts.{whole_of}
use Rattle.ale_logic.specs.Lexicons.{lexicon}
use Rattle.ale_logic.specs.Charts.{keep_all}
use Rattle.ale_logic.specs.Shown.{Shown, Reply, mgsat, query, gen, lex, rec}
use Rattle.ale_worked.specs.Sample.{list, e_list, ne_list, sign, np, vp, s, kim, walk, hd, tl, sem, sample}
use Rattle.ale_worked.specs.Grammars.{meaning, X, ok, bare, cell, append, appending, constrained, kim_word, walks_word, by_levels, with_empty, with_lists, headed}

-- a reply with the visible parts of its structures
abbrev pub seen : Reply → Reply
seen r = record r { answers = map (λ (a : Shown). record a { structure = visible a.structure }) r.answers }

-- an answer that is seen: its words, its nodes and its differing pairs; node 0 is its root
abbrev pub answer : List Word → List Node → List (ℕ × ℕ) → Shown
answer ws nodes differ = record { words = ws; structure = record { nodes = nodes; differ = differ; roots = Some 0 ∷ [] } }

abbrev pub node : ℕ → List (ℕ × ℕ) → Node
node t values = record { of = t; values = values }

-- one node; a sign and its content
abbrev pub only : ℕ → Shown
only t = answer [] (node t [] ∷ []) []

abbrev pub sign_of : List Word → ℕ → ℕ → Shown
sign_of ws t c = answer ws (node t ((sem, 1) ∷ []) ∷ node c [] ∷ []) []

abbrev pub complete : List Shown → ℕ → Reply
complete answers visits = record { answers = answers; visits = visits; complete = true }

-- `ok(X)`, by two clauses
abbrev pub TwoClauses : Type 0
TwoClauses = seen (query sample bare 1 (ok X) (0 ∷ []) 300) ≡ complete (only kim ∷ only walk ∷ []) 9

-- `ok(X), X = walk`
abbrev pub Conjunction : Type 0
Conjunction = seen (query sample bare 1 (each (and_goal (ok X) (and_goal (equal X (of_type walk)) no_goal))) (0 ∷ []) 300) ≡ complete (only walk ∷ []) 16

-- `append(X, Y, [kim])`: the empty list and the list, and the list and the empty list, which is one node each time
abbrev pub Append : Type 0
Append =
    seen (query sample appending 2 (append X (slot 1) (cell (of_type kim) (of_type e_list))) (0 ∷ 1 ∷ []) 300)
    ≡ complete
    (record { words = []; structure = record { nodes = node e_list [] ∷ node ne_list ((hd, 2) ∷ (tl, 0) ∷ []) ∷ node kim [] ∷ []; differ = []; roots = Some 0 ∷ Some 1 ∷ [] } }
    ∷ record { words = []; structure = record { nodes = node ne_list ((hd, 2) ∷ (tl, 1) ∷ []) ∷ node e_list [] ∷ node kim [] ∷ []; differ = []; roots = Some 0 ∷ Some 1 ∷ [] } }
    ∷ []) 52

-- `ok(X), !`
abbrev pub FirstOnly : Type 0
FirstOnly = seen (query sample bare 1 (each (and_goal (ok X) (and_goal cut no_goal))) (0 ∷ []) 300) ≡ complete (only kim ∷ []) 8

-- `\+ ok(X)` and `\+ ok(np)`; the second has an answer without roots
pub record Negation : Type 0 where
  pub refuted : seen (query sample bare 1 (unless (ok X)) (0 ∷ []) 300) ≡ complete [] 8
  pub not_there : seen (query sample bare 0 (unless (ok (of_type np))) [] 300) ≡ complete (record { words = []; structure = record { nodes = []; differ = []; roots = [] } } ∷ []) 9

-- `ok(X) -> X = walk ; X = kim`
abbrev pub IfThenElse : Type 0
IfThenElse = seen (query sample bare 1 (if_else (ok X) (equal X (of_type walk)) (equal X (of_type kim))) (0 ∷ []) 300) ≡ complete [] 11

-- `ne_list, hd:kim, tl:(=\= e_list)`, and the same with a tail that is the one empty list
pub record Inequations : Type 0 where
  pub apart :
      seen (mgsat sample bare 0 (all (more (of_type ne_list) (more (at hd (of_type kim)) (more (at tl (differs (of_type e_list))) none)))) 300)
      ≡ complete (answer [] (node ne_list ((hd, 1) ∷ (tl, 2) ∷ []) ∷ node kim [] ∷ node list [] ∷ node e_list [] ∷ []) ((2, 3) ∷ []) ∷ []) 10
  pub one_only :
      seen (mgsat sample bare 0 (all (more (of_type ne_list) (more (at hd (of_type e_list)) (more (at tl (all (more (of_type e_list) (more (differs (of_type e_list)) none)))) none)))) 300)
      ≡ complete [] 12

-- `sign` and `np`, where a sign's content is `ok` and an np's is `kim`
pub record Constraints : Type 0 where
  pub one : seen (mgsat sample constrained 0 (of_type sign) 300) ≡ complete (sign_of [] sign kim ∷ sign_of [] sign walk ∷ []) 14
  pub two : seen (mgsat sample constrained 0 (of_type np) 300) ≡ complete (sign_of [] np kim ∷ []) 17

-- what a lexical rule made: the content stands before the sign, which is the root
abbrev pub made_sign : Structure
made_sign = record { nodes = node walk [] ∷ node s ((sem, 0) ∷ []) ∷ []; differ = []; roots = Some 1 ∷ [] }

-- the words, their levels and the visits of a lexicon
pub record Levels : Type 0 where
  pub words : map {B = Word × ℕ} (λ (e : Entry). (e.word, e.level)) (lexicon whole_of sample by_levels 300).words.entries ≡ (codes "walk", 0) ∷ (codes "walks", 1) ∷ (codes "walksd", 2) ∷ []
  pub visits : (lexicon whole_of sample by_levels 300).visits ≡ 34
  pub finished : (lexicon whole_of sample by_levels 300).finished ≡ true
  pub cut_off : (lexicon whole_of sample by_levels 33).finished ≡ false
  pub looked_up : seen (lex (lexicon whole_of sample by_levels 300) (codes "walks")) ≡ complete (record { words = []; structure = made_sign } ∷ []) 0

-- a word alone is a sentence, behind an empty category; and one with a list of daughters
pub record Parses : Type 0 where
  pub with_an_empty : seen (rec whole_of keep_all sample with_empty (lexicon whole_of sample with_empty 300) (walks_word ∷ []) 300) ≡ complete (sign_of [] vp walk ∷ sign_of [] s walk ∷ []) 28
  pub with_a_list : seen (rec whole_of keep_all sample with_lists (lexicon whole_of sample with_lists 300) (walks_word ∷ kim_word ∷ []) 300) ≡ complete (sign_of [] s walk ∷ []) 31

-- the words for a sentence that means `walk`
abbrev pub Generation : Type 0
Generation = seen (gen sample headed (lexicon whole_of sample headed 300) 0 (meaning s (of_type walk)) 300) ≡ complete (sign_of (kim_word ∷ walks_word ∷ []) s walk ∷ []) 73
