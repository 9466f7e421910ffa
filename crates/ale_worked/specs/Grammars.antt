-- Small programs over the sample signature.
-- Source: this project's own; the semantics predicate as in semantic-head-driven generation, Shieber et al. 1990.
use Rattle.std.specs.Prelude.{ℕ, Some, None, List, [], ◌∷◌, ◌++◌, codes}
use Rattle.ale_logic.specs.Descriptions.{Description, of_type, slot, at, all, none, more}
use Rattle.ale_logic.specs.Goals.{Goal, yes, call}
use Rattle.ale_logic.specs.Programs.{Word, Clause, Constraint, WordDeclaration, EmptyDeclaration, LexicalRule, Rule, cat, cats, sem_head, Program}
use Rattle.ale_worked.specs.Sample.{e_list, sign, np, vp, s, kim, walk, hd, tl, sem, list_types}

-- both hold; the content is as described; the variable X
abbrev pub both : Description → Description → Description
both d e = all (more d (more e none))

abbrev pub meaning : ℕ → Description → Description
meaning t d = both (of_type t) (at sem d)

abbrev pub X : Description
X = slot 0

-- `sem_of((sem:X), X) if true.`
abbrev pub sem_of : List Clause
sem_of = record { args = more (at sem X) (more X none); body = yes; slots = 1 } ∷ []

-- `ok(kim) if true. ok(walk) if true.`
abbrev pub fact : ℕ → Clause
fact t = record { args = more (of_type t) none; body = yes; slots = 0 }

abbrev pub ok : Description → Goal
ok d = call 1 (more d none)

abbrev pub clauses : List (List Clause)
clauses = sem_of ∷ (fact kim ∷ fact walk ∷ []) ∷ []

-- nothing but the clauses
abbrev pub bare : Program
bare = record {
  preds = clauses;
  constraints = [];
  words = [];
  empties = [];
  lex_rules = [];
  rules = [];
  semantics = Some 0;
  lists = Some list_types;
  lex_depth = 2;
  chain_length = 1;
}

-- `append(e_list, X, X) if true. append((hd:H, tl:T), X, (hd:H, tl:U)) if append(T, X, U).`
abbrev pub cell : Description → Description → Description
cell first others = both (at hd first) (at tl others)

abbrev pub append : Description → Description → Description → Goal
append a b c = call 0 (more a (more b (more c none)))

abbrev pub appending : Program
appending = record bare {
  preds =
      (record { args = more (of_type e_list) (more X (more X none)); body = yes; slots = 1 }
      ∷ record { args = more (cell X (slot 1)) (more (slot 2) (more (cell X (slot 3)) none)); body = append (slot 1) (slot 2) (slot 3); slots = 4 }
      ∷ []) ∷ [];
}

-- `sign cons (sem:X) goal ok(X). np cons (sem:kim).`
abbrev pub content_is_ok : Constraint
content_is_ok = record { of = sign; desc = at sem X; goal = Some (ok X); slots = 1 }

abbrev pub kim_alone : Constraint
kim_alone = record { of = np; desc = at sem (of_type kim); goal = None; slots = 0 }

abbrev pub constrained : Program
constrained = record bare { constraints = content_is_ok ∷ kim_alone ∷ [] }

-- `kim ---> np, sem:kim. walks ---> vp, sem:walk. empty np, sem:kim.`
abbrev pub word_of : Word → ℕ → ℕ → WordDeclaration
word_of w t c = record { word = w; desc = meaning t (of_type c); slots = 0 }

abbrev pub kim_word : Word
kim_word = codes "kim"

abbrev pub walks_word : Word
walks_word = codes "walks"

abbrev pub words : List WordDeclaration
words = word_of kim_word np kim ∷ word_of walks_word vp walk ∷ []

abbrev pub unspoken : EmptyDeclaration
unspoken = record { desc = meaning np (of_type kim); slots = 0 }

-- `(vp, sem:X) **> (s, sem:X) morphs Y becomes (Y,s).` and back, with another letter
abbrev pub lengthening : Word → ℕ → ℕ → LexicalRule
lengthening letter t u = record { input = meaning t X; output = meaning u X; goal = None; becomes = λ w. Some (w ++ letter); slots = 1 }

-- `walk ---> vp, sem:walk.` with both rules
abbrev pub by_levels : Program
by_levels = record bare {
  words = word_of (codes "walk") vp walk ∷ [];
  lex_rules = lengthening (codes "s") vp s ∷ lengthening (codes "d") s vp ∷ [];
}

-- `(s, sem:X) ===> cat> np, sem_head> (vp, sem:X).`
abbrev pub sentence : Rule
sentence = record { mother = meaning s X; elements = cat (of_type np) ∷ sem_head (meaning vp X) ∷ []; slots = 1 }

-- `(s, sem:X) ===> cat> (np, sem:kim), sem_head> (vp, sem:X).`
abbrev pub kim_sentence : Rule
kim_sentence = record { mother = meaning s X; elements = cat (meaning np (of_type kim)) ∷ sem_head (meaning vp X) ∷ []; slots = 1 }

-- `(s, sem:X) ===> sem_head> (vp, sem:X), cats> [np].`
abbrev pub one_np : Description
one_np = both (at hd (of_type np)) (at tl (of_type e_list))

abbrev pub with_list : Rule
with_list = record { mother = meaning s X; elements = sem_head (meaning vp X) ∷ cats one_np ∷ []; slots = 1 }

abbrev pub with_empty : Program
with_empty = record bare { words = words; empties = unspoken ∷ []; rules = sentence ∷ [] }

abbrev pub with_lists : Program
with_lists = record bare { words = words; rules = with_list ∷ [] }

abbrev pub headed : Program
headed = record bare { words = words; rules = kim_sentence ∷ [] }

-- all of it
abbrev pub whole : Program
whole = record constrained { words = words; empties = unspoken ∷ []; lex_rules = lengthening (codes "s") vp s ∷ []; rules = sentence ∷ with_list ∷ [] }
