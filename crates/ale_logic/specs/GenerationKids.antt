-- How a search goes on where words are found for a node: a pivot with the node's semantics, from an entry, an
-- empty or a rule without a head, and rules with heads from it up to the node; and where a list is open.
-- Source: semantic-head-driven generation, Shieber, van Noord, Pereira and Moore 1990.
use Rattle.std.specs.Prelude.{ℕ, suc, ◌+◌, ltb, Option, Some, None, List, [], ◌∷◌, ◌++◌, length, if◌then◌else◌}
use Rattle.ale_graph.specs.declared.fact.Fact.TheVariants.{OfType, Same}
use Rattle.ale_logic.specs.Descriptions.{Description}
use Rattle.ale_logic.specs.Programs.{Element, cat, cats, derived, sem_head, member, tail, Rule, ListTypes}
use Rattle.ale_logic.specs.Words.{Entry, Grammar}
use Rattle.ale_logic.specs.Headed.{semantic_head}
use Rattle.ale_logic.specs.States.{holds, generates, generates_all, Target, Piece, word, phrase, Item, on, take, derive, called, pivot, connect, State, told, doing, doing_all, grown, with_env, with_phrases, say, remaining}
use Rattle.ale_logic.specs.Putting.{putting}

-- how many daughters have words of their own
abbrev pub daughters : List Element → ℕ
daughters [] = 0
daughters (cat d ∷ es) = suc (daughters es)
daughters (cats d ∷ es) = suc (daughters es)
daughters (derived g ∷ es) = daughters es
daughters (sem_head d ∷ es) = daughters es
daughters (member n ∷ es) = daughters es
daughters (tail n ∷ es) = daughters es

-- what is to be done for the elements: the first daughter is node n, and phrase g
abbrev pub element_items : ℕ → ℕ → ℕ → ℕ → List Element → List Item
element_items e c n g [] = []
element_items e c n g (cat d ∷ es) = on n (holds e d) ∷ on n (generates g) ∷ element_items e c (suc n) (suc g) es
element_items e c n g (cats d ∷ es) = on n (holds e d) ∷ on n (generates_all g) ∷ element_items e c (suc n) (suc g) es
element_items e c n g (derived goal ∷ es) = derive e c goal ∷ element_items e c n g es
element_items e c n g (sem_head d ∷ es) = element_items e c n g es
element_items e c n g (member m ∷ es) = element_items e c n g es
element_items e c n g (tail m ∷ es) = element_items e c n g es

-- the pieces of the elements, those of the head in its place
abbrev pub element_pieces : List Piece → ℕ → List Element → List Piece
element_pieces us g [] = []
element_pieces us g (cat d ∷ es) = phrase g ∷ element_pieces us (suc g) es
element_pieces us g (cats d ∷ es) = phrase g ∷ element_pieces us (suc g) es
element_pieces us g (derived goal ∷ es) = element_pieces us g es
element_pieces us g (sem_head d ∷ es) = us ++ element_pieces us g es
element_pieces us g (member m ∷ es) = element_pieces us g es
element_pieces us g (tail m ∷ es) = element_pieces us g es

-- a rule in a new environment: its mother at the next node, then what `before` gives, then its other elements, and
-- then that node, with the rule's pieces, is connected to the target
abbrev pub by_rule : ℕ → (ℕ → ℕ → List Item) → List Piece → Target → Rule → State → State
by_rule waiting before us target rule st =
    let e : ℕ = length st.envs in
    let k : ℕ = daughters rule.elements in
    doing_all (on st.next (holds e rule.mother) ∷ before e st.next)
    (doing_all (element_items e waiting (suc st.next) st.phrases rule.elements)
    (doing (connect st.next (element_pieces us st.phrases rule.elements) target)
    (with_phrases k (grown (suc k) (with_env rule.slots st)))))

-- a pivot with semantics s from the rule, where it has no head, before the others
abbrev pub pivot_rule : ℕ → ℕ → ℕ → Target → Rule → State → Option Description → List State → List State
pivot_rule waiting sem s target r st None others = by_rule waiting (λ e p. called sem (p ∷ s ∷ []) ∷ []) [] target r st ∷ others
pivot_rule waiting sem s target r st (Some d) others = others

abbrev pub pivot_rules : ℕ → ℕ → ℕ → Target → List Rule → State → List State
pivot_rules waiting sem s target [] st = []
pivot_rules waiting sem s target (r ∷ rs) st = pivot_rule waiting sem s target r st (semantic_head r.elements) (pivot_rules waiting sem s target rs st)

-- one more rule to go
abbrev pub one_up : Target → Target
one_up target = record target { steps = suc target.steps }

-- one more rule upward from p, where it has a head, before the others
abbrev pub upward_rule : ℕ → ℕ → List Piece → Target → Rule → State → Option Description → List State → List State
upward_rule waiting p us target r st None others = others
upward_rule waiting p us target r st (Some d) others = by_rule waiting (λ e q. on p (holds e d) ∷ []) us (one_up target) r st ∷ others

abbrev pub upward_rules : ℕ → ℕ → List Piece → Target → List Rule → State → List State
upward_rules waiting p us target [] st = []
upward_rules waiting p us target (r ∷ rs) st = upward_rule waiting p us target r st (semantic_head r.elements) (upward_rules waiting p us target rs st)

-- a pivot with semantics s from an entry or an empty, with its pieces
abbrev pub by_entry : ℕ → ℕ → Target → List Piece → Entry → State → State
by_entry sem s target pieces x st =
    let p : ℕ = st.next + x.root in
    doing_all (called sem (p ∷ s ∷ []) ∷ connect p pieces target ∷ []) (putting x.kept st)

abbrev pub entry_kids : ℕ → ℕ → Target → List Entry → State → List State
entry_kids sem s target [] st = []
entry_kids sem s target (x ∷ xs) st = by_entry sem s target (word x.word ∷ []) x st ∷ entry_kids sem s target xs st

abbrev pub empty_kids : ℕ → ℕ → Target → List Entry → State → List State
empty_kids sem s target [] st = []
empty_kids sem s target (x ∷ xs) st = by_entry sem s target [] x st ∷ empty_kids sem s target xs st

-- the kids of a node for which words are found, of a search for a pivot, of a connection, and of a list
abbrev pub generate_kids : Option ℕ → ℕ → ℕ → State → List State
generate_kids None n g st = []
generate_kids (Some sem) n g st =
    doing_all (called sem (n ∷ st.next ∷ []) ∷ pivot st.next (record { node = n; phrase = g; steps = 0 }) ∷ []) (grown 1 st) ∷ []

abbrev pub pivot_kids : Grammar → ℕ → Option ℕ → ℕ → Target → State → List State
pivot_kids gr waiting None s target st = []
pivot_kids gr waiting (Some sem) s target st =
    entry_kids sem s target gr.words.entries st ++ (empty_kids sem s target gr.words.empties st ++ pivot_rules waiting sem s target gr.program.rules st)

abbrev pub connect_kids : Grammar → ℕ → ℕ → List Piece → Target → State → List State
connect_kids gr waiting p us target st =
    told (Same p target.node) (say target.phrase us st)
    ∷ (if ltb target.steps gr.program.chain_length then upward_rules waiting p us target gr.program.rules st else [])

abbrev pub list_kids : Option ListTypes → ℕ → ℕ → State → List State
list_kids None n g st = []
list_kids (Some l) n g st =
    let first : ℕ = st.phrases in
    told (OfType n l.e_list) (say g [] st) ∷
    doing_all (take n l.hd (generates first) ∷ take n l.tl (generates_all (suc first)) ∷ [])
    (told (OfType n l.ne_list) (say g (phrase first ∷ phrase (suc first) ∷ []) (with_phrases 2 st))) ∷ []

-- what holds at the end of a list, where no element remains
abbrev pub ending : Option (ℕ × Description) → State → State
ending None st = st
ending (Some end) st = doing (on end.0 (holds 0 end.1)) st

-- an open list ends, or has a member, which is the next element
abbrev pub split_kids : Option ListTypes → ℕ → Option (ℕ × Description) → State → List State
split_kids None n end st = []
split_kids (Some l) n end st = told (OfType n l.e_list) (ending end st) ∷ told (OfType n l.ne_list) (remaining n st) ∷ []
