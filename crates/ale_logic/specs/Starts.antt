-- The states with which searches start: for a description, a goal, the words of a node, a lexical rule, and
-- for an item of the chart alone or with another. Their order is this project's own.
use Rattle.std.specs.Prelude.{ℕ, ◌+◌, Option, Some, None, List, [], ◌∷◌, map, get_or, replicate}
use Rattle.ale_graph.specs.declared.fact.Fact.TheVariants.{Same}
use Rattle.ale_logic.specs.Descriptions.{Description}
use Rattle.ale_logic.specs.Goals.{Goal}
use Rattle.ale_logic.specs.Programs.{Element, cat, cats, derived, sem_head, member, tail, Rule, LexicalRule, Program}
use Rattle.ale_logic.specs.ListNodes.{hd_of, tl_of}
use Rattle.ale_logic.specs.Words.{Environment, Kept, Entry}
use Rattle.ale_logic.specs.States.{holds, generates, Item, on, derive, split, State, told, doing, doing_all, grown, with_phrases}
use Rattle.ale_logic.specs.GoalKids.{doing_goal}
use Rattle.ale_logic.specs.Putting.{putting}

-- nothing is known, of no node, with one environment and these elements that remain
abbrev pub nothing : Environment → List Element → State
nothing env rest = record { facts = []; next = 0; imposed = []; envs = env ∷ []; phrases = 0; said = []; choices = []; agenda = []; rest = rest }

-- node 0 alone, and so many variables, which are all unbound
abbrev pub start_with : ℕ → State
start_with slots = grown 1 (nothing (replicate slots None) [])

-- the description is to hold at node 0
abbrev pub start : ℕ → Description → State
start slots d = doing (on 0 (holds 0 d)) (start_with slots)

-- the goal is to be derived; node 0 is hidden
abbrev pub start_goal : ℕ → Goal → State
start_goal slots g = doing (derive 0 0 g) (start_with slots)

-- and words are to be found for node 0, as phrase 0
abbrev pub start_gen : ℕ → Description → State
start_gen slots d = doing_all (on 0 (holds 0 d) ∷ on 0 (generates 0) ∷ []) (with_phrases 1 (start_with slots))

-- the rule's input holds at the entry's root, its output at a new node, and its goal is derived
abbrev pub start_lex : LexicalRule → Entry → State
start_lex rule x =
    let st : State = putting x.kept (nothing (replicate rule.slots None) []) in
    doing (on x.root (holds 0 rule.input)) (doing (on st.next (holds 0 rule.output)) (doing_goal 0 0 rule.goal (grown 1 st)))

-- an item of the chart, over the words from `from` to before `to`: passive where no element remains, else of the
-- rule with its number
pub record ChartItem : Type 0 where
  pub from : ℕ
  pub to : ℕ
  pub kept : Kept
  pub root : ℕ
  pub rule : Option ℕ
  pub rest : List Element

-- the description of the rule's mother, where there is such a rule
abbrev pub mother_at : List Rule → Option ℕ → Option Description
mother_at rules None = None
mother_at rules (Some r) = get_or (map (λ (rule : Rule). Some rule.mother) rules) r None

abbrev pub at_node : ℕ → Option Description → Option (ℕ × Description)
at_node n None = None
at_node n (Some d) = Some (n, d)

-- where no element remains, the mother's description is to hold at the root
abbrev pub end_of : Program → ChartItem → List Element → Option (ℕ × Description)
end_of program x [] = at_node x.root (mother_at program.rules x.rule)
end_of program x (e ∷ es) = None

abbrev pub end_items : Option (ℕ × Description) → List Item
end_items None = []
end_items (Some end) = on end.0 (holds 0 end.1) ∷ []

-- the item's structure, with its environment and these elements that remain
abbrev pub start_item : ChartItem → List Element → State
start_item x es = putting x.kept (nothing x.kept.env es)

abbrev pub split_at : Program → ChartItem → List Element → Option ℕ → List State
split_at program x es None = []
split_at program x es (Some m) = doing (split m (end_of program x es)) (start_item x es) ∷ []

-- the search of an item of its own, where its first element is a goal, a list, or the tail of one
abbrev pub own_start : Program → ChartItem → Element → List Element → List State
own_start program x (derived g) es = doing (derive 0 0 g) (doing_all (end_items (end_of program x es)) (start_item x es)) ∷ []
own_start program x (cats d) es =
    let st : State = start_item x es in
    doing (on st.next (holds 0 d)) (doing (split st.next (end_of program x es)) (grown 1 st)) ∷ []
own_start program x (tail n) es = split_at program x es (tl_of program.lists x.kept.graph n)
own_start program x (cat d) es = []
own_start program x (sem_head d) es = []
own_start program x (member n) es = []

-- two items side by side; what is to be done at the end comes last
abbrev pub side_by_side : Program → ChartItem → List Element → ChartItem → State
side_by_side program x es y = putting y.kept (doing_all (end_items (end_of program x es)) (start_item x es))

-- the root of the second item, among the nodes of both
abbrev pub root_beside : ChartItem → List Element → ChartItem → ℕ
root_beside x es y = (start_item x es).next + y.root

abbrev pub same_as : State → ℕ → Option ℕ → List State
same_as st n None = []
same_as st n (Some m) = told (Same m n) st ∷ []

-- the search of an item whose first element is a daughter, with a passive item as that daughter
abbrev pub daughter_start : Program → ChartItem → Element → List Element → ChartItem → List State
daughter_start program x (cat d) es y = doing (on (root_beside x es y) (holds 0 d)) (side_by_side program x es y) ∷ []
daughter_start program x (sem_head d) es y = doing (on (root_beside x es y) (holds 0 d)) (side_by_side program x es y) ∷ []
daughter_start program x (member n) es y = same_as (side_by_side program x es y) (root_beside x es y) (hd_of program.lists x.kept.graph n)
daughter_start program x (derived g) es y = []
daughter_start program x (cats d) es y = []
daughter_start program x (tail n) es y = []
