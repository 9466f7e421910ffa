-- How a search goes on where a goal is to be derived, a predicate is called, or a constraint is imposed.
-- `waiting` is how many states wait, `e` the number of an environment, `c` a cut height. The order is that of Prolog:
-- clauses in order, depth first.
use Rattle.std.specs.Prelude.{ℕ, zero, suc, Option, Some, None, List, [], ◌∷◌, length}
use Rattle.ale_logic.specs.Descriptions.{Description, Descriptions, none, more, how_many}
use Rattle.ale_logic.specs.Goals.{Goal, Goals, yes, cut, each, either, equal, call, unless, if_else, once, no_goal, and_goal}
use Rattle.ale_logic.specs.Programs.{Clause, Constraint}
use Rattle.ale_logic.specs.States.{holds, Item, on, derive, called, cuts, stop, State, doing, doing_all, grown, with_env, imposing}

-- so many numbers, from n on
abbrev pub numbers : ℕ → ℕ → List ℕ
numbers n zero = []
numbers n (suc k) = n ∷ numbers (suc n) k

-- the descriptions at the nodes, the first at the first and so on
abbrev pub items_each : ℕ → Descriptions → List ℕ → List Item
items_each e none ns = []
items_each e (more d ds) [] = []
items_each e (more d ds) (n ∷ ns) = on n (holds e d) ∷ items_each e ds ns

abbrev pub goals : ℕ → ℕ → Goals → List Item
goals e c no_goal = []
goals e c (and_goal g gs) = derive e c g ∷ goals e c gs

-- a state for each of the goals, in order
abbrev pub goal_alternatives : ℕ → ℕ → Goals → State → List State
goal_alternatives e c no_goal st = []
goal_alternatives e c (and_goal g gs) st = doing (derive e c g) st ∷ goal_alternatives e c gs st

-- a new node, at which both descriptions are to hold
abbrev pub equating : ℕ → Description → Description → State → State
equating e d d' st = doing (on st.next (holds e d)) (doing (on st.next (holds e d')) (grown 1 st))

-- the predicate is called of new nodes, at which the descriptions are to hold
abbrev pub calling : ℕ → ℕ → Descriptions → State → State
calling e p ds st =
    let ns : List ℕ = numbers st.next (how_many ds) in
    doing_all (items_each e ds ns) (doing (called p ns) (grown (how_many ds) st))

-- the kids of a goal
abbrev pub goal_kids : ℕ → ℕ → ℕ → Goal → State → List State
goal_kids waiting e c yes st = st ∷ []
goal_kids waiting e c cut st = st ∷ []
goal_kids waiting e c (each gs) st = doing_all (goals e c gs) st ∷ []
goal_kids waiting e c (either gs) st = goal_alternatives e c gs st
goal_kids waiting e c (equal d d') st = equating e d d' st ∷ []
goal_kids waiting e c (call p ds) st = calling e p ds st ∷ []
goal_kids waiting e c (unless g) st = doing_all (derive e waiting g ∷ cuts waiting ∷ stop ∷ []) st ∷ st ∷ []
goal_kids waiting e c (if_else g t f) st = doing_all (derive e waiting g ∷ cuts waiting ∷ derive e c t ∷ []) st ∷ doing (derive e c f) st ∷ []
goal_kids waiting e c (once g t) st = doing_all (derive e waiting g ∷ cuts waiting ∷ derive e c t ∷ []) st ∷ []

-- a clause in a new environment: its arguments at the nodes, then its body
abbrev pub by_clause : ℕ → List ℕ → Clause → State → State
by_clause waiting ns clause st =
    let e : ℕ = length st.envs in
    doing_all (items_each e clause.args ns) (doing (derive e waiting clause.body) (with_env clause.slots st))

-- a state for each clause, in order
abbrev pub clause_kids : ℕ → List ℕ → List Clause → State → List State
clause_kids waiting ns [] st = []
clause_kids waiting ns (clause ∷ clauses) st = by_clause waiting ns clause st ∷ clause_kids waiting ns clauses st

-- a goal, where there is one
abbrev pub doing_goal : ℕ → ℕ → Option Goal → State → State
doing_goal e c None st = st
doing_goal e c (Some g) st = doing (derive e c g) st

-- the constraint with number k is imposed on the node, in a new environment: its description, then its goal
abbrev pub with_constraint : ℕ → ℕ → ℕ → Constraint → State → State
with_constraint waiting n k c st =
    let e : ℕ = length st.envs in
    doing (on n (holds e c.desc)) (doing_goal e waiting c.goal (imposing n k (with_env c.slots st)))
