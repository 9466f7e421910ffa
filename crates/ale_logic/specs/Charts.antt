-- The chart of a sentence: its first items, the searches of each item with those before it, and how it grows item
-- by item within a budget. Source: bottom-up chart parsing with active and passive items, folklore; the order is own.
use Rattle.std.specs.Prelude.{ℕ, zero, suc, ◌+◌, ◌-◌, eqb, Bool, true, false, ◌&&◌, Option, Some, None, List, [], ◌∷◌, ◌++◌, map, flat_map, filter, length, replicate, if◌then◌else◌}
use Rattle.ale_hierarchy.specs.Hierarchy.{Hierarchy}
use Rattle.ale_logic.specs.Programs.{Word, Element, Rule, Program}
use Rattle.ale_logic.specs.Words.{Kept, Entry, Words, Grammar}
use Rattle.ale_logic.specs.States.{State}
use Rattle.ale_logic.specs.Visits.{Answer, visit}
use Rattle.ale_engine.specs.Growth.{Task, Found, run_all}
use Rattle.ale_logic.specs.Parts.{Part, Extract}
use Rattle.ale_logic.specs.Starts.{ChartItem, own_start, daughter_start}
use Rattle.ale_logic.specs.Lexicons.{wordless}

abbrev pub same_word : Word → Word → Bool
same_word [] [] = true
same_word [] (c ∷ w) = false
same_word (c ∷ w) [] = false
same_word (c ∷ w) (d ∷ v) = eqb c d && same_word w v

-- an entry or an empty over these places
abbrev pub passive_of : ℕ → ℕ → Entry → ChartItem
passive_of from to x = record { from = from; to = to; kept = x.kept; root = x.root; rule = None; rest = [] }

-- node 0 alone, of the most general type
abbrev pub one_node : ℕ → Kept
one_node slots = record { graph = record { nodes = record { of = 0; values = [] } ∷ []; differ = []; roots = [] }; imposed = []; env = replicate slots None }

-- each rule, numbered from r on, with all its elements
abbrev pub rules_from : ℕ → ℕ → List Rule → List ChartItem
rules_from place r [] = []
rules_from place r (rule ∷ rules) = record { from = place; to = place; kept = one_node rule.slots; root = 0; rule = Some r; rest = rule.elements } ∷ rules_from place (suc r) rules

-- the empties at a place, and then the rules
abbrev pub between : Words → Program → ℕ → List ChartItem
between words program place = map (passive_of place place) words.empties ++ rules_from place 0 program.rules

-- at each place the entries of the word that begins there, the empties and the rules
abbrev pub initial_items : Words → Program → ℕ → List Word → List ChartItem
initial_items words program place [] = between words program place
initial_items words program place (w ∷ ws) =
    map (passive_of place (suc place)) (filter (λ (x : Entry). same_word x.word w) words.entries) ++ (between words program place ++ initial_items words program (suc place) ws)

abbrev pub ItemTask : Type 0
ItemTask = Task State Answer ChartItem

-- an answer's part as an item of the rule over these places
abbrev pub item_of : ℕ → ℕ → Option ℕ → Part → ChartItem
item_of from to rule p = record { from = from; to = to; kept = p.kept; root = p.root; rule = rule; rest = p.rest }

-- a search whose answers are items of x's rule, from where x begins
abbrev pub item_task : Extract → ChartItem → ℕ → State → ItemTask
item_task extract x to st = record { waiting = st ∷ []; made = λ a. item_of x.from to x.rule (extract x.root a) }

-- an item's own search, where it has one
abbrev pub own_tasks : Extract → Program → ChartItem → List Element → List ItemTask
own_tasks extract program x [] = []
own_tasks extract program x (e ∷ es) = map (item_task extract x x.to) (own_start program x e es)

-- an active item takes a passive one that begins where it ends
abbrev pub daughter_tasks : Extract → Program → ChartItem → List Element → ChartItem → List Element → List ItemTask
daughter_tasks extract program x [] y ys = []
daughter_tasks extract program x (e ∷ es) y (f ∷ fs) = []
daughter_tasks extract program x (e ∷ es) y [] = if eqb x.to y.from then map (item_task extract x y.to) (daughter_start program x e es y) else []

-- whichever of the two is active takes the other
abbrev pub pair_tasks : Extract → Program → ChartItem → ChartItem → List ItemTask
pair_tasks extract program x y = daughter_tasks extract program x x.rest y y.rest ++ daughter_tasks extract program y y.rest x x.rest

-- the searches of an item: its own, and one with each item before it that it meets, in order
abbrev pub tasks_of : Extract → Program → List ChartItem → ChartItem → List ItemTask
tasks_of extract program before x = own_tasks extract program x x.rest ++ flat_map (pair_tasks extract program x) before

-- whether an item is kept, by the items so far and itself
abbrev pub Keep : Type 0
Keep = List ChartItem → ChartItem → Bool

abbrev pub keep_all : Keep
keep_all items x = true

-- the results behind those that wait, where the Keep keeps them; `done` are the items before
abbrev pub put_kept : Keep → List ChartItem → List ChartItem → List ChartItem → List ChartItem
put_kept keep done todo [] = todo
put_kept keep done todo (x ∷ xs) = put_kept keep done (if keep (done ++ todo) x then todo ++ x ∷ [] else todo) xs

-- the items that were processed, those that wait, the visits that are left, and whether no search had a state
-- left to visit
pub record Chart : Type 0 where
  pub done : List ChartItem
  pub todo : List ChartItem
  pub left : ℕ
  pub finished : Bool

abbrev pub items : Chart → List ChartItem
items c = c.done ++ c.todo

abbrev pub after_item : Keep → Chart → ChartItem → List ChartItem → Found ChartItem → Chart
after_item keep c x xs f = record {
  done = c.done ++ x ∷ [];
  todo = put_kept keep (c.done ++ x ∷ []) xs f.all;
  left = c.left - f.visits;
  finished = c.finished && f.finished;
}

-- the first item that waits is processed
abbrev pub process_first : Extract → Keep → Grammar → Chart → List ChartItem → Chart
process_first extract keep gr c [] = c
process_first extract keep gr c (x ∷ xs) = after_item keep c x xs (run_all (visit gr) (tasks_of extract gr.program c.done x) c.left)

-- so many items are processed
abbrev pub processed : Extract → Keep → Grammar → ℕ → Chart → Chart
processed extract keep gr zero c = c
processed extract keep gr (suc n) c = processed extract keep gr n (process_first extract keep gr c c.todo)

-- the chart before its first item is processed
abbrev pub first_chart : Program → Words → List Word → ℕ → Chart
first_chart program words sentence budget = record { done = []; todo = initial_items words program 0 sentence; left = budget; finished = true }

-- Each new item is an answer, and each answer takes a visit: so after as many steps as there are first items and
-- visits none waits. The searches of a chart use no words.
unfoldable pub chart : Extract → Keep → Hierarchy → Program → Words → List Word → ℕ → Chart
chart extract keep h program words sentence budget =
    processed extract keep (wordless h program) (length (initial_items words program 0 sentence) + budget) (first_chart program words sentence budget)
