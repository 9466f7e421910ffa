-- The part of the output that a command has: its number, its answers with theirs, and how its search ended.
use Rattle.std.specs.Prelude.{ℕ, suc, Bool, true, false, Some, List, [], ◌∷◌, ◌++◌, codes, length, encode_utf8_all}
use Rattle.std.specs.Fmt.{decimal}
use Rattle.ale_declared.specs.Declarations.{Declared}
use Rattle.ale_hierarchy.specs.Order.{hierarchy}
use Rattle.ale_engine.specs.Engine.{Outcome}
use Rattle.ale_graph.specs.declared.closed.Closed.{Closed}
use Rattle.ale_graph.specs.Structures.{Structure}
use Rattle.ale_graph.specs.Closure.{node_of}
use Rattle.ale_logic.specs.declared.answer.Answer.{Answer}
use Rattle.ale_logic.specs.Descriptions.{Description}
use Rattle.ale_morphism.specs.Visible.{visible}
use Rattle.ale_print.specs.Texts as print
use Rattle.ale_search.specs.Outcomes.{found}

-- the search for what satisfies a description with so many variables
abbrev pub searched : Declared → ℕ → ℕ → Description → Outcome Answer
searched d budget slots desc = found (hierarchy d) budget slots desc

-- the graph of a closure, with the node of the description as its root
abbrev pub rooted : Closed → Structure
rooted c = record { nodes = c.graph.nodes; differ = c.graph.differ; roots = Some (node_of c 0) ∷ [] }

-- the structure that is written of an answer: what is visible of its graph from there
abbrev pub written : Answer → Structure
written c = visible (rooted c.closed)

abbrev pub answer_text : Declared → ℕ → Answer → List ℕ
answer_text d j c = codes "answer " ++ decimal j ++ codes "\n" ++ encode_utf8_all (print.answer_text d [] (written c))

-- the answers, counted from j on
abbrev pub answers_text : Declared → ℕ → List Answer → List ℕ
answers_text d j [] = []
answers_text d j (c ∷ cs) = answer_text d j c ++ answers_text d (suc j) cs

abbrev pub ending_word : Bool → List ℕ
ending_word true = codes "complete"
ending_word false = codes "unfinished"

abbrev pub ending_text : ℕ → ℕ → Bool → List ℕ
ending_text answers visits finished =
    codes "answers " ++ decimal answers ++ codes ", visits " ++ decimal visits ++ codes ", " ++ ending_word finished ++ codes "\n"

-- command k, whose search had this outcome
abbrev pub command_text : Declared → ℕ → Outcome Answer → List ℕ
command_text d k o =
    codes "command " ++ decimal k ++ codes ": mgsat\n" ++ answers_text d 1 o.answers ++ ending_text (length o.answers) o.visits o.finished
