-- Which nodes are tagged in the text of a structure, and by which number: those that are met twice or more, and those
-- of differing pairs, counted from 1 in order of first meeting. Source: tags of shared structures, Carpenter 1992,
-- chapter 2; the counting is this project's own.
use Rattle.std.specs.Prelude.{ℕ, suc, Bool, false, ◌||◌, eqb, List, [], ◌∷◌, if◌then◌else◌}
use Rattle.ale_graph.specs.Structures.{Structure}
use Rattle.ale_morphism.specs.Visible.{some}
use Rattle.ale_print.specs.declared.line.Shown.{Shown}
use Rattle.ale_print.specs.declared.line.Shown.TheVariants.{Unbound, First, Again}
use Rattle.ale_print.specs.declared.line.Line.{Line}
use Rattle.ale_print.specs.Walking.{lines_of}

abbrev pub shows_again : ℕ → Shown → Bool
shows_again n Unbound = false
shows_again n (First m) = false
shows_again n (Again m) = eqb n m

abbrev pub is_met_again : List Line → ℕ → Bool
is_met_again lines n = some (λ l. shows_again n l.shown) lines

abbrev pub is_in_pair : List (ℕ × ℕ) → ℕ → Bool
is_in_pair pairs n = some (λ p. eqb n p.0 || eqb n p.1) pairs

abbrev pub is_tagged : List Line → List (ℕ × ℕ) → ℕ → Bool
is_tagged lines pairs n = is_met_again lines n || is_in_pair pairs n

-- the node that is met for the first time, where it passes the test, before the others
abbrev pub first_met : (ℕ → Bool) → Shown → List ℕ → List ℕ
first_met test Unbound ns = ns
first_met test (First n) ns = if test n then n ∷ ns else ns
first_met test (Again n) ns = ns

-- the nodes that pass the test, in order of first meeting
abbrev pub met_in_order : (ℕ → Bool) → List Line → List ℕ
met_in_order test [] = []
met_in_order test (l ∷ ls) = first_met test l.shown (met_in_order test ls)

-- the number of a node in a list of nodes that is counted from k, and 0 where it isn't there
abbrev pub number_from : ℕ → List ℕ → ℕ → ℕ
number_from k [] n = 0
number_from k (m ∷ ms) n = if eqb n m then k else number_from (suc k) ms n

-- the tag by which lines show a node, and 0 where it has none
abbrev pub tag_in : List Line → List (ℕ × ℕ) → ℕ → ℕ
tag_in lines pairs n = number_from 1 (met_in_order (is_tagged lines pairs) lines) n

-- the tag of a node of the structure
abbrev pub tag_of : Structure → ℕ → ℕ
tag_of s n = tag_in (lines_of s) s.differ n
