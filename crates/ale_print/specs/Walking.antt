-- Which lines the text of a structure has: its nodes are met depth first from the roots, and then from the nodes
-- of differing pairs that no root reaches. The order is this project's own.
use Rattle.std.specs.Prelude.{ℕ, zero, suc, ◌+◌, Bool, false, eqb, Option, Some, None, List, [], ◌∷◌, ◌++◌, map, if◌then◌else◌}
use Rattle.ale_graph.specs.Structures.{Structure, count, node_at}
use Rattle.ale_morphism.specs.Visible.{some}
use Rattle.ale_print.specs.declared.line.Place.{Place}
use Rattle.ale_print.specs.declared.line.Place.TheVariants.{Root, Value, Also}
use Rattle.ale_print.specs.declared.line.Shown.{Shown}
use Rattle.ale_print.specs.declared.line.Shown.TheVariants.{Unbound, First, Again}
use Rattle.ale_print.specs.declared.line.Line.{Line}
use Rattle.ale_print.specs.declared.line.Stop.{Stop}
use Rattle.ale_print.specs.Pairing.{in_order}

abbrev pub shows_first : ℕ → Shown → Bool
shows_first n Unbound = false
shows_first n (First m) = eqb n m
shows_first n (Again m) = false

-- a node has been met where it stands on one of the lines
abbrev pub is_met : List Line → ℕ → Bool
is_met lines n = some (λ l. shows_first n l.shown) lines

-- how deep the values of a node stand that is met at the place
abbrev pub level_below : Place → ℕ
level_below (Root i) = 1
level_below (Value level f) = level + 1
level_below Also = 1

abbrev pub stop_below : ℕ → ℕ × ℕ → Stop
stop_below level v = record { place = Value level v.0; node = Some v.1 }

-- the values of a node that is met at the place, in feature order
abbrev pub stops_below : Structure → Place → ℕ → List Stop
stops_below s p n = map (stop_below (level_below p)) (node_at s n).values

abbrev pub line_of : Place → Shown → Line
line_of p x = record { place = p; shown = x }

-- a node that was met before has a line again, but not as a node of a differing pair
abbrev pub met_again : List Line → Place → ℕ → List Line
met_again lines (Root i) n = lines ++ line_of (Root i) (Again n) ∷ []
met_again lines (Value level f) n = lines ++ line_of (Value level f) (Again n) ∷ []
met_again lines Also n = lines

-- The lines after one stop: `along` goes on to the stops after it, `deeper` first to the values of a node that is
-- met there for the first time.
abbrev pub at_stop : Structure → List Line → Place → Option ℕ → (List Line → List Line) → (List Line → List Stop → List Line) → List Line
at_stop s lines p None along deeper = along (lines ++ line_of p Unbound ∷ [])
at_stop s lines p (Some n) along deeper =
    if is_met lines n then along (met_again lines p n)
    else deeper (lines ++ line_of p (First n) ∷ []) (stops_below s p n)

-- the lines after these stops, where `deeper` are those from a node on that is met for the first time
abbrev pub along : Structure → (List Line → List Stop → List Line) → List Line → List Stop → List Line
along s deeper lines [] = lines
along s deeper lines (x ∷ xs) =
    at_stop s lines x.place x.node (λ ls. along s deeper ls xs) (λ ls below. deeper ls (below ++ xs))

-- the lines after these stops, where so many nodes have not been met yet
abbrev pub walk : Structure → ℕ → List Line → List Stop → List Line
walk s zero = along s (λ lines stops. lines)
walk s (suc left) = along s (walk s left)

-- the roots, the first of them having the number i
abbrev pub root_stops : ℕ → List (Option ℕ) → List Stop
root_stops i [] = []
root_stops i (r ∷ rs) = record { place = Root i; node = r } ∷ root_stops (suc i) rs

abbrev pub also_stop : ℕ → Stop
also_stop n = record { place = Also; node = Some n }

-- both nodes of each pair
abbrev pub also_stops : List (ℕ × ℕ) → List Stop
also_stops [] = []
also_stops (p ∷ ps) = also_stop p.0 ∷ also_stop p.1 ∷ also_stops ps

-- the lines of the structure
unfoldable pub lines_of : Structure → List Line
lines_of s = walk s (count s) [] (root_stops 0 s.roots ++ also_stops (in_order s.differ))
