-- Single steps of the code: what is still to come of the walk, and the passes that find the tags. No definition of the
-- text rests on them.
use Rattle.std.specs.Prelude.{◌≡◌, ◌<◌, ℕ, suc, ◌+◌, Bool, true, false, ◌&&◌, ltb, leb, List, [], ◌∷◌, length, get_or, slice_set, if◌then◌else◌}
use Rattle.ale_declared.specs.Lists.{every}
use Rattle.ale_graph.specs.declared.node.Node.{Node}
use Rattle.ale_graph.specs.Structures.{Structure, count, node_at, type_of, is_root}
use Rattle.ale_print.specs.declared.line.Place.{Place}
use Rattle.ale_print.specs.declared.line.Place.TheVariants.{Root, Value, Also}
use Rattle.ale_print.specs.declared.line.Shown.{Shown}
use Rattle.ale_print.specs.declared.line.Shown.TheVariants.{Unbound, First, Again}
use Rattle.ale_print.specs.declared.line.Line.{Line}
use Rattle.ale_print.specs.declared.line.Stop.{Stop}
use Rattle.ale_print.specs.Walking.{is_met, level_below, walk, lines_of}

-- the elements from the last to the first, before the rest
abbrev pub turned : {A : Type 0} → List A → List A → List A
turned [] rest = rest
turned (x ∷ xs) rest = turned xs (x ∷ rest)

-- a stack holds its first element last
abbrev pub from_top : {A : Type 0} → List A → List A
from_top xs = turned xs []

-- how many nodes have not been met
abbrev pub unmet : List Bool → ℕ
unmet [] = 0
unmet (m ∷ ms) = if m then unmet ms else suc (unmet ms)

-- how many values the nodes have that have not been met
abbrev pub owed : List Node → List Bool → ℕ
owed [] ms = 0
owed (x ∷ xs) [] = 0
owed (x ∷ xs) (m ∷ ms) = (if m then 0 else length x.values) + owed xs ms

-- how many stops are to come at most
abbrev pub to_come : Structure → List Bool → List Stop → ℕ
to_come s met waiting = length waiting + owed s.nodes met

-- no later line shows the node as met for the first time
abbrev pub IsNew : Shown → List Line → Type 0
IsNew Unbound lines = Unit {0}
IsNew (First n) lines = is_met lines n ≡ false
IsNew (Again n) lines = Unit {0}

-- each node is met for the first time once
abbrev pub AreOnce : List Line → Type 0
AreOnce [] = Unit {0}
AreOnce (l ∷ ls) = IsNew l.shown ls × AreOnce ls

-- what is shown is one of the first n nodes
abbrev pub is_shown_below : ℕ → Shown → Bool
is_shown_below n Unbound = true
is_shown_below n (First m) = ltb m n
is_shown_below n (Again m) = ltb m n

-- the place is by one of the first features, so many of them
abbrev pub is_place_in : ℕ → Place → Bool
is_place_in features (Root i) = true
is_place_in features (Value level f) = ltb f features
is_place_in features Also = true

-- the lines are of so many nodes and features
abbrev pub are_in : ℕ → ℕ → List Line → Bool
are_in nodes features lines = every (λ l. is_shown_below nodes l.shown && is_place_in features l.place) lines

-- the stops are of so many nodes, none of them deeper than one level after so many lines
abbrev pub are_near : ℕ → ℕ → List Stop → Bool
are_near nodes lines stops = every (λ x. is_root nodes x.node && leb (level_below x.place) (lines + 1)) stops

-- The walk has come so far: the nodes of its lines are flagged, and with the stops that wait it gives all lines.
pub record IsUnderway (s : Structure) (met : List Bool) (lines : List Line) (waiting : List Stop) : Type 0 where
  pub agrees : (n : ℕ) → get_or met n false ≡ is_met lines n
  pub size : length met ≡ count s
  pub near : are_near (count s) (length lines) waiting ≡ true
  pub rest : walk s (unmet met) lines waiting ≡ lines_of s

-- a node that is met again is flagged
abbrev pub flag_shown : Shown → List Bool → List Bool
flag_shown Unbound flags = flags
flag_shown (First n) flags = flags
flag_shown (Again n) flags = slice_set flags n true

abbrev pub flag_lines : List Line → List Bool → List Bool
flag_lines [] flags = flags
flag_lines (l ∷ ls) flags = flag_lines ls (flag_shown l.shown flags)

-- so are the nodes of pairs
abbrev pub flag_pairs : List (ℕ × ℕ) → List Bool → List Bool
flag_pairs [] flags = flags
flag_pairs (p ∷ ps) flags = flag_pairs ps (slice_set (slice_set flags p.0 true) p.1 true)

-- the tags so far and how many there are
pub record Tags : Type 0 where
  pub given : List ℕ
  pub used : ℕ

-- the next tag to a node
abbrev pub give : Tags → ℕ → Tags
give t n = record { given = slice_set t.given n (t.used + 1); used = t.used + 1 }

-- a flagged node gets the next tag where it is met for the first time
abbrev pub tag_shown : List Bool → Shown → Tags → Tags
tag_shown flags Unbound t = t
tag_shown flags (First n) t = if get_or flags n false then give t n else t
tag_shown flags (Again n) t = t

abbrev pub tag_lines : List Bool → List Line → Tags → Tags
tag_lines flags [] t = t
tag_lines flags (l ∷ ls) t = tag_lines flags ls (tag_shown flags l.shown t)

-- the values of nodes are by the first features, so many of them, and their types are the first ones, so many of them
pub record IsOf (types features : ℕ) (s : Structure) : Type 0 where
  pub of_types : (n : ℕ) → n < count s → type_of s n < types
  pub by_features : (n : ℕ) → every (λ v. ltb v.0 features) (node_at s n).values ≡ true
