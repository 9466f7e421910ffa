use Rattle.std.specs.Prelude.{ℕ, Bool, List, ◌&&◌, nat_lt}
use Rattle.std.specs.List.{list_all}
use Rattle.ale_relation.specs.Has.{Has}

-- zero or more edges lead from `a` to `b`
pub data Reaches (edges : List (ℕ × ℕ)) : ℕ → ℕ → Type 0 where
  here : (a : ℕ) → Reaches edges a a
  along : (a b c : ℕ) → Has edges (a, b) → Reaches edges b c → Reaches edges a c

-- one or more edges lead from `a` to `b`
abbrev pub Leads : List (ℕ × ℕ) → ℕ → ℕ → Type 0
Leads edges a b = (m : ℕ) × Has edges (a, m) × Reaches edges m b

-- whether both ends of each edge are below `size`
abbrev pub ends_below : ℕ → List (ℕ × ℕ) → Bool
ends_below size edges = list_all (λ edge. nat_lt edge.0 size && nat_lt edge.1 size) edges

-- a path on from the end of a path is one path
abbrev pub ReachesIsTransitive : Type 0
ReachesIsTransitive =
    (edges : List (ℕ × ℕ)) (a b c : ℕ) → Reaches edges a b → Reaches edges b c → Reaches edges a c

-- the same of paths of one or more edges
abbrev pub LeadsIsTransitive : Type 0
LeadsIsTransitive =
    (edges : List (ℕ × ℕ)) (a b c : ℕ) → Leads edges a b → Leads edges b c → Leads edges a c
