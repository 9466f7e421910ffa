-- The walk from the roots of one structure that finds where its nodes must go in another one: the roots to
-- the roots, and the values of a node to the values of its image. Source: matching of rooted graphs, folklore.
use Rattle.std.specs.Prelude.{ℕ, Bool, true, false, eqb, Option, Some, None, List, [], ◌∷◌, ◌++◌, map, get_or, drop, slice_set, if◌then◌else◌}
use Rattle.ale_graph.specs.Structures.{Structure, count, node_at, value_of}
use Rattle.ale_morphism.specs.declared.walk.Walk.{Walk}

-- where each node must go, as far as is known, and the nodes whose values have not been looked at
pub record Walking : Type 0 where
  pub images : List (Option ℕ)
  pub waiting : List ℕ

abbrev pub lists_of : Walk → Walking
lists_of w = record { images = w.images.items; waiting = w.waiting.items }

-- what the code's lists and answer stand for: the walk goes on, or there is no morphism
abbrev pub walking_of : Walk → Bool → Option Walking
walking_of w true = Some (lists_of w)
walking_of w false = None

-- where a node must go, if that is known
abbrev pub known : Walking → ℕ → Option ℕ
known w n = get_or w.images n None

-- a node that must go to another one than is known can't go anywhere
abbrev pub send_known : ℕ → ℕ → Option ℕ → Walking → Option Walking
send_known n to None w = Some (record { images = slice_set w.images n (Some to); waiting = w.waiting ++ n ∷ [] })
send_known n to (Some there) w = if eqb there to then Some w else None

-- the node must go there
abbrev pub send : ℕ → ℕ → Walking → Option Walking
send n to w = send_known n to (known w n) w

-- a node that must go to what is missing can't go anywhere
abbrev pub send_to : ℕ → Option ℕ → Walking → Option Walking
send_to n None w = None
send_to n (Some to) w = send n to w

-- the values must go to the values of node to
abbrev pub send_values : Structure → ℕ → List (ℕ × ℕ) → Walking → Option Walking
send_values t to [] w = Some w
send_values t to (v ∷ vs) w = elim (send_to v.1 (value_of t to v.0) w) [ None ↦ None | Some u ↦ send_values t to vs u ]

-- a root that is bound must go to the other one
abbrev pub send_root : Option ℕ → Option ℕ → Walking → Option Walking
send_root None o w = Some w
send_root (Some n) o w = send_to n o w

abbrev pub send_roots : List (Option ℕ) → List (Option ℕ) → Walking → Option Walking
send_roots [] ts w = Some w
send_roots (r ∷ rs) ts w = elim (send_root r (get_or ts 0 None) w) [ None ↦ None | Some u ↦ send_roots rs (drop 1 ts) u ]

-- the values of a node, where it is known where that one must go
abbrev pub visit_known : Structure → Structure → ℕ → Option ℕ → Walking → Option Walking
visit_known s t n None w = Some w
visit_known s t n (Some to) w = send_values t to (node_at s n).values w

abbrev pub visit : Structure → Structure → ℕ → Walking → Option Walking
visit s t n w = visit_known s t n (known w n) w

-- the map of a walk: what it doesn't know goes to no node of t
abbrev pub target : Structure → Option ℕ → ℕ
target t None = count t
target t (Some to) = to

abbrev pub targets : Structure → List (Option ℕ) → List ℕ
targets t images = map (target t) images
