-- The test of a morphism, as a function: node by node, pair by pair, root by root. It is what the code computes;
-- what a morphism is stands where structures are defined. Source: subsumption, Carpenter 1992, chapters 2 and 3.
use Rattle.std.specs.Prelude.{ℕ, ◌<◌, Bool, true, ◌&&◌, not, eqb, ltb, Option, Some, None, List, [], ◌∷◌, get_or, drop}
use Rattle.ale_declared.specs.Lists.{upto, every}
use Rattle.ale_hierarchy.specs.Hierarchy.{Hierarchy}
use Rattle.ale_graph.specs.Structures.{Structure, count, node_at, type_of, value_of}
use Rattle.ale_graph.specs.Collapsing.{same_option}

abbrev pub keeps_values : Structure → (ℕ → ℕ) → ℕ → List (ℕ × ℕ) → Bool
keeps_values t at m values = every (λ v. same_option (value_of t m v.0) (Some (at v.1))) values

abbrev pub keeps_node : Hierarchy → Structure → Structure → (ℕ → ℕ) → ℕ → Bool
keeps_node h s t at n =
    ltb (at n) (count t) && (h.is_above (type_of s n) (type_of t (at n)) && keeps_values t at (at n) (node_at s n).values)

abbrev pub keeps_nodes : Hierarchy → Structure → Structure → (ℕ → ℕ) → Bool
keeps_nodes h s t at = every (keeps_node h s t at) (upto (count s))

abbrev pub keeps_apart : (ℕ → ℕ) → List (ℕ × ℕ) → Bool
keeps_apart at pairs = every (λ p. not (eqb (at p.0) (at p.1))) pairs

abbrev pub keeps_root : (ℕ → ℕ) → Option ℕ → Option ℕ → Bool
keeps_root at None o = true
keeps_root at (Some n) o = same_option o (Some (at n))

abbrev pub keeps_roots : (ℕ → ℕ) → List (Option ℕ) → List (Option ℕ) → Bool
keeps_roots at [] ts = true
keeps_roots at (r ∷ rs) ts = keeps_root at r (get_or ts 0 None) && keeps_roots at rs (drop 1 ts)

abbrev pub is_morphism : Hierarchy → Structure → Structure → (ℕ → ℕ) → Bool
is_morphism h s t at = keeps_nodes h s t at && (keeps_apart at s.differ && keeps_roots at s.roots t.roots)
