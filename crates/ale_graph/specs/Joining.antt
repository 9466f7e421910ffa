-- The classes of the first step, by passes over the facts: whatever a fact puts together is put together at
-- once, and the values of each class are collected. Source: congruence closure by merging, folklore.
use Rattle.std.specs.Prelude.{ℕ, min, max, Bool, true, eqb, Option, Some, None, List, [], ◌∷◌, map, slice_set, if◌then◌else◌}
use Rattle.ale_graph.specs.declared.fact.Fact.{Fact}
use Rattle.ale_graph.specs.declared.fact.Fact.TheVariants.{OfType, Value, Same, Differ}
use Rattle.ale_graph.specs.Structures.{value_in}
use Rattle.ale_graph.specs.Drafts.{class_in, values_in, renamed, insert_value}

-- the class of each node, the values of each class, and whether a pass has put classes together
pub record Joining : Type 0 where
  pub class : List ℕ
  pub values : List (List (ℕ × ℕ))
  pub changed : Bool

-- the nodes of two classes in the lower one
abbrev pub merge : ℕ → ℕ → List ℕ → List ℕ
merge a b class = map (renamed (max a b) (min a b)) class

abbrev pub join_classes : ℕ → ℕ → Joining → Joining
join_classes a b j = if eqb a b then j else record { class = merge a b j.class; values = j.values; changed = true }

abbrev pub join_nodes : ℕ → ℕ → Joining → Joining
join_nodes a b j = join_classes (class_in j.class a) (class_in j.class b) j

abbrev pub put_value : ℕ → ℕ → ℕ → List (List (ℕ × ℕ)) → List (List (ℕ × ℕ))
put_value c f m values = slice_set values c (insert_value (values_in values c) f m)

-- one more value of a class, beside the one that it has by the feature
abbrev pub join_value : ℕ → ℕ → ℕ → Option ℕ → Joining → Joining
join_value c f m None j = record { class = j.class; values = put_value c f m j.values; changed = j.changed }
join_value c f m (Some k) j = join_nodes k m j

abbrev pub join_fact : Fact → Joining → Joining
join_fact (Same a b) j = join_nodes a b j
join_fact (Value n f m) j = join_value (class_in j.class n) f m (value_in (values_in j.values (class_in j.class n)) f) j
join_fact (OfType n t) j = j
join_fact (Differ a b) j = j

abbrev pub join_facts : List Fact → Joining → Joining
join_facts [] j = j
join_facts (x ∷ xs) j = join_facts xs (join_fact x j)
