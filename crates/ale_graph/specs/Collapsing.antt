-- Extensional merging: while two classes have one extensional type and the same class as value by each
-- feature, the first such pair is told to be the same. Source: extensionality, Carpenter 1992, chapter 8.
use Rattle.std.specs.Prelude.{ℕ, Bool, true, false, ◌&&◌, eqb, ltb, Option, Some, None, [], ◌∷◌, ◌++◌, if◌then◌else◌}
use Rattle.ale_declared.specs.Lists.{upto, every}
use Rattle.ale_hierarchy.specs.Hierarchy.{Hierarchy}
use Rattle.ale_graph.specs.declared.fact.Fact.TheVariants.{Same}
use Rattle.ale_graph.specs.Settled.{first_pair, settle}
use Rattle.ale_graph.specs.Classes.{merged, class_sum}
use Rattle.ale_graph.specs.Filling.{Filled, class_value}

abbrev pub same_option : Option ℕ → Option ℕ → Bool
same_option None None = true
same_option None (Some b) = false
same_option (Some a) None = false
same_option (Some a) (Some b) = eqb a b

-- both have the same value by each feature
abbrev pub same_values : Hierarchy → Filled → ℕ → ℕ → Bool
same_values h st a b = every (λ f. same_option (class_value st.class st.facts a f) (class_value st.class st.facts b f)) (upto h.features)

abbrev pub is_class : Filled → ℕ → Bool
is_class st a = eqb (st.class a) a

-- a and b are two classes, a the lower one, that nothing tells apart
abbrev pub is_double : Hierarchy → Filled → ℕ → ℕ → Bool
is_double h st a b =
    (ltb a b && (is_class st a && is_class st b))
    && ((eqb (st.types a) (st.types b) && h.is_ext (st.types a)) && same_values h st a b)

abbrev pub double : Hierarchy → Filled → ℕ → ℕ → Option (ℕ × ℕ)
double h st a b = if is_double h st a b then Some (a, b) else None

abbrev pub first_double : Hierarchy → Filled → Option (ℕ × ℕ)
first_double h st = first_pair (double h st) (upto st.next) (upto st.next)

abbrev pub merge_double : ℕ × ℕ → Filled → Filled
merge_double p st = record {
  facts = st.facts ++ Same p.0 p.1 ∷ [];
  next = st.next;
  class = merged p st.class;
  types = st.types;
}

unfoldable pub collapse : Hierarchy → Filled → Filled
collapse h st = settle (first_double h) merge_double (class_sum st.next st.class) st
