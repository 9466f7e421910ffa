-- The closure's working lists, filled and merged step by step. This project's own representation.
use Rattle.std.specs.Prelude.{◌≡◌, ℕ, Bool, ◌&&◌, eqb, Option, Some, None, List, [], ◌∷◌, ◌++◌, length, is_some, filter, if◌then◌else◌}
use Rattle.ale_declared.specs.Lists.{upto}
use Rattle.ale_hierarchy.specs.Hierarchy.{Hierarchy}
use Rattle.ale_graph.specs.declared.fact.Fact.{Fact}
use Rattle.ale_graph.specs.declared.fact.Fact.TheVariants.{OfType, Value, Same}
use Rattle.ale_graph.specs.declared.draft.Draft.{Draft}
use Rattle.ale_graph.specs.Structures.{value_in}
use Rattle.ale_graph.specs.Classes.{classes}
use Rattle.ale_graph.specs.Types.{least_types}
use Rattle.ale_graph.specs.Filling.{Filled}
use Rattle.ale_graph.specs.Drafts.{class_in, type_in, values_in, same_lists}
use Rattle.ale_graph.specs.Keeping.{IsReady, IsTable}
use Rattle.ale_graph.specs.Joining.{merge, put_value}

-- the facts so far, the class and type of each node, and the values of each class
pub record Working : Type 0 where
  pub facts : List Fact
  pub class : List ℕ
  pub types : List ℕ
  pub values : List (List (ℕ × ℕ))

abbrev pub lists_of : Draft → Working
lists_of d = record { facts = d.facts.items; class = d.class.items; types = d.types.items; values = d.values.items }

-- what the working lists stand for
abbrev pub filled_of : Working → Filled
filled_of w = record { facts = w.facts; next = length w.class; class = class_in w.class; types = type_in w.types }

pub record IsDraft (h : Hierarchy) (w : Working) : Type 0 where
  pub ready : IsReady h (filled_of w)
  pub table : IsTable w.facts (class_in w.class) w.values
  pub types_length : length w.types ≡ length w.class
  pub values_length : length w.values ≡ length w.class

-- a new node of the restricting type as the value of class c by f
abbrev pub add_value : ℕ → ℕ → ℕ → Working → Working
add_value c f r w = record {
  facts = w.facts ++ Value c f (length w.class) ∷ OfType (length w.class) r ∷ [];
  class = w.class ++ length w.class ∷ [];
  types = w.types ++ r ∷ [];
  values = put_value c f (length w.class) w.values ++ [] ∷ [];
}

-- the same where the feature has a restriction and no value
abbrev pub fill_at : ℕ → ℕ → Option ℕ → Option ℕ → Working → Working
fill_at c f None v w = w
fill_at c f (Some r) (Some m) w = w
fill_at c f (Some r) None w = add_value c f r w

abbrev pub fill_feature : Hierarchy → ℕ → ℕ → Working → Working
fill_feature h c f w = fill_at c f (h.approp f (type_in w.types c)) (value_in (values_in w.values c) f) w

abbrev pub fill_features : Hierarchy → ℕ → List ℕ → Working → Working
fill_features h c [] w = w
fill_features h c (f ∷ fs) w = fill_features h c fs (fill_feature h c f w)

-- the features appropriate to a type, in order
abbrev pub features_of : Hierarchy → ℕ → List ℕ
features_of h t = filter (λ f. is_some (h.approp f t)) (upto h.features)

-- a class gets all that it lacks
abbrev pub fill_class : Hierarchy → ℕ → Working → Working
fill_class h c w = if eqb (class_in w.class c) c then fill_features h c (features_of h (type_in w.types c)) w else w

-- b is a class that its type and values don't tell apart from class a
abbrev pub is_like : Working → ℕ → ℕ → Bool
is_like w a b = (eqb (class_in w.class b) b && eqb (type_in w.types a) (type_in w.types b)) && same_lists (class_in w.class) (values_in w.values a) (values_in w.values b)

-- two classes are told to be the same
abbrev pub merge_in : ℕ → ℕ → Working → Working
merge_in a b w = record { facts = w.facts ++ Same a b ∷ []; class = merge a b w.class; types = w.types; values = w.values }

-- the draft with which filling starts
pub record IsFirstDraft (h : Hierarchy) (facts : List Fact) (next : ℕ) (w : Working) : Type 0 where
  pub draft : IsDraft h w
  pub types : least_types h facts next (classes facts next) ≡ Some (type_in w.types)
  pub is : filled_of w ≡ record { facts = facts; next = next; class = classes facts next; types = type_in w.types }
