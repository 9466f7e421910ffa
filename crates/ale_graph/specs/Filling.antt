-- Filling: while a class lacks a feature of its type, the least such class gets a new node as its value by
-- the first missing one, of the restricting type. Source: total well-typedness, Carpenter 1992, chapter 6.
use Rattle.std.specs.Prelude.{ℕ, suc, ◌&&◌, eqb, Option, Some, None, List, [], ◌∷◌, ◌++◌, if◌then◌else◌}
use Rattle.ale_declared.specs.Lists.{upto, sum_over}
use Rattle.ale_hierarchy.specs.Hierarchy.{Hierarchy}
use Rattle.ale_graph.specs.declared.fact.Fact.{Fact}
use Rattle.ale_graph.specs.declared.fact.Fact.TheVariants.{OfType, Value, Same, Differ}
use Rattle.ale_graph.specs.Settled.{first_some, first_pair, settle}
use Rattle.ale_graph.specs.Types.{set_at}

-- the facts so far, the next node, and the class and type of each node; a class is its least node
pub record Filled : Type 0 where
  pub facts : List Fact
  pub next : ℕ
  pub class : ℕ → ℕ
  pub types : ℕ → ℕ

-- the class that a fact makes the value of class c by f
abbrev pub value_told : (ℕ → ℕ) → ℕ → ℕ → Fact → Option ℕ
value_told class c f (Value n g m) = if eqb (class n) c && eqb g f then Some (class m) else None
value_told class c f (OfType n t) = None
value_told class c f (Same a b) = None
value_told class c f (Differ a b) = None

-- the class that is the value of class c by f
abbrev pub class_value : (ℕ → ℕ) → List Fact → ℕ → ℕ → Option ℕ
class_value class facts c f = first_some (value_told class c f) facts

-- a class, a feature that it lacks, and the restriction on its value
pub record Gap : Type 0 where
  pub class : ℕ
  pub feature : ℕ
  pub fill : ℕ

abbrev pub gap_at : ℕ → ℕ → Option ℕ → Option ℕ → Option Gap
gap_at c f None v = None
gap_at c f (Some r) (Some m) = None
gap_at c f (Some r) None = Some (record { class = c; feature = f; fill = r })

-- the gap at node c by f, where c is a class that lacks f
abbrev pub gap : Hierarchy → Filled → ℕ → ℕ → Option Gap
gap h st c f = if eqb (st.class c) c then gap_at c f (h.approp f (st.types c)) (class_value st.class st.facts c f) else None

abbrev pub first_gap : Hierarchy → Filled → Option Gap
first_gap h st = first_pair (gap h st) (upto st.next) (upto h.features)

abbrev pub fill_gap : Gap → Filled → Filled
fill_gap g st = record {
  facts = st.facts ++ Value g.class g.feature st.next ∷ OfType st.next g.fill ∷ [];
  next = suc st.next;
  class = st.class;
  types = set_at st.next g.fill st.types;
}

-- how many nodes a gap will take
abbrev pub gap_size : Hierarchy → Option Gap → ℕ
gap_size h None = 0
gap_size h (Some g) = h.size g.fill

abbrev pub class_debt : Hierarchy → Filled → ℕ → ℕ
class_debt h st c = sum_over (λ f. gap_size h (gap h st c f)) (upto h.features)

-- how many nodes all gaps will take
abbrev pub debt : Hierarchy → Filled → ℕ
debt h st = sum_over (class_debt h st) (upto st.next)

unfoldable pub fill : Hierarchy → Filled → Filled
fill h st = settle (first_gap h) fill_gap (debt h st) st
