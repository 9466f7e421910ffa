-- The least classes of nodes that obey the facts: nodes told to be the same, and the values by one feature
-- of the nodes of one class. Source: congruence closure, unification by merging, Carpenter 1992, chapter 3.
use Rattle.std.specs.Prelude.{ℕ, ◌&&◌, eqb, min, max, Option, Some, None, List, if◌then◌else◌}
use Rattle.ale_declared.specs.Lists.{upto, sum_over}
use Rattle.ale_graph.specs.declared.fact.Fact.{Fact}
use Rattle.ale_graph.specs.declared.fact.Fact.TheVariants.{Value, Same}
use Rattle.ale_graph.specs.Settled.{first_pair, settle}

-- the classes of two nodes, where they are two
abbrev pub two_classes : (ℕ → ℕ) → ℕ → ℕ → Option (ℕ × ℕ)
two_classes class a b = if eqb (class a) (class b) then None else Some (class a, class b)

-- two classes that two facts make one: a Same makes its nodes one, two Values by one feature theirs
abbrev pub made_one : (ℕ → ℕ) → Fact → Fact → Option (ℕ × ℕ)
made_one class (Same a b) y = two_classes class a b
made_one class (Value a f m) (Value b g n) = if eqb f g && eqb (class a) (class b) then two_classes class m n else None
made_one class x y = None

-- all nodes of the two classes are in the lower one
abbrev pub merged : ℕ × ℕ → (ℕ → ℕ) → ℕ → ℕ
merged p class a = if eqb (class a) (max p.0 p.1) then min p.0 p.1 else class a

-- each merge lowers it
abbrev pub class_sum : ℕ → (ℕ → ℕ) → ℕ
class_sum next class = sum_over class (upto next)

abbrev pub open_classes : List Fact → (ℕ → ℕ) → Option (ℕ × ℕ)
open_classes facts class = first_pair (made_one class) facts facts

-- from each node in a class of its own
unfoldable pub classes : List Fact → ℕ → ℕ → ℕ
classes facts next = settle (open_classes facts) merged (class_sum next (λ a. a)) (λ a. a)
