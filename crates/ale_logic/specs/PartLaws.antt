-- What a way to keep answers must do: what is kept is a part of the answer, to which what was dropped can be added
-- again wherever the part goes. Source: this project's own.
use Rattle.std.specs.Prelude.{◌≡◌, ℕ, ◌<◌, ◌≤◌, Some, List, ◌∷◌, map, length}
use Rattle.ale_declared.specs.Lists.{Has}
use Rattle.ale_hierarchy.specs.Hierarchy.{Hierarchy, Above}
use Rattle.ale_graph.specs.Structures.{Structure, IsStructure, count, type_of, value_of}
use Rattle.ale_graph.specs.Morphisms.{IsMorphismAside}
use Rattle.ale_graph.specs.Extensions.{Extends}
use Rattle.ale_graph.specs.Closure.{node_of}
use Rattle.ale_logic.specs.Programs.{Element, cat, cats, derived, sem_head, member, tail, Program}
use Rattle.ale_logic.specs.Words.{IsKept, bound_in}
use Rattle.ale_logic.specs.States.{bound, env_at}
use Rattle.ale_logic.specs.Visits.{Answer}
use Rattle.ale_logic.specs.Parts.{Part, Extract, renamed, kept_answer}
use Rattle.ale_logic.specs.Extending.{OwesNothing}

-- the nodes that elements name are below n
abbrev pub IsElementBelow : ℕ → Element → Type 0
IsElementBelow n (member m) = m < n
IsElementBelow n (tail m) = m < n
IsElementBelow n (cat d) = Unit {0}
IsElementBelow n (cats d) = Unit {0}
IsElementBelow n (sem_head d) = Unit {0}
IsElementBelow n (derived g) = Unit {0}

abbrev pub AreElementsBelow : ℕ → List Element → Type 0
AreElementsBelow n es = (e : Element) → Has es e → IsElementBelow n e

-- The whole of an answer goes into an extension of the structure, as its part did, and each added node is where a
-- node of the answer went, and is of no type that this one is not of.
pub record IsReattached (h : Hierarchy) (a : Answer) (p : Part) (s : Structure) (to : ℕ → ℕ) : Type 0 where
  pub larger : Structure
  pub extends : Extends h s larger
  pub map : ℕ → ℕ
  pub is : IsMorphismAside h a.closed.graph larger map
  pub agrees : (n : ℕ) → n < count p.kept.graph → map (p.whole n) ≡ to n
  pub added : (n : ℕ) → count s ≤ n → n < count larger →
      (m : ℕ) × (m < count a.closed.graph) × (map m ≡ n) × ((t : ℕ) → Above h t (type_of larger n) → Above h t (type_of a.closed.graph m))

pub record IsPart (h : Hierarchy) (program : Program) (root : ℕ) (a : Answer) (p : Part) : Type 0 where
  pub is : IsKept h p.kept p.root
  pub rest_below : AreElementsBelow (count p.kept.graph) p.rest
  -- wherever the whole goes by a morphism, so does the part
  pub onward : (s : Structure) (to : ℕ → ℕ) → IsMorphismAside h a.closed.graph s to → IsMorphismAside h p.kept.graph s (λ n. to (p.whole n))
  -- it has the values of its nodes
  pub values : (n f v : ℕ) → n < count p.kept.graph → value_of a.closed.graph (p.whole n) f ≡ Some v → (m : ℕ) × (value_of p.kept.graph n f ≡ Some m)
  pub root_is : p.whole p.root ≡ node_of a.closed root
  pub rest : map (renamed (node_of a.closed)) a.state.rest ≡ map (renamed p.whole) p.rest
  pub imposed : (n k : ℕ) → Has p.kept.imposed (n, k) → (m : ℕ) × Has a.state.imposed (m, k) × (node_of a.closed m ≡ p.whole n)
  pub owes : OwesNothing h program (kept_answer a) → OwesNothing h program p.kept
  pub env : (v n : ℕ) → bound_in p.kept.env v ≡ Some n → (m : ℕ) × (bound a.state.envs 0 v ≡ Some m) × (node_of a.closed m ≡ p.whole n)
  -- where elements remain, it is the whole environment, and as long
  pub env_whole : (e : Element) (es : List Element) → p.rest ≡ e ∷ es → (v m : ℕ) → bound a.state.envs 0 v ≡ Some m → (n : ℕ) × (bound_in p.kept.env v ≡ Some n) × (p.whole n ≡ node_of a.closed m)
  pub env_length : (e : Element) (es : List Element) → p.rest ≡ e ∷ es → length p.kept.env ≡ length (env_at a.state.envs 0)
  pub reattached : (s : Structure) (to : ℕ → ℕ) → IsStructure h s → IsMorphismAside h p.kept.graph s to → IsReattached h a p s to

-- all of the answer can be kept: its root, its variables, what was imposed and the elements name nodes of its graph
pub record IsKeepable (h : Hierarchy) (root : ℕ) (a : Answer) : Type 0 where
  pub is : IsKept h (kept_answer a) (node_of a.closed root)
  pub rest_below : AreElementsBelow (count a.closed.graph) (map (renamed (node_of a.closed)) a.state.rest)

abbrev pub PartLaw : Hierarchy → Program → Extract → Type 0
PartLaw h program extract = (root : ℕ) (a : Answer) → IsKeepable h root a → IsPart h program root a (extract root a)
