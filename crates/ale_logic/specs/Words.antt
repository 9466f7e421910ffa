-- What a lexicon holds: for a word, or for no word, a feature structure kept from an answer, with the
-- constraints that were imposed in it, and its root. This project's own representation.
use Rattle.std.specs.Prelude.{◌≡◌, ℕ, ◌<◌, Option, Some, None, List, get_or}
use Rattle.ale_declared.specs.Lists.{Has}
use Rattle.ale_hierarchy.specs.Hierarchy.{Hierarchy}
use Rattle.ale_graph.specs.Structures.{Structure, IsStructure, count}
use Rattle.ale_graph.specs.Morphisms.{IsMorphismAside}
use Rattle.ale_logic.specs.Programs.{Word, Program}

-- each slot's node, where its variable is bound
abbrev pub Environment : Type 0
Environment = List (Option ℕ)

abbrev pub bound_in : Environment → ℕ → Option ℕ
bound_in env v = get_or env v None

-- the graph, the nodes and constraints imposed there, and an environment
pub record Kept : Type 0 where
  pub graph : Structure
  pub imposed : List (ℕ × ℕ)
  pub env : Environment

pub record Entry : Type 0 where
  pub word : Word
  pub level : ℕ
  pub kept : Kept
  pub root : ℕ

pub record Words : Type 0 where
  pub entries : List Entry
  pub empties : List Entry

-- what a search is made in: the signature, the program and the words
pub record Grammar : Type 0 where
  pub signature : Hierarchy
  pub program : Program
  pub words : Words

-- the graph is total and extensional, and the root and all nodes that are named are nodes of it
pub record IsKept (h : Hierarchy) (kept : Kept) (root : ℕ) : Type 0 where
  pub structure : IsStructure h kept.graph
  pub root_below : root < count kept.graph
  pub env_below : (v n : ℕ) → bound_in kept.env v ≡ Some n → n < count kept.graph
  pub imposed_below : (n k : ℕ) → Has kept.imposed (n, k) → n < count kept.graph

abbrev pub IsEntry : Hierarchy → Entry → Type 0
IsEntry h e = IsKept h e.kept e.root

-- the entry's graph goes into s by a morphism that takes its root to n
pub record StandsAt (h : Hierarchy) (s : Structure) (e : Entry) (n : ℕ) : Type 0 where
  pub map : ℕ → ℕ
  pub is : IsMorphismAside h e.kept.graph s map
  pub root_to : map e.root ≡ n

-- an entry of the word stands at the node; an empty does
abbrev pub HasEntry : Grammar → Structure → Word → ℕ → Type 0
HasEntry gr s w n = (e : Entry) × Has gr.words.entries e × (e.word ≡ w) × StandsAt gr.signature s e n

abbrev pub HasEmpty : Grammar → Structure → ℕ → Type 0
HasEmpty gr s n = (e : Entry) × Has gr.words.empties e × StandsAt gr.signature s e n
