-- When a feature structure satisfies a state of the search, with which elements remaining: the state's nodes,
-- variables and phrases stand for nodes and words such that all facts and all that is to be done hold. Source: Carpenter 1992, chapter 4.
use Rattle.std.specs.Prelude.{◌≡◌, ℕ, ◌-◌, ◌<◌, ◌≤◌, ◌⊎◌, Option, Some, None, List, [], ◌∷◌, length, map}
use Rattle.ale_declared.specs.Lists.{Has}
use Rattle.ale_graph.specs.Structures.{Structure, count, value_of}
use Rattle.ale_graph.specs.Facts.{Fulfils}
use Rattle.ale_logic.specs.Descriptions.{Description, LeadsTo, EndTogether, HoldsAt}
use Rattle.ale_logic.specs.Programs.{Word, Element, member, tail}
use Rattle.ale_logic.specs.Spelling.{spell}
use Rattle.ale_logic.specs.ListNodes.{IsEmptyList, IsNonEmptyList}
use Rattle.ale_logic.specs.Derivations.{Derivable, Callable}
use Rattle.ale_logic.specs.Words.{Environment, Grammar, HasEntry, HasEmpty}
use Rattle.ale_logic.specs.Headed.{Headed, HeadedList, IsPivot, IsChain}
use Rattle.ale_logic.specs.States.{Demand, holds, ends_with, leads, generates, generates_all, Target, Piece, Item, on, take, derive, called, cuts, stop, split, pivot, connect, bound, State}

-- what the numbers of a state stand for: a node each node, a node each variable of each environment, and its
-- words each phrase
pub record Sense : Type 0 where
  pub node : ℕ → ℕ
  pub var : ℕ → ℕ → ℕ
  pub words : ℕ → List Word

-- the description holds at its node, where one is demanded at the end of a list
abbrev pub HoldsEnd : Grammar → Structure → Sense → Option (ℕ × Description) → Type 0
HoldsEnd gr s x None = Unit {0}
HoldsEnd gr s x (Some end) = HoldsAt gr.signature s (x.var 0) end.1 (x.node end.0)

-- the demand is met by node n
abbrev pub HoldsDemand : Grammar → Structure → Sense → Demand → ℕ → Type 0
HoldsDemand gr s x (holds e d) n = HoldsAt gr.signature s (x.var e) d n
HoldsDemand gr s x (ends_with p b q) n = EndTogether s n p (x.node b) q
HoldsDemand gr s x (leads q a) n = LeadsTo s n q (x.node a)
HoldsDemand gr s x (generates g) n = Headed gr.signature gr.program s (HasEntry gr s) (HasEmpty gr s) n (x.words g)
HoldsDemand gr s x (generates_all g) n = HeadedList gr.signature gr.program s (HasEntry gr s) (HasEmpty gr s) n (x.words g)

-- node p with the words us is connected to the target, by as many more rules as the chain length allows
pub record IsConnected (gr : Grammar) (s : Structure) (x : Sense) (p : ℕ) (us : List Word) (target : Target) : Type 0 where
  pub steps : ℕ
  pub few : steps ≤ gr.program.chain_length - target.steps
  pub chain : IsChain gr.signature gr.program s (HasEntry gr s) (HasEmpty gr s) p us (x.node target.node) (x.words target.phrase) steps

-- some pivot with this semantics is connected to the target
pub record HasPivot (gr : Grammar) (s : Structure) (x : Sense) (sem : ℕ) (target : Target) : Type 0 where
  pub pivot : ℕ
  pub words : List Word
  pub is : IsPivot gr.signature gr.program s (HasEntry gr s) (HasEmpty gr s) pivot sem words
  pub connected : IsConnected gr s x pivot words target

-- The item holds. An open list is said of below, since it bears on the elements that remain.
abbrev pub HoldsItem : Grammar → Structure → Sense → Item → Type 0
HoldsItem gr s x (on n d) = HoldsDemand gr s x d (x.node n)
HoldsItem gr s x (take n f d) = (m : ℕ) × (value_of s (x.node n) f ≡ Some m) × HoldsDemand gr s x d m
HoldsItem gr s x (derive e c g) = Derivable gr.signature gr.program s (x.var e) g
HoldsItem gr s x (called p ns) = Callable gr.signature gr.program s p (map x.node ns)
HoldsItem gr s x (cuts c) = ⊥
HoldsItem gr s x stop = ⊥
HoldsItem gr s x (split n end) = ⊥
HoldsItem gr s x (pivot sem target) = HasPivot gr s x (x.node sem) target
HoldsItem gr s x (connect p us target) = IsConnected gr s x (x.node p) (spell x.words us) target

-- Each item holds, from the elements `rest` on, and the elements `remain` are there in the end. An open list ends, and
-- then its end holds, or has a member, and then member and tail come before the elements: a node may be a list in
-- both ways, and `remain` says in which.
abbrev pub HoldItems : Grammar → Structure → Sense → List Item → List Element → List Element → Type 0
HoldItems gr s x [] rest remain = remain ≡ rest
HoldItems gr s x (split n end ∷ is) rest remain =
    (IsEmptyList gr.signature gr.program s (x.node n) × HoldsEnd gr s x end × HoldItems gr s x is rest remain)
    ⊎ (IsNonEmptyList gr.signature gr.program s (x.node n) × HoldItems gr s x is (member n ∷ tail n ∷ rest) remain)
HoldItems gr s x (on n d ∷ is) rest remain = HoldsItem gr s x (on n d) × HoldItems gr s x is rest remain
HoldItems gr s x (take n f d ∷ is) rest remain = HoldsItem gr s x (take n f d) × HoldItems gr s x is rest remain
HoldItems gr s x (derive e c g ∷ is) rest remain = HoldsItem gr s x (derive e c g) × HoldItems gr s x is rest remain
HoldItems gr s x (called p ns ∷ is) rest remain = HoldsItem gr s x (called p ns) × HoldItems gr s x is rest remain
HoldItems gr s x (cuts c ∷ is) rest remain = ⊥
HoldItems gr s x (stop ∷ is) rest remain = ⊥
HoldItems gr s x (pivot sem target ∷ is) rest remain = HoldsItem gr s x (pivot sem target) × HoldItems gr s x is rest remain
HoldItems gr s x (connect p us target ∷ is) rest remain = HoldsItem gr s x (connect p us target) × HoldItems gr s x is rest remain

-- each bound variable stands for what its node stands for
abbrev pub IsBound : List Environment → Sense → Type 0
IsBound envs x = (e v n : ℕ) → bound envs e v ≡ Some n → x.var e v ≡ x.node n

-- each phrase that is found has the words of its pieces
abbrev pub IsSaid : List (ℕ × List Piece) → Sense → Type 0
IsSaid said x = (g : ℕ) (ps : List Piece) → Has said (g, ps) → x.words g ≡ spell x.words ps

-- the structure satisfies the state, where numbers stand for what the sense says, and the elements `remain` are there in the end
pub record Satisfies (gr : Grammar) (s : Structure) (x : Sense) (st : State) (remain : List Element) : Type 0 where
  pub fulfils : Fulfils gr.signature s x.node st.facts st.next
  pub nodes : (e v : ℕ) → x.var e v < count s
  pub is_bound : IsBound st.envs x
  pub is_said : IsSaid st.said x
  pub items : HoldItems gr s x st.agenda st.rest remain

-- both senses are one on the nodes, environments and phrases of a state
pub record Agrees (st : State) (x y : Sense) : Type 0 where
  pub node : (n : ℕ) → n < st.next → x.node n ≡ y.node n
  pub var : (e : ℕ) → e < length st.envs → x.var e ≡ y.var e
  pub words : (g : ℕ) → g < st.phrases → x.words g ≡ y.words g
