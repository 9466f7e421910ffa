-- States that speak of known nodes, types, features, environments and phrases; and, apart from that, items inside the
-- fragment: without cut, negation or if-then. This project's own conditions.
use Rattle.std.specs.Prelude.{◌≡◌, ℕ, ◌+◌, eqb, if◌then◌else◌, ◌<◌, Option, Some, None, List, [], ◌∷◌, length}
use Rattle.ale_declared.specs.Lists.{Has, sum_over}
use Rattle.ale_hierarchy.specs.Hierarchy.{Hierarchy, Above}
use Rattle.ale_graph.specs.declared.fact.Fact.{Fact}
use Rattle.ale_graph.specs.declared.fact.Fact.TheVariants.{OfType}
use Rattle.ale_graph.specs.Facts.{Fits}
use Rattle.ale_logic.specs.Descriptions.{Description, FitsPath, FitsDescription}
use Rattle.ale_logic.specs.Goals.{Goal, FitsGoal, IsPlain}
use Rattle.ale_logic.specs.Programs.{Element, cat, cats, derived, sem_head, member, tail}
use Rattle.ale_logic.specs.Words.{Environment}
use Rattle.ale_logic.specs.States.{Demand, holds, ends_with, leads, generates, generates_all, Target, Piece, word, phrase, Item, on, take, derive, called, cuts, stop, split, pivot, connect, env_at, bound, State}

-- what is there to speak of: facts, nodes, environments and phrases
pub record Scope : Type 0 where
  pub facts : List Fact
  pub next : ℕ
  pub envs : List Environment
  pub phrases : ℕ

abbrev pub scope_of : State → Scope
scope_of st = record { facts = st.facts; next = st.next; envs = st.envs; phrases = st.phrases }

-- the description has its variables in the environment with this number
abbrev pub FitsIn : Hierarchy → Scope → ℕ → Description → Type 0
FitsIn h c e d = (e < length c.envs) × FitsDescription h (length (env_at c.envs e)) d

abbrev pub FitsGoalIn : Hierarchy → Scope → ℕ → Goal → Type 0
FitsGoalIn h c e g = (e < length c.envs) × FitsGoal h (length (env_at c.envs e)) g

abbrev pub FitsEnd : Hierarchy → Scope → Option (ℕ × Description) → Type 0
FitsEnd h c None = Unit {0}
FitsEnd h c (Some end) = (end.0 < c.next) × FitsIn h c 0 end.1

abbrev pub FitsDemand : Hierarchy → Scope → Demand → Type 0
FitsDemand h c (holds e d) = FitsIn h c e d
FitsDemand h c (ends_with p b q) = FitsPath h p × (b < c.next) × FitsPath h q
FitsDemand h c (leads q a) = FitsPath h q × (a < c.next)
FitsDemand h c (generates g) = g < c.phrases
FitsDemand h c (generates_all g) = g < c.phrases

abbrev pub AreBelow : ℕ → List ℕ → Type 0
AreBelow next [] = Unit {0}
AreBelow next (n ∷ ns) = (n < next) × AreBelow next ns

-- the pieces of phrase g are words and later phrases
abbrev pub FitPieces : Scope → ℕ → List Piece → Type 0
FitPieces c g [] = Unit {0}
FitPieces c g (word w ∷ ps) = FitPieces c g ps
FitPieces c g (phrase p ∷ ps) = (g < p) × (p < c.phrases) × FitPieces c g ps

abbrev pub FitsTarget : Scope → Target → Type 0
FitsTarget c target = (target.node < c.next) × (target.phrase < c.phrases)

-- the node was told to be of a type that has the feature
abbrev pub IsToldOf : Hierarchy → Scope → ℕ → ℕ → Type 0
IsToldOf h c n f = (t : ℕ) × Has c.facts (OfType n t) × Above h (h.intro f) t

-- a value is taken only after the node was told to have it
abbrev pub FitsItem : Hierarchy → Scope → Item → Type 0
FitsItem h c (on n d) = (n < c.next) × FitsDemand h c d
FitsItem h c (take n f d) = (n < c.next) × (f < h.features) × FitsDemand h c d × IsToldOf h c n f
FitsItem h c (derive e k g) = FitsGoalIn h c e g
FitsItem h c (called p ns) = AreBelow c.next ns
FitsItem h c (cuts k) = Unit {0}
FitsItem h c stop = Unit {0}
FitsItem h c (split n end) = (n < c.next) × FitsEnd h c end
FitsItem h c (pivot sem target) = (sem < c.next) × FitsTarget c target
FitsItem h c (connect p us target) = (p < c.next) × FitsTarget c target × FitPieces c target.phrase us

abbrev pub FitItems : Hierarchy → Scope → List Item → Type 0
FitItems h c [] = Unit {0}
FitItems h c (i ∷ is) = FitsItem h c i × FitItems h c is

-- variables are bound to nodes below next
abbrev pub IsBelow : ℕ → List Environment → Type 0
IsBelow next envs = (e v n : ℕ) → bound envs e v ≡ Some n → n < next

-- an element that remains names nodes below next, or has its variables in the first environment
abbrev pub FitsRest : Hierarchy → Scope → Element → Type 0
FitsRest h c (cat d) = FitsIn h c 0 d
FitsRest h c (cats d) = FitsIn h c 0 d
FitsRest h c (sem_head d) = FitsIn h c 0 d
FitsRest h c (derived g) = FitsGoalIn h c 0 g
FitsRest h c (member n) = n < c.next
FitsRest h c (tail n) = n < c.next

pub record IsState (h : Hierarchy) (st : State) : Type 0 where
  pub some_node : 0 < st.next
  pub facts : Fits h st.facts st.next
  pub below : IsBelow st.next st.envs
  pub items : FitItems h (scope_of st) st.agenda
  pub rest : (e : Element) → Has st.rest e → FitsRest h (scope_of st) e
  pub imposed : (n k : ℕ) → Has st.imposed (n, k) → n < st.next
  pub said : (g : ℕ) (ps : List Piece) → Has st.said (g, ps) → (g < st.phrases) × FitPieces (scope_of st) g ps

-- inside the fragment
abbrev pub IsPlainItem : Item → Type 0
IsPlainItem (on n d) = Unit {0}
IsPlainItem (take n f d) = Unit {0}
IsPlainItem (derive e c g) = IsPlain g
IsPlainItem (called p ns) = Unit {0}
IsPlainItem (cuts c) = ⊥
IsPlainItem stop = ⊥
IsPlainItem (split n end) = Unit {0}
IsPlainItem (pivot sem target) = Unit {0}
IsPlainItem (connect p us target) = Unit {0}

-- no words are found for a node
abbrev pub IsWordless : Demand → Type 0
IsWordless (holds e d) = Unit {0}
IsWordless (ends_with p b q) = Unit {0}
IsWordless (leads q a) = Unit {0}
IsWordless (generates g) = ⊥
IsWordless (generates_all g) = ⊥

-- nor by the item
abbrev pub IsQuietItem : Item → Type 0
IsQuietItem (on n d) = IsWordless d
IsQuietItem (take n f d) = IsWordless d
IsQuietItem (derive e c g) = Unit {0}
IsQuietItem (called p ns) = Unit {0}
IsQuietItem (cuts c) = Unit {0}
IsQuietItem stop = Unit {0}
IsQuietItem (split n end) = Unit {0}
IsQuietItem (pivot sem target) = ⊥
IsQuietItem (connect p us target) = ⊥

-- each item is so
abbrev pub Each : (Item → Type 0) → List Item → Type 0
Each P [] = Unit {0}
Each P (i ∷ is) = P i × Each P is

abbrev pub ArePlainItems : List Item → Type 0
ArePlainItems is = Each IsPlainItem is

abbrev pub AreQuietItems : List Item → Type 0
AreQuietItems is = Each IsQuietItem is

-- how often words are to be found for the phrase, by an item of the agenda, or by all
abbrev pub times_sought : ℕ → Item → ℕ
times_sought g (on n (generates p)) = if eqb p g then 1 else 0
times_sought g (on n (generates_all p)) = if eqb p g then 1 else 0
times_sought g (on n (holds e d)) = 0
times_sought g (on n (ends_with p b q)) = 0
times_sought g (on n (leads q a)) = 0
times_sought g (take n f (generates p)) = if eqb p g then 1 else 0
times_sought g (take n f (generates_all p)) = if eqb p g then 1 else 0
times_sought g (take n f (holds e d)) = 0
times_sought g (take n f (ends_with p b q)) = 0
times_sought g (take n f (leads q a)) = 0
times_sought g (derive e c goal) = 0
times_sought g (called p ns) = 0
times_sought g (cuts c) = 0
times_sought g stop = 0
times_sought g (split n end) = 0
times_sought g (pivot sem target) = if eqb target.phrase g then 1 else 0
times_sought g (connect q us target) = if eqb target.phrase g then 1 else 0

-- how often words were found for the phrase
abbrev pub times_found : ℕ → ℕ × List Piece → ℕ
times_found g p = if eqb p.0 g then 1 else 0

-- the words of each phrase are to be found, or were found, once; so in the end it has one list of pieces
abbrev pub IsSaidOnce : State → Type 0
IsSaidOnce st = (g : ℕ) → g < st.phrases → sum_over (times_sought g) st.agenda + sum_over (times_found g) st.said ≡ 1
