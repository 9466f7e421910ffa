-- The laws of single visits: what always holds of kids and answers, and inside the fragment what visits have to do
-- with the structures that satisfy a state. Source: most general satisfiers, Carpenter 1992, chapter 4.
use Rattle.std.specs.Prelude.{◌≡◌, ℕ, ◌<◌, ◌≤◌, ◌⊎◌, Some, List, [], ◌∷◌, ◌++◌, length}
use Rattle.ale_declared.specs.Lists.{Has}
use Rattle.ale_hierarchy.specs.Hierarchy.{Hierarchy, IsLawful, Above}
use Rattle.ale_graph.specs.Structures.{Structure, count, type_of}
use Rattle.ale_graph.specs.Closure.{node_of}
use Rattle.ale_graph.specs.Morphisms.{IsMorphismAside}
use Rattle.ale_graph.specs.Universal.{IsClosure}
use Rattle.ale_logic.specs.Programs.{Word, Element, Constraint}
use Rattle.ale_logic.specs.Fitting.{FitsProgram, IsPlainProgram}
use Rattle.ale_logic.specs.Models.{MeetsAt, constraint_at, IsModel}
use Rattle.ale_logic.specs.Words.{Entry, IsEntry, Grammar}
use Rattle.ale_logic.specs.States.{Piece, env_at, State}
use Rattle.ale_logic.specs.Spelling.{spell, spelled}
use Rattle.ale_engine.specs.Engine.{answers, goes}
use Rattle.ale_logic.specs.Visits.{Answer, visit}
use Rattle.ale_logic.specs.Satisfaction.{Sense, Satisfies, Agrees}
use Rattle.ale_logic.specs.WellFormed.{IsState, AreQuietItems, ArePlainItems, IsSaidOnce}

-- the grammar is accepted
pub record IsGrammar (gr : Grammar) : Type 0 where
  pub lawful : IsLawful gr.signature
  pub program : FitsProgram gr.signature gr.program
  pub words : (e : Entry) → Has gr.words.entries e ⊎ Has gr.words.empties e → IsEntry gr.signature e

-- the constraint with number k was imposed on a node of an entry or an empty, which goes to n
pub record IsBrought (gr : Grammar) (s : Structure) (n k : ℕ) : Type 0 where
  pub entry : Entry
  pub has : Has gr.words.entries entry ⊎ Has gr.words.empties entry
  pub map : ℕ → ℕ
  pub is : IsMorphismAside gr.signature entry.kept.graph s map
  pub node : ℕ
  pub imposed : Has entry.kept.imposed (node, k)
  pub to : map node ≡ n

-- an imposed pair is one of the given ones, or is met where its node goes, or was brought by an entry
abbrev pub IsAccounted : Grammar → Structure → Sense → List (ℕ × ℕ) → ℕ × ℕ → Type 0
IsAccounted gr s x given p = Has given p ⊎ (MeetsAt gr.signature gr.program s p.1 (x.node p.0) ⊎ IsBrought gr s (x.node p.0) p.1)

-- the state before is satisfied too, and what was imposed since is accounted for
pub record SatisfiesBefore (gr : Grammar) (s : Structure) (x : Sense) (st : State) (remain : List Element) (imposed : List (ℕ × ℕ)) : Type 0 where
  pub satisfies : Satisfies gr s x st remain
  pub accounted : (p : ℕ × ℕ) → Has imposed p → IsAccounted gr s x st.imposed p

-- the structure satisfies one of the states, in a sense that goes on from that of another
pub record SatisfiesOne (gr : Grammar) (s : Structure) (st : State) (x : Sense) (remain : List Element) (sts : List State) : Type 0 where
  pub state : State
  pub has : Has sts state
  pub sense : Sense
  pub agrees : Agrees st sense x
  pub satisfies : Satisfies gr s sense state remain

-- the kid is well formed, and has all nodes, environments and phrases of the state
pub record IsKid (gr : Grammar) (st kid : State) : Type 0 where
  pub is : IsState gr.signature kid
  pub next : st.next ≤ kid.next
  pub envs : length st.envs ≤ length kid.envs
  pub phrases : st.phrases ≤ kid.phrases
  -- an environment keeps its length
  pub lengths : (e : ℕ) → e < length st.envs → length (env_at kid.envs e) ≡ length (env_at st.envs e)
  -- what was imposed on the state is imposed on the kid
  pub imposed : (more : List (ℕ × ℕ)) × (kid.imposed ≡ st.imposed ++ more)
  -- the kid has its number
  pub choices : (k : ℕ) × (kid.choices ≡ st.choices ++ k ∷ [])
  pub once : IsSaidOnce st → IsSaidOnce kid
  -- where no words are found, none are in the kid, and nothing is said
  pub quiet : AreQuietItems st.agenda → AreQuietItems kid.agenda × (kid.said ≡ st.said)

-- each constraint above the type of a node of the answer's graph was imposed on that node
abbrev pub IsAllImposed : Grammar → Answer → Type 0
IsAllImposed gr a =
    (n k : ℕ) (c : Constraint) → n < count a.closed.graph → constraint_at gr.program k ≡ Some c → Above gr.signature c.of (type_of a.closed.graph n) → (m : ℕ) × Has a.state.imposed (m, k) × (node_of a.closed m ≡ n)

-- the answer is the state with its closure, where nothing is to be done and nothing is owed
pub record IsAnswerOf (gr : Grammar) (st : State) (a : Answer) : Type 0 where
  pub state : a.state ≡ st
  pub closure : IsClosure gr.signature a.state.facts a.state.next a.closed
  pub nothing : a.state.agenda ≡ []
  pub all_imposed : IsAllImposed gr a

-- the visit of the state gives the kid, and `stay` of the waiting states stay
pub record IsVisitKid (gr : Grammar) (waiting : ℕ) (st kid : State) : Type 0 where
  pub stay : ℕ
  pub kids : List State
  pub goes_on : goes stay kids ≡ visit gr waiting st
  pub has : Has kids kid

-- a model of the program satisfies the state
pub record ModelSatisfies (gr : Grammar) (s : Structure) (x : Sense) (st : State) (remain : List Element) : Type 0 where
  pub model : IsModel gr.signature gr.program s
  pub satisfies : Satisfies gr s x st remain

-- Of every program: kids are states, an answer is what it is, and a model that satisfies a state which is no answer
-- satisfies one of its kids.
pub record StepLaw (gr : Grammar) (waiting : ℕ) (st : State) : Type 0 where
  pub kids_are_states : (kid : State) → IsVisitKid gr waiting st kid → IsKid gr st kid
  pub answer : (a : Answer) → answers a ≡ visit gr waiting st → IsAnswerOf gr st a
  pub up : (stay : ℕ) (ks : List State) → goes stay ks ≡ visit gr waiting st → (s : Structure) (x : Sense) (remain : List Element) →
      ModelSatisfies gr s x st remain → SatisfiesOne gr s st x remain ks

-- inside the fragment: without cut, negation or if-then
pub record IsInFragment (gr : Grammar) (st : State) : Type 0 where
  pub program : IsPlainProgram gr.program
  pub items : ArePlainItems st.agenda

-- Inside the fragment: kids are inside too, what satisfies a kid satisfies the state, and all waiting states stay.
pub record LogicLaw (gr : Grammar) (waiting : ℕ) (st : State) : Type 0 where
  pub plain : (kid : State) → IsVisitKid gr waiting st kid → ArePlainItems kid.agenda
  pub down : (kid : State) → IsVisitKid gr waiting st kid → (s : Structure) (x : Sense) (remain : List Element) →
      Satisfies gr s x kid remain → SatisfiesBefore gr s x st remain kid.imposed
  pub all_stay : (stay : ℕ) (ks : List State) → goes stay ks ≡ visit gr waiting st → stay ≡ waiting

abbrev pub StepLaws : Type 0
StepLaws = (gr : Grammar) (waiting : ℕ) (st : State) → IsGrammar gr → IsState gr.signature st → StepLaw gr waiting st

abbrev pub LogicLaws : Type 0
LogicLaws = (gr : Grammar) (waiting : ℕ) (st : State) → IsGrammar gr → IsState gr.signature st → IsInFragment gr st → LogicLaw gr waiting st

-- Where words are found once for each phrase, it has the words of its pieces; and in the end no words but these fit.
pub record SpellingLaw (h : Hierarchy) (st : State) : Type 0 where
  pub spelled_as : (g : ℕ) (ps : List Piece) → Has st.said (g, ps) → spelled st.phrases st.said g ≡ spell (spelled st.phrases st.said) ps
  pub only : st.agenda ≡ [] → (words : ℕ → List Word) → ((g : ℕ) (ps : List Piece) → Has st.said (g, ps) → words g ≡ spell words ps) → (g : ℕ) → g < st.phrases → words g ≡ spelled st.phrases st.said g

abbrev pub SpellingLaws : Type 0
SpellingLaws = (h : Hierarchy) (st : State) → IsState h st → IsSaidOnce st → SpellingLaw h st
