-- States of the search: the facts so far, what variables and words stand for, and what is still to be done, in
-- order. Source: most general satisfiers, Carpenter 1992, chapter 4; the order of the search is this project's own.
use Rattle.std.specs.Prelude.{ℕ, suc, ◌+◌, Option, Some, None, List, [], ◌∷◌, ◌++◌, get_or, replicate, slice_set}
use Rattle.ale_graph.specs.declared.fact.Fact.{Fact}
use Rattle.ale_logic.specs.Descriptions.{Description}
use Rattle.ale_logic.specs.Goals.{Goal}
use Rattle.ale_logic.specs.Programs.{Word, Element, member, tail}
use Rattle.ale_logic.specs.Words.{Environment, bound_in}

-- what is demanded of a node
pub data Demand : Type 0 where
  -- the description holds at it, in the environment with this number
  holds : ℕ → Description → Demand
  -- the path from it, and the other path from the other node, end at one node
  ends_with : List ℕ → ℕ → List ℕ → Demand
  -- the path from it ends at the other node
  leads : List ℕ → ℕ → Demand
  -- words are found for it, as the phrase with this number; for each member of the list that it is
  generates : ℕ → Demand
  generates_all : ℕ → Demand

-- what a pivot is to be connected to: the node for which words are found, as the phrase with its number, after so many
-- rules
pub record Target : Type 0 where
  pub node : ℕ
  pub phrase : ℕ
  pub steps : ℕ

-- a piece of a phrase: a word, or the phrase with this number
pub data Piece : Type 0 where
  word : Word → Piece
  phrase : ℕ → Piece

-- what is still to be done
pub data Item : Type 0 where
  -- a demand of the node; a demand of the value of the node by the feature
  on : ℕ → Demand → Item
  take : ℕ → ℕ → Demand → Item
  -- the goal is derived, in the environment and with the cut height given; the predicate is called of nodes
  derive : ℕ → ℕ → Goal → Item
  called : ℕ → List ℕ → Item
  -- all but so many of the states that wait are dropped; nothing comes of the state
  cuts : ℕ → Item
  stop : Item
  -- the node is an open list, whose members are the next elements; where it ends and no element remains, the
  -- description holds at a node
  split : ℕ → Option (ℕ × Description) → Item
  -- a pivot with this semantics is found for the target; the node, with the pieces of its phrase, is connected to it
  pivot : ℕ → Target → Item
  connect : ℕ → List Piece → Target → Item

-- the environment with this number, and what a variable of it is bound to
abbrev pub env_at : List Environment → ℕ → Environment
env_at envs e = get_or envs e []

abbrev pub bound : List Environment → ℕ → ℕ → Option ℕ
bound envs e v = bound_in (env_at envs e) v

-- facts about the nodes below next, the nodes at which constraints were imposed, the environments, the phrases,
-- the kids chosen so far, what is still to be done, and the elements that remain of a chart item
pub record State : Type 0 where
  pub facts : List Fact
  pub next : ℕ
  pub imposed : List (ℕ × ℕ)
  pub envs : List Environment
  -- the next phrase, and of which pieces phrases were found to consist
  pub phrases : ℕ
  pub said : List (ℕ × List Piece)
  -- the number of the kid at each state before
  pub choices : List ℕ
  pub agenda : List Item
  pub rest : List Element

-- How a state goes on: with one more fact, with items before what is there, with new nodes, with a new
-- environment, with a variable bound.
abbrev pub told : Fact → State → State
told x st = record st { facts = st.facts ++ x ∷ [] }

abbrev pub doing : Item → State → State
doing i st = record st { agenda = i ∷ st.agenda }

abbrev pub doing_all : List Item → State → State
doing_all items st = record st { agenda = items ++ st.agenda }

abbrev pub grown : ℕ → State → State
grown k st = record st { next = st.next + k }

abbrev pub with_env : ℕ → State → State
with_env slots st = record st { envs = st.envs ++ replicate slots None ∷ [] }

abbrev pub bind : ℕ → ℕ → ℕ → State → State
bind e v n st = record st { envs = slice_set st.envs e (slice_set (env_at st.envs e) v (Some n)) }

-- with a constraint imposed, with so many new phrases, with a phrase found to consist of pieces
abbrev pub imposing : ℕ → ℕ → State → State
imposing n k st = record st { imposed = st.imposed ++ (n, k) ∷ [] }

abbrev pub with_phrases : ℕ → State → State
with_phrases k st = record st { phrases = st.phrases + k }

abbrev pub say : ℕ → List Piece → State → State
say g pieces st = record st { said = st.said ++ (g, pieces) ∷ [] }

-- with the member and the tail of a list before the elements that remain
abbrev pub remaining : ℕ → State → State
remaining n st = record st { rest = member n ∷ tail n ∷ st.rest }

-- as the kid with this number; the kids numbered from k on
abbrev pub chosen : ℕ → State → State
chosen k st = record st { choices = st.choices ++ k ∷ [] }

abbrev pub numbered : ℕ → List State → List State
numbered k [] = []
numbered k (st ∷ sts) = chosen k st ∷ numbered (suc k) sts
