-- What the states of the program stand for. A stack holds its first element last.
use Rattle.std.specs.Prelude.{ℕ, ◌<◌, None, List, [], ◌∷◌, map, length}
use Rattle.ale_hierarchy.specs.Hierarchy.{Hierarchy}
use Rattle.ale_graph.specs.declared.closed.Closed.{Closed}
use Rattle.ale_engine.specs.Engine.{Visit, answers, goes}
use Rattle.ale_logic.specs.Descriptions.{description, FitsPath, FitsDescription}
use Rattle.ale_logic.specs.Programs.{Program}
use Rattle.ale_logic.specs.Words.{Environment, Grammar}
use Rattle.ale_logic.specs.States as plain
use Rattle.ale_logic.specs.States.{env_at}
use Rattle.ale_logic.specs.Visits as visits
use Rattle.ale_logic.specs.Lexicons.{wordless}
use Rattle.ale_logic.specs.declared.answer.Answer.{Answer}
use Rattle.ale_search.specs.declared.visiting.Visited.{Visited}
use Rattle.ale_search.specs.declared.visiting.Visited.TheVariants.{Answers, Goes}
use Rattle.ale_search.specs.declared.state.Demand.{Demand}
use Rattle.ale_search.specs.declared.state.Demand.TheVariants.{Holds, EndsWith, Leads}
use Rattle.ale_search.specs.declared.state.Item.{Item}
use Rattle.ale_search.specs.declared.state.Item.TheVariants.{On, Take}
use Rattle.ale_search.specs.declared.state.State.{State}
use Rattle.ale_search.specs.declared.state.Rest.{Rest}

-- the program that says nothing
abbrev pub empty_program : Program
empty_program = record {
  preds = [];
  constraints = [];
  words = [];
  empties = [];
  lex_rules = [];
  rules = [];
  semantics = None;
  lists = None;
  lex_depth = 0;
  chain_length = 0;
}

-- a signature with that program, and without words
abbrev pub bare : Hierarchy → Grammar
bare h = wordless h empty_program

-- the elements from the last to the first, before the rest
abbrev pub turned : {A B : Type 0} → (A → B) → List A → List B → List B
turned view [] rest = rest
turned view (x ∷ xs) rest = turned view xs (view x ∷ rest)

abbrev pub demand_of : Demand → plain.Demand
demand_of (Holds e d) = plain.holds e (description d.now)
demand_of (EndsWith p b q) = plain.ends_with p.now b q.now
demand_of (Leads q a) = plain.leads q.now a

abbrev pub item_of : Item → plain.Item
item_of (On n x) = plain.on n (demand_of x)
item_of (Take n f x) = plain.take n f.now (demand_of x)

abbrev pub agenda_of : List Item → List plain.Item
agenda_of items = turned item_of items []

abbrev pub state_of : State → plain.State
state_of s = record {
  facts = s.facts.items;
  next = s.next;
  imposed = [];
  envs = s.envs.items;
  phrases = 0;
  said = [];
  choices = s.choices.items;
  agenda = agenda_of s.agenda.items;
  rest = [];
}

-- at its closure
abbrev pub rest_of : Rest → plain.State
rest_of r = record {
  facts = r.closed.facts;
  next = r.closed.next;
  imposed = [];
  envs = r.envs.items;
  phrases = 0;
  said = [];
  choices = r.choices.items;
  agenda = agenda_of r.agenda.items;
  rest = [];
}

abbrev pub waiting_of : List State → List plain.State
waiting_of states = turned state_of states []

abbrev pub states_of : List State → List plain.State
states_of states = map state_of states

abbrev pub visited_of : Visited → Visit plain.State visits.Answer
visited_of (Answers c st) = answers (record { closed = c; state = state_of st })
visited_of (Goes stay states) = goes stay (states_of states.items)

-- what is told of an answer
abbrev pub seen : Closed → plain.State → Answer
seen c st = record { closed = c; env = env_at st.envs 0 }

-- the types, features and slots that a demand of its node names are there
abbrev pub IsKnownDemand : Hierarchy → List Environment → plain.Demand → Type 0
IsKnownDemand h envs (plain.holds e d) = (e < length envs) × FitsDescription h (length (env_at envs e)) d
IsKnownDemand h envs (plain.ends_with p b q) = FitsPath h p × FitsPath h q
IsKnownDemand h envs (plain.leads q a) = FitsPath h q
IsKnownDemand h envs (plain.generates g) = Unit {0}
IsKnownDemand h envs (plain.generates_all g) = Unit {0}

abbrev pub IsKnown : Hierarchy → List Environment → plain.Item → Type 0
IsKnown h envs (plain.on n x) = IsKnownDemand h envs x
IsKnown h envs (plain.take n f x) = Unit {0}
IsKnown h envs (plain.derive e c g) = Unit {0}
IsKnown h envs (plain.called p ns) = Unit {0}
IsKnown h envs (plain.cuts c) = Unit {0}
IsKnown h envs plain.stop = Unit {0}
IsKnown h envs (plain.split n end) = Unit {0}
IsKnown h envs (plain.pivot s target) = Unit {0}
IsKnown h envs (plain.connect p us target) = Unit {0}
