-- What the states of the program stand for. A stack holds its first element last.
use Rattle.std.specs.Prelude.{ℕ, ◌<◌, Option, Some, None, List, [], ◌∷◌, map, length, option_map}
use Rattle.ale_hierarchy.specs.Hierarchy.{Hierarchy}
use Rattle.ale_hierarchy.specs.Order.{hierarchy}
use Rattle.ale_engine.specs.Engine.{Visit, answers, goes}
use Rattle.ale_logic.specs.Descriptions.{Description, description, FitsPath, FitsDescription}
use Rattle.ale_logic.specs.Programs as programs
use Rattle.ale_logic.specs.Words.{Environment, Grammar}
use Rattle.ale_logic.specs.States as plain
use Rattle.ale_logic.specs.States.{env_at}
use Rattle.ale_logic.specs.GoalKids.{numbers}
use Rattle.ale_logic.specs.Visits as visits
use Rattle.ale_logic.specs.Lexicons.{wordless}
use Rattle.ale_program.specs.Goals.{goal_data}
use Rattle.ale_program.specs.Views.{element_data, program}
use Rattle.ale_program.specs.declared.parts.Parts.{Parts}
use Rattle.ale_visit.specs.declared.items.Demand.{Demand}
use Rattle.ale_visit.specs.declared.items.Demand.TheVariants.{Holds, EndsWith, Leads}
use Rattle.ale_visit.specs.declared.items.End.{End}
use Rattle.ale_visit.specs.declared.items.Item.{Item}
use Rattle.ale_visit.specs.declared.items.Item.TheVariants.{On, Take, Derive, Called, Cuts, Stop, Split}
use Rattle.ale_visit.specs.declared.items.Element.{Element}
use Rattle.ale_visit.specs.declared.items.Element.TheVariants.{Own, Member, Tail}
use Rattle.ale_visit.specs.declared.state.State.{State}
use Rattle.ale_visit.specs.declared.visiting.Visited.{Visited}
use Rattle.ale_visit.specs.declared.visiting.Visited.TheVariants.{Answers, Goes}

-- the grammar of these parts, without words
abbrev pub grammar : Parts → Grammar
grammar p = wordless (hierarchy p.signature) (program p)

-- the elements from the last to the first, before the rest
abbrev pub turned : {A B : Type 0} → (A → B) → List A → List B → List B
turned view [] rest = rest
turned view (x ∷ xs) rest = turned view xs (view x ∷ rest)

abbrev pub demand_of : Demand → plain.Demand
demand_of (Holds e d) = plain.holds e (description d.now)
demand_of (EndsWith p b q) = plain.ends_with p.now b q.now
demand_of (Leads q a) = plain.leads q.now a

abbrev pub end_of : Option End → Option (ℕ × Description)
end_of None = None
end_of (Some end) = Some (end.node, description end.desc.now)

abbrev pub item_of : Item → plain.Item
item_of (On n x) = plain.on n (demand_of x)
item_of (Take n f x) = plain.take n f.now (demand_of x)
item_of (Derive e c g) = plain.derive e c (goal_data g.now)
item_of (Called p first count) = plain.called p (numbers first count)
item_of (Cuts c) = plain.cuts c
item_of Stop = plain.stop
item_of (Split n end) = plain.split n (end_of end)

abbrev pub agenda_of : List Item → List plain.Item
agenda_of items = turned item_of items []

abbrev pub element_of : Element → programs.Element
element_of (Own e) = element_data e.now
element_of (Member n) = programs.member n
element_of (Tail n) = programs.tail n

abbrev pub elements_of : List Element → List programs.Element
elements_of es = turned element_of es []

-- no words are found in it, so there are no phrases
abbrev pub state_of : State → plain.State
state_of s = record {
  facts = s.facts.items;
  next = s.next;
  imposed = s.imposed.items;
  envs = s.envs.items;
  phrases = 0;
  said = [];
  choices = s.choices.items;
  agenda = agenda_of s.agenda.items;
  rest = elements_of s.rest.items;
}

abbrev pub states_of : List State → List plain.State
states_of states = map state_of states

abbrev pub visited_of : Visited → Visit plain.State visits.Answer
visited_of (Answers c st) = answers (record { closed = c; state = state_of st })
visited_of (Goes stay states) = goes stay (states_of states.items)

-- the types, features and slots that a demand of its node names are there
abbrev pub IsKnownDemand : Hierarchy → List Environment → plain.Demand → Type 0
IsKnownDemand h envs (plain.holds e d) = (e < length envs) × FitsDescription h (length (env_at envs e)) d
IsKnownDemand h envs (plain.ends_with p b q) = FitsPath h p × FitsPath h q
IsKnownDemand h envs (plain.leads q a) = FitsPath h q
IsKnownDemand h envs (plain.generates g) = Unit {0}
IsKnownDemand h envs (plain.generates_all g) = Unit {0}

abbrev pub IsKnown : Hierarchy → List Environment → plain.Item → Type 0
IsKnown h envs (plain.on n x) = IsKnownDemand h envs x
IsKnown h envs (plain.take n f x) = Unit {0}
IsKnown h envs (plain.derive e c g) = Unit {0}
IsKnown h envs (plain.called p ns) = Unit {0}
IsKnown h envs (plain.cuts c) = Unit {0}
IsKnown h envs plain.stop = Unit {0}
IsKnown h envs (plain.split n end) = Unit {0}
IsKnown h envs (plain.pivot s target) = Unit {0}
IsKnown h envs (plain.connect p us target) = Unit {0}
