-- That each start of a search is a state, in which words are sought or found once.
-- Source: this project's own.
use Rattle.std.specs.Prelude.{◌≡◌, ℕ, Some, List, ◌∷◌, length}
use Rattle.ale_declared.specs.Lists.{Has}
use Rattle.ale_hierarchy.specs.Hierarchy.{Hierarchy, IsLawful}
use Rattle.ale_graph.specs.Structures.{count}
use Rattle.ale_logic.specs.Descriptions.{Description, FitsDescription}
use Rattle.ale_logic.specs.Goals.{Goal, FitsGoal}
use Rattle.ale_logic.specs.Programs.{Element, cat, cats, derived, sem_head, member, tail, LexicalRule, Rule, Program}
use Rattle.ale_logic.specs.Fitting.{FitsProgram, FitsLexicalRule}
use Rattle.ale_logic.specs.Words.{Entry, IsEntry, IsKept}
use Rattle.ale_logic.specs.States.{State}
use Rattle.ale_logic.specs.WellFormed.{IsState, AreQuietItems, IsSaidOnce}
use Rattle.ale_logic.specs.Starts.{start, start_goal, start_gen, start_lex, ChartItem, mother_at, own_start, daughter_start}
use Rattle.ale_logic.specs.PartLaws.{AreElementsBelow}

pub record IsStart (h : Hierarchy) (st : State) : Type 0 where
  pub is : IsState h st
  pub once : IsSaidOnce st

-- a start in which no words are sought
pub record IsQuietStart (h : Hierarchy) (st : State) : Type 0 where
  pub is : IsStart h st
  pub quiet : AreQuietItems st.agenda

-- an element that remains of a rule with so many variables; a member and a tail name nodes
abbrev pub FitsRemaining : Hierarchy → ℕ → Element → Type 0
FitsRemaining h slots (cat d) = FitsDescription h slots d
FitsRemaining h slots (cats d) = FitsDescription h slots d
FitsRemaining h slots (sem_head d) = FitsDescription h slots d
FitsRemaining h slots (derived g) = FitsGoal h slots g
FitsRemaining h slots (member n) = Unit {0}
FitsRemaining h slots (tail n) = Unit {0}

-- the item is of a rule, with a place for each of its variables
pub record IsActive (h : Hierarchy) (program : Program) (x : ChartItem) : Type 0 where
  pub rule : Rule
  pub has : Has program.rules rule
  pub mother : mother_at program.rules x.rule ≡ Some rule.mother
  pub size : length x.kept.env ≡ rule.slots
  pub fits : (e : Element) → Has x.rest e → FitsRemaining h rule.slots e

pub record IsItem (h : Hierarchy) (program : Program) (x : ChartItem) : Type 0 where
  pub is : IsKept h x.kept x.root
  pub rest_below : AreElementsBelow (count x.kept.graph) x.rest
  pub active : (e : Element) (es : List Element) → x.rest ≡ e ∷ es → IsActive h program x

pub record StartLaw (h : Hierarchy) (program : Program) : Type 0 where
  pub description : (slots : ℕ) (d : Description) → FitsDescription h slots d → IsQuietStart h (start slots d)
  pub goal : (slots : ℕ) (g : Goal) → FitsGoal h slots g → IsQuietStart h (start_goal slots g)
  pub generation : (slots : ℕ) (d : Description) → FitsDescription h slots d → IsStart h (start_gen slots d)
  pub lexical_rule : (rule : LexicalRule) (x : Entry) → FitsLexicalRule h rule → IsEntry h x → IsQuietStart h (start_lex rule x)
  pub own : (x : ChartItem) (e : Element) (es : List Element) → IsItem h program x → x.rest ≡ e ∷ es → (st : State) → Has (own_start program x e es) st → IsQuietStart h st
  pub daughter : (x : ChartItem) (e : Element) (es : List Element) (y : ChartItem) → IsItem h program x → x.rest ≡ e ∷ es → IsItem h program y →
      (st : State) → Has (daughter_start program x e es y) st → IsQuietStart h st

abbrev pub StartLaws : Type 0
StartLaws = (h : Hierarchy) (program : Program) → IsLawful h → FitsProgram h program → StartLaw h program
