-- Programs whose types, features and slots are those of one signature and of their environments, and
-- programs inside the fragment: without cut, negation or if-then. This project's own conditions.
use Rattle.std.specs.Prelude.{◌≡◌, ℕ, suc, ◌<◌, ◌≤◌, Some, List, [], ◌∷◌}
use Rattle.ale_declared.specs.Lists.{Has}
use Rattle.ale_hierarchy.specs.Hierarchy.{Hierarchy, Above}
use Rattle.ale_logic.specs.Descriptions.{FitsDescription, FitDescriptions}
use Rattle.ale_logic.specs.Goals.{FitsGoal, IsPlain}
use Rattle.ale_logic.specs.Programs.{Clause, Constraint, WordDeclaration, EmptyDeclaration, LexicalRule, Element, cat, cats, derived, sem_head, member, tail, Rule, ListTypes, Program, clauses_of, goal_of}

pub record FitsClause (h : Hierarchy) (c : Clause) : Type 0 where
  pub args : FitDescriptions h c.slots c.args
  pub body : FitsGoal h c.slots c.body

pub record FitsConstraint (h : Hierarchy) (c : Constraint) : Type 0 where
  pub of : c.of < h.types
  pub desc : FitsDescription h c.slots c.desc
  pub goal : FitsGoal h c.slots (goal_of c.goal)

abbrev pub FitsElement : Hierarchy → ℕ → Element → Type 0
FitsElement h slots (cat d) = FitsDescription h slots d
FitsElement h slots (cats d) = FitsDescription h slots d
FitsElement h slots (derived g) = FitsGoal h slots g
FitsElement h slots (sem_head d) = FitsDescription h slots d
FitsElement h slots (member n) = ⊥
FitsElement h slots (tail n) = ⊥

-- a goal is no daughter
abbrev pub IsDaughter : Element → Type 0
IsDaughter (cat d) = Unit {0}
IsDaughter (cats d) = Unit {0}
IsDaughter (sem_head d) = Unit {0}
IsDaughter (derived g) = ⊥
IsDaughter (member n) = Unit {0}
IsDaughter (tail n) = Unit {0}

abbrev pub sem_heads : List Element → ℕ
sem_heads [] = 0
sem_heads (sem_head d ∷ es) = suc (sem_heads es)
sem_heads (cat d ∷ es) = sem_heads es
sem_heads (cats d ∷ es) = sem_heads es
sem_heads (derived g ∷ es) = sem_heads es
sem_heads (member n ∷ es) = sem_heads es
sem_heads (tail n ∷ es) = sem_heads es

-- a rule has a daughter, and no more than one head
pub record FitsRule (h : Hierarchy) (r : Rule) : Type 0 where
  pub mother : FitsDescription h r.slots r.mother
  pub elements : (e : Element) → Has r.elements e → FitsElement h r.slots e
  pub daughter : (e : Element) × Has r.elements e × IsDaughter e
  pub one_head : sem_heads r.elements ≤ 1

pub record FitsLexicalRule (h : Hierarchy) (r : LexicalRule) : Type 0 where
  pub input : FitsDescription h r.slots r.input
  pub output : FitsDescription h r.slots r.output
  pub goal : FitsGoal h r.slots (goal_of r.goal)

-- list types are there, and their features are appropriate to lists with members
pub record FitLists (h : Hierarchy) (l : ListTypes) : Type 0 where
  pub e_list : l.e_list < h.types
  pub ne_list : l.ne_list < h.types
  pub hd : (l.hd < h.features) × Above h (h.intro l.hd) l.ne_list
  pub tl : (l.tl < h.features) × Above h (h.intro l.tl) l.ne_list

pub record FitsProgram (h : Hierarchy) (program : Program) : Type 0 where
  pub clauses : (p : ℕ) (c : Clause) → Has (clauses_of program p) c → FitsClause h c
  pub constraints : (c : Constraint) → Has program.constraints c → FitsConstraint h c
  pub rules : (r : Rule) → Has program.rules r → FitsRule h r
  pub words : (w : WordDeclaration) → Has program.words w → FitsDescription h w.slots w.desc
  pub empties : (e : EmptyDeclaration) → Has program.empties e → FitsDescription h e.slots e.desc
  pub lex_rules : (r : LexicalRule) → Has program.lex_rules r → FitsLexicalRule h r
  pub lists : (l : ListTypes) → program.lists ≡ Some l → FitLists h l

-- inside the fragment
abbrev pub IsPlainElement : Element → Type 0
IsPlainElement (derived g) = IsPlain g
IsPlainElement (cat d) = Unit {0}
IsPlainElement (cats d) = Unit {0}
IsPlainElement (sem_head d) = Unit {0}
IsPlainElement (member n) = Unit {0}
IsPlainElement (tail n) = Unit {0}

pub record IsPlainProgram (program : Program) : Type 0 where
  pub clauses : (p : ℕ) (c : Clause) → Has (clauses_of program p) c → IsPlain c.body
  pub constraints : (c : Constraint) → Has program.constraints c → IsPlain (goal_of c.goal)
  pub rules : (r : Rule) → Has program.rules r → (e : Element) → Has r.elements e → IsPlainElement e
  pub lex_rules : (r : LexicalRule) → Has program.lex_rules r → IsPlain (goal_of r.goal)
