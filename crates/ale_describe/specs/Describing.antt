-- What written descriptions and goals stand for, one after another in the scope of one declaration: their names are looked
-- up, macros and lists are put in, and variables have slots in order of first occurrence in what results.
-- Source: the description language, Carpenter 1992, chapter 4; goals and macros in the ALE 3.2 User's Guide.
use Rattle.std.specs.Prelude.{List, [], ◌∷◌, length}
use Rattle.ale_declared.specs.Declarations.{Declared}
use Rattle.ale_declared.specs.Names.{number}
use Rattle.ale_term.specs.Terms.{TermData}
use Rattle.ale_term.specs.Goals as written
use Rattle.ale_term.specs.Goals.{GoalData, GoalsData}
use Rattle.ale_logic.specs.Descriptions.{Description, Descriptions, none, more}
use Rattle.ale_logic.specs.Goals.{Goal, Goals, yes, cut, each, either, equal, call, unless, if_else, once, no_goal, and_goal}
use Rattle.ale_vocabulary.specs.Keys.{key}
use Rattle.ale_macro.specs.Expanding.{expansion}
use Rattle.ale_macro.specs.Slots as slots
use Rattle.ale_describe.specs.Scopes.{ScopeData}
use Rattle.ale_describe.specs.Templating.{templated}
use Rattle.ale_describe.specs.Names.{NamesData}

-- the description, with the scope after it
abbrev pub described : Declared → NamesData → ScopeData → TermData → Description × ScopeData
described d names scope t = (
  (slots.numbered scope.slots (expansion names.library (templated d names.vocabulary scope.written t).0)).0,
  record {
    written = (templated d names.vocabulary scope.written t).1;
    slots = (slots.numbered scope.slots (expansion names.library (templated d names.vocabulary scope.written t).0)).1;
  },
)

abbrev pub each_described : Declared → NamesData → ScopeData → List TermData → Descriptions × ScopeData
each_described d names scope [] = (none, scope)
each_described d names scope (t ∷ ts) = (
  more (described d names scope t).0 (each_described d names (described d names scope t).1 ts).0,
  (each_described d names (described d names scope t).1 ts).1,
)

-- goals, with the scope after them
abbrev mutual
  pub goal_described : Declared → NamesData → ScopeData → GoalData → Goal × ScopeData
  goal_described d names scope written.holds = (yes, scope)
  goal_described d names scope written.cut = (cut, scope)
  goal_described d names scope (written.each gs) = (each (goals_described d names scope gs).0, (goals_described d names scope gs).1)
  goal_described d names scope (written.either gs) = (either (goals_described d names scope gs).0, (goals_described d names scope gs).1)
  goal_described d names scope (written.equal t u) =
      (equal (described d names scope t).0 (described d names (described d names scope t).1 u).0, (described d names (described d names scope t).1 u).1)
  goal_described d names scope (written.call p ts) =
      (call (number names.vocabulary.predicates (key p (length ts))) (each_described d names scope ts).0, (each_described d names scope ts).1)
  goal_described d names scope (written.not_proved g) = (unless (goal_described d names scope g).0, (goal_described d names scope g).1)
  goal_described d names scope (written.if_else c g e) = (
    if_else (goal_described d names scope c).0 (goal_described d names (goal_described d names scope c).1 g).0
        (goal_described d names (goal_described d names (goal_described d names scope c).1 g).1 e).0,
    (goal_described d names (goal_described d names (goal_described d names scope c).1 g).1 e).1,
  )
  goal_described d names scope (written.once c g) = (
    once (goal_described d names scope c).0 (goal_described d names (goal_described d names scope c).1 g).0,
    (goal_described d names (goal_described d names scope c).1 g).1,
  )

  pub goals_described : Declared → NamesData → ScopeData → GoalsData → Goals × ScopeData
  goals_described d names scope written.no_goal = (no_goal, scope)
  goals_described d names scope (written.goal_more g gs) = (
    and_goal (goal_described d names scope g).0 (goals_described d names (goal_described d names scope g).1 gs).0,
    (goals_described d names (goal_described d names scope g).1 gs).1,
  )
