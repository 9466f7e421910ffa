-- What the type of programs keeps: types, features and slots are there, calls are of predicates that are there, with a
-- description for each argument, and what the rules need of lists and heads. This project's own conditions.
use Rattle.std.specs.Prelude.{◌≡◌, ℕ, Some, List, map, slice_get}
use Rattle.ale_declared.specs.Lists.{Has}
use Rattle.ale_hierarchy.specs.Order.{hierarchy}
use Rattle.ale_logic.specs.Descriptions.{Description, how_many}
use Rattle.ale_logic.specs.Goals.{Goal, Goals, yes, cut, each, either, equal, call, unless, if_else, once, no_goal, and_goal}
use Rattle.ale_logic.specs.Programs as plain
use Rattle.ale_logic.specs.Programs.{ListTypes, goal_of}
use Rattle.ale_logic.specs.Fitting.{FitsProgram}
use Rattle.ale_morph.specs.Bound.{AreBound}
use Rattle.ale_list.specs.Lists.{lists_in}
use Rattle.ale_program.specs.Views.{clause_data, program}
use Rattle.ale_program.specs.declared.clause.Clause.{Clause}
use Rattle.ale_program.specs.declared.clause.Pred.{Pred}
use Rattle.ale_program.specs.declared.lexical.LexRule.{LexRule}
use Rattle.ale_program.specs.declared.parts.Parts.{Parts}

-- each call is of a predicate among those of these arities, with a description for each argument
abbrev mutual
  pub CallsFit : List ℕ → Goal → Type 0
  CallsFit arities yes = Unit {0}
  CallsFit arities cut = Unit {0}
  CallsFit arities (each gs) = AllCallsFit arities gs
  CallsFit arities (either gs) = AllCallsFit arities gs
  CallsFit arities (equal d e) = Unit {0}
  CallsFit arities (call p ds) = slice_get arities p ≡ Some (how_many ds)
  CallsFit arities (unless g) = CallsFit arities g
  CallsFit arities (if_else c t e) = CallsFit arities c × CallsFit arities t × CallsFit arities e
  CallsFit arities (once c t) = CallsFit arities c × CallsFit arities t

  pub AllCallsFit : List ℕ → Goals → Type 0
  AllCallsFit arities no_goal = Unit {0}
  AllCallsFit arities (and_goal g gs) = CallsFit arities g × AllCallsFit arities gs

-- the number of arguments of each predicate
abbrev pub arities : Parts → List ℕ
arities p = map (λ q. q.arity) p.preds

-- a clause has a description for each argument of its predicate, and calls fit in all goals
pub record HasArities (p : Parts) : Type 0 where
  pub heads : (q : Pred) (c : Clause) → Has p.preds q → Has q.clauses c → how_many (clause_data c).args ≡ q.arity
  pub bodies : (q : Pred) (c : Clause) → Has p.preds q → Has q.clauses c → CallsFit (arities p) (clause_data c).body
  pub constraints : (c : plain.Constraint) → Has (program p).constraints c → CallsFit (arities p) (goal_of c.goal)
  pub lex_rules : (r : plain.LexicalRule) → Has (program p).lex_rules r → CallsFit (arities p) (goal_of r.goal)
  pub rules : (r : plain.Rule) (g : Goal) → Has (program p).rules r → Has r.elements (plain.derived g) → CallsFit (arities p) g

-- a program fits its signature; where a rule has a list of categories, the types of lists are there
pub record IsProgram (p : Parts) : Type 0 where
  pub fits : FitsProgram (hierarchy p.signature) (program p)
  pub calls : HasArities p
  pub semantics : (s : ℕ) → p.semantics ≡ Some s → slice_get (arities p) s ≡ Some 2
  pub lines : (r : LexRule) → Has p.lex_rules r → AreBound r.lines
  pub lists : (r : plain.Rule) (d : Description) → Has (program p).rules r → Has r.elements (plain.cats d) → (l : ListTypes) × (lists_in p.signature ≡ Some l)
