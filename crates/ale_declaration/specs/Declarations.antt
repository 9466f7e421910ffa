-- Declarations as they are written, as plain data.
-- Source of the forms: the ALE 3.2 User's Guide, in this project's own profile.
use Rattle.std.specs.Prelude.{ℕ, Option, List, map}
use Rattle.std.specs.Option.{option_map}
use Rattle.ale_declared.specs.declared.decl.SigDecl.{SigDecl}
use Rattle.ale_term.specs.Terms.{TermData, term_data}
use Rattle.ale_term.specs.Goals.{GoalData, goal_data}
use Rattle.ale_declaration.specs.declared.declaration.MorphLine.{MorphLine}
use Rattle.ale_declaration.specs.declared.declaration.Part.{Part}
use Rattle.ale_declaration.specs.declared.declaration.Part.TheVariants as part
use Rattle.ale_declaration.specs.declared.declaration.Declaration.{Declaration}
use Rattle.ale_declaration.specs.declared.declaration.Declaration.TheVariants as kind

-- an element of a rule
pub data Element : Type 0 where
  daughter : TermData → Element
  daughters : TermData → Element
  condition : GoalData → Element
  head : TermData → Element

pub data DeclarationData : Type 0 where
  signature : SigDecl → DeclarationData
  constraint : List ℕ → TermData → Option GoalData → DeclarationData
  macro : List ℕ → List (List ℕ) → TermData → DeclarationData
  clause : List ℕ → List TermData → GoalData → DeclarationData
  word : List ℕ → TermData → DeclarationData
  empty : TermData → DeclarationData
  lex_rule : List ℕ → TermData → TermData → Option GoalData → List MorphLine → DeclarationData
  rule : List ℕ → TermData → List Element → DeclarationData
  semantics : List ℕ → DeclarationData
  lex_depth : ℕ → DeclarationData
  chain_length : ℕ → DeclarationData
  passed_over : List ℕ → DeclarationData

abbrev pub element_data : Part → Element
element_data (part.Cat t) = daughter (term_data t)
element_data (part.Cats t) = daughters (term_data t)
element_data (part.Goal g) = condition (goal_data g)
element_data (part.Head t) = head (term_data t)

-- the plain data of a declaration of the program
abbrev pub declaration_data : Declaration → DeclarationData
declaration_data (kind.Sig d) = signature d
declaration_data (kind.Cons t d g) = constraint t (term_data d) (option_map goal_data g)
declaration_data (kind.Macro m ps d) = macro m ps (term_data d)
declaration_data (kind.Clause p ts g) = clause p (map term_data ts) (goal_data g)
declaration_data (kind.Word w d) = word w (term_data d)
declaration_data (kind.Empty d) = empty (term_data d)
declaration_data (kind.LexRule n d e g ls) = lex_rule n (term_data d) (term_data e) (option_map goal_data g) ls
declaration_data (kind.Rule n d ps) = rule n (term_data d) (map element_data ps)
declaration_data (kind.Semantics p) = semantics p
declaration_data (kind.LexDepth n) = lex_depth n
declaration_data (kind.ChainLength n) = chain_length n
declaration_data (kind.PassedOver n) = passed_over n
