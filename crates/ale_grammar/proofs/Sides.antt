-- What a lexical rule says, description by description.
use Rattle.std.proofs.Common.{◌≡◌, ℕ, Option, List, map, length, ap, ◌∙◌}
use Rattle.ale_declared.specs.Declarations.{Declared}
use Rattle.ale_term.specs.Terms.{TermData}
use Rattle.ale_term.specs.Goals.{GoalData}
use Rattle.ale_declaration.specs.declared.declaration.MorphLine.{MorphLine}
use Rattle.ale_logic.specs.Descriptions.{Description}
use Rattle.ale_logic.specs.Goals.{Goal}
use Rattle.ale_logic.specs.Programs.{LexicalRule}
use Rattle.ale_morph.specs.Search.{becomes}
use Rattle.ale_describe.specs.Names.{NamesData}
use Rattle.ale_describe.specs.Scopes.{ScopeData, new_scope}
use Rattle.ale_describe.specs.Describing.{described}
use Rattle.ale_grammar.specs.Lines.{line_of}
use Rattle.ale_grammar.specs.Programs.{some_goal_described, lex_rule_made, lex_rule_of}

abbrev Said : Type 0
Said = Description × ScopeData

abbrev Behind : Type 0
Behind = Option Goal × ScopeData

module _ (d : Declared) (names : NamesData) (t u : TermData) (g : Option GoalData) (ls : List MorphLine) where
  abbrev with_output : Description → Said → LexicalRule
  with_output x p = lex_rule_made x p.0 (some_goal_described d names p.1 g) (map line_of ls)

  abbrev with_input : Said → LexicalRule
  with_input p = with_output p.0 (described d names p.1 u)

  pub sides_are : (s0 s1 s2 s3 : ScopeData) (x y : Description) (o : Option Goal) (n : ℕ) →
      s0 ≡ new_scope → ◌≡◌ {A = Said} (x, s1) (described d names s0 t) → ◌≡◌ {A = Said} (y, s2) (described d names s1 u) →
      ◌≡◌ {A = Behind} (o, s3) (some_goal_described d names s2 g) → n ≡ length s3.slots →
      ◌≡◌ {A = LexicalRule} (record { input = x; output = y; goal = o; becomes = becomes (map line_of ls); slots = n }) (lex_rule_of d names t u g ls)
  sides_are s0 s1 s2 s3 x y o n new first second third count =
      ap (λ (k : ℕ). record { input = x; output = y; goal = o; becomes = becomes (map line_of ls); slots = k }) count
      ∙ (ap (λ (p : Behind). lex_rule_made x y p (map line_of ls)) third
      ∙ (ap (λ (p : Said). with_output x p) second
      ∙ (ap (λ (p : Said). with_input p) first
      ∙ ap (λ (s : ScopeData). with_input (described d names s t)) new)))
