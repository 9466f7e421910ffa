-- No cut, negation or if-then stands in a program where none is written.
use Rattle.std.proofs.Common.{Option, Some, None, List, [], ◌∷◌, map, ℕ, sym, subst, inl, inr}
use Rattle.std.specs.List.{flat_map}
use Rattle.ale_relation.specs.Has.{Has}
use Rattle.ale_declared.specs.Declarations.{Declared}
use Rattle.ale_declared.proofs.ListLemmas.{map_has}
use Rattle.ale_term.specs.Terms.{TermData}
use Rattle.ale_term.specs.Goals.{GoalData}
use Rattle.ale_declaration.specs.Declarations as declaration
use Rattle.ale_declaration.specs.Declarations.{DeclarationData}
use Rattle.ale_logic.specs.Goals.{IsPlain}
use Rattle.ale_logic.specs.Programs as plain
use Rattle.ale_logic.specs.Programs.{goal_of}
use Rattle.ale_logic.specs.Fitting.{IsPlainElement, IsPlainProgram}
use Rattle.ale_describe.specs.Names.{NamesData}
use Rattle.ale_describe.specs.Scopes.{ScopeData, new_scope}
use Rattle.ale_describe.specs.Describing.{described, each_described, goal_described}
use Rattle.ale_describe.specs.Plain.{IsPlainGoal}
use Rattle.ale_describe.proofs.PlainGoals.{plain_goals_law}
use Rattle.ale_grammar.specs.PlainGoals.{IsPlainSome, ArePlainElements, HasPlainGoals, HavePlainGoals}
use Rattle.ale_grammar.specs.Programs.{some_goal_described, element_described, elements_described, Part, adds_clause, adds_constraint, adds_word, adds_empty, adds_lex_rule, adds_rule, sets_semantics, sets_lex_depth, sets_chain_length, adds_nothing, part_of, clause_in, constraint_in, lex_rule_in, rule_in, program_with}
use Rattle.ale_grammar.proofs.Gathering.{clause_told, constraint_told, lex_rule_told, rule_told, gathered, has_numbered}

abbrev IsPlainRule : plain.Rule → Type 0
IsPlainRule r = (e : plain.Element) → Has r.elements e → IsPlainElement e

abbrev IsPlainPart : Part → Type 0
IsPlainPart (adds_clause k c) = IsPlain c.body
IsPlainPart (adds_constraint c) = IsPlain (goal_of c.goal)
IsPlainPart (adds_lex_rule r) = IsPlain (goal_of r.goal)
IsPlainPart (adds_rule r) = IsPlainRule r
IsPlainPart (adds_word w) = Unit {0}
IsPlainPart (adds_empty e) = Unit {0}
IsPlainPart (sets_semantics p) = Unit {0}
IsPlainPart (sets_lex_depth n) = Unit {0}
IsPlainPart (sets_chain_length n) = Unit {0}
IsPlainPart adds_nothing = Unit {0}

module _ (d : Declared) (names : NamesData) where
  plain_goal : (scope : ScopeData) (g : GoalData) → IsPlainGoal g → IsPlain (goal_described d names scope g).0
  plain_goal scope g h = plain_goals_law.described d names scope g h

  plain_some : (scope : ScopeData) (o : Option GoalData) → IsPlainSome o → IsPlain (goal_of (some_goal_described d names scope o).0)
  plain_some scope None h = tt
  plain_some scope (Some g) h = plain_goal scope g h

  plain_elements : (scope : ScopeData) (es : List declaration.Element) → ArePlainElements es → (e : plain.Element) → Has (elements_described d names scope es).0 e → IsPlainElement e
  plain_elements scope [] h e has = absurd has
  plain_elements scope (declaration.daughter t ∷ es) h e (inl q) = subst IsPlainElement (sym q) tt
  plain_elements scope (declaration.daughter t ∷ es) h e (inr has) = plain_elements (described d names scope t).1 es h e has
  plain_elements scope (declaration.daughters t ∷ es) h e (inl q) = subst IsPlainElement (sym q) tt
  plain_elements scope (declaration.daughters t ∷ es) h e (inr has) = plain_elements (described d names scope t).1 es h e has
  plain_elements scope (declaration.condition g ∷ es) h e (inl q) = subst IsPlainElement (sym q) (plain_goal scope g h.0)
  plain_elements scope (declaration.condition g ∷ es) h e (inr has) = plain_elements (goal_described d names scope g).1 es h.1 e has
  plain_elements scope (declaration.head t ∷ es) h e (inl q) = subst IsPlainElement (sym q) tt
  plain_elements scope (declaration.head t ∷ es) h e (inr has) = plain_elements (described d names scope t).1 es h e has

  plain_part : (x : DeclarationData) → HasPlainGoals x → IsPlainPart (part_of d names x)
  plain_part (declaration.signature s) h = tt
  plain_part (declaration.constraint n t g) h = plain_some (described d names new_scope t).1 g h
  plain_part (declaration.macro m ps t) h = tt
  plain_part (declaration.clause p ts g) h = plain_goal (each_described d names new_scope ts).1 g h
  plain_part (declaration.word w t) h = tt
  plain_part (declaration.empty t) h = tt
  plain_part (declaration.lex_rule n t u g ls) h = plain_some (described d names (described d names new_scope t).1 u).1 g h
  plain_part (declaration.rule n t es) h = plain_elements (described d names new_scope t).1 es h
  plain_part (declaration.semantics p) h = tt
  plain_part (declaration.lex_depth n) h = tt
  plain_part (declaration.chain_length n) h = tt
  plain_part (declaration.passed_over n) h = tt

  one_of_them : (ds : List DeclarationData) → HavePlainGoals ds → (x : DeclarationData) → Has ds x → HasPlainGoals x
  one_of_them [] h x has = absurd has
  one_of_them (y ∷ ys) h x (inl e) = subst HasPlainGoals (sym e) h.0
  one_of_them (y ∷ ys) h x (inr has) = one_of_them ys h.1 x has

  plain_parts : (ds : List DeclarationData) → HavePlainGoals ds → (q : Part) → Has (map (part_of d names) ds) q → IsPlainPart q
  plain_parts ds h q has =
      let there = map_has (part_of d names) ds q has in
      subst IsPlainPart (sym there.2) (plain_part there.0 (one_of_them ds h there.0 there.1))

  pub plain_program : (ds : List DeclarationData) → HavePlainGoals ds → IsPlainProgram (program_with d names (map (part_of d names) ds))
  plain_program ds h =
      let parts : List Part = map (part_of d names) ds in
      let all : (q : Part) → Has parts q → IsPlainPart q = plain_parts ds h in
      record {
        clauses = λ p c has.
            let there = has_numbered {A = plain.Clause} (λ k. flat_map (clause_in k) parts) names.vocabulary.predicates p c has in
            gathered (clause_in there.0) (adds_clause there.0) IsPlainPart (clause_told there.0) parts all c there.1;
        constraints = gathered constraint_in adds_constraint IsPlainPart constraint_told parts all;
        rules = gathered rule_in adds_rule IsPlainPart rule_told parts all;
        lex_rules = gathered lex_rule_in adds_lex_rule IsPlainPart lex_rule_told parts all;
      }
