-- The program that declarations make: each declaration's descriptions and goals in a scope of its own, clauses by predicate in
-- order of its first clause, everything else in order of declaration.
-- Source: the ALE 3.2 User's Guide; depth and chain length that are left out are this project's own.
use Rattle.std.specs.Prelude.{ℕ, Option, Some, None, if◌then◌else◌, List, [], ◌∷◌, map, length}
use Rattle.std.specs.List.{flat_map}
use Rattle.ale_declared.specs.Declarations.{Declared}
use Rattle.ale_declared.specs.Names.{same_name, number}
use Rattle.ale_term.specs.Terms.{TermData}
use Rattle.ale_term.specs.Goals.{GoalData}
use Rattle.ale_declaration.specs.Declarations as declaration
use Rattle.ale_declaration.specs.Declarations.{DeclarationData}
use Rattle.ale_declaration.specs.declared.declaration.MorphLine.{MorphLine}
use Rattle.ale_morph.specs.declared.line.Line.{Line}
use Rattle.ale_logic.specs.Descriptions.{Description, Descriptions}
use Rattle.ale_logic.specs.Goals.{Goal}
use Rattle.ale_logic.specs.Programs.{Clause, Constraint, WordDeclaration, EmptyDeclaration, LexicalRule, Element, cat, cats, derived, sem_head, Rule, Program}
use Rattle.ale_vocabulary.specs.Keys.{key}
use Rattle.ale_list.specs.Lists.{lists_in}
use Rattle.ale_morph.specs.Search.{becomes}
use Rattle.ale_describe.specs.Names.{NamesData}
use Rattle.ale_describe.specs.Macros.{names_of}
use Rattle.ale_describe.specs.Scopes.{ScopeData, new_scope}
use Rattle.ale_describe.specs.Describing.{described, each_described, goal_described}
use Rattle.ale_grammar.specs.Lines.{line_of}

-- how many slots a scope has
abbrev pub slots_of : ScopeData → ℕ
slots_of scope = length scope.slots

-- a goal that may be left out, with the scope after it
abbrev pub some_goal_described : Declared → NamesData → ScopeData → Option GoalData → Option Goal × ScopeData
some_goal_described d names scope None = (None, scope)
some_goal_described d names scope (Some g) = (Some (goal_described d names scope g).0, (goal_described d names scope g).1)

abbrev pub clause_made : Descriptions × ScopeData → Goal × ScopeData → Clause
clause_made args body = record { args = args.0; body = body.0; slots = slots_of body.1 }

abbrev pub clause_of : Declared → NamesData → List TermData → GoalData → Clause
clause_of d names ts g =
    clause_made (each_described d names new_scope ts) (goal_described d names (each_described d names new_scope ts).1 g)

abbrev pub constraint_made : ℕ → Description × ScopeData → Option Goal × ScopeData → Constraint
constraint_made t desc goal = record { of = t; desc = desc.0; goal = goal.0; slots = slots_of goal.1 }

abbrev pub constraint_of : Declared → NamesData → List ℕ → TermData → Option GoalData → Constraint
constraint_of d names n t g =
    constraint_made (number d.types n) (described d names new_scope t) (some_goal_described d names (described d names new_scope t).1 g)

abbrev pub word_of : Declared → NamesData → List ℕ → TermData → WordDeclaration
word_of d names w t =
    record { word = w; desc = (described d names new_scope t).0; slots = slots_of (described d names new_scope t).1 }

abbrev pub empty_of : Declared → NamesData → TermData → EmptyDeclaration
empty_of d names t = record { desc = (described d names new_scope t).0; slots = slots_of (described d names new_scope t).1 }

abbrev pub lex_rule_made : Description → Description → Option Goal × ScopeData → List Line → LexicalRule
lex_rule_made input output goal ls =
    record { input = input; output = output; goal = goal.0; becomes = becomes ls; slots = slots_of goal.1 }

abbrev pub lex_rule_of : Declared → NamesData → TermData → TermData → Option GoalData → List MorphLine → LexicalRule
lex_rule_of d names t u g ls =
    lex_rule_made (described d names new_scope t).0 (described d names (described d names new_scope t).1 u).0
    (some_goal_described d names (described d names (described d names new_scope t).1 u).1 g) (map line_of ls)

-- the elements of a rule in order, with the scope after them
abbrev pub element_described : Declared → NamesData → ScopeData → declaration.Element → Element × ScopeData
element_described d names scope (declaration.daughter t) = (cat (described d names scope t).0, (described d names scope t).1)
element_described d names scope (declaration.daughters t) = (cats (described d names scope t).0, (described d names scope t).1)
element_described d names scope (declaration.condition g) = (derived (goal_described d names scope g).0, (goal_described d names scope g).1)
element_described d names scope (declaration.head t) = (sem_head (described d names scope t).0, (described d names scope t).1)

abbrev pub elements_described : Declared → NamesData → ScopeData → List declaration.Element → List Element × ScopeData
elements_described d names scope [] = ([], scope)
elements_described d names scope (e ∷ es) = (
  (element_described d names scope e).0 ∷ (elements_described d names (element_described d names scope e).1 es).0,
  (elements_described d names (element_described d names scope e).1 es).1,
)

abbrev pub rule_made : Description → List Element × ScopeData → Rule
rule_made mother es = record { mother = mother; elements = es.0; slots = slots_of es.1 }

abbrev pub rule_of : Declared → NamesData → TermData → List declaration.Element → Rule
rule_of d names t es =
    rule_made (described d names new_scope t).0 (elements_described d names (described d names new_scope t).1 es)

-- What each declaration adds.

pub data Part : Type 0 where
  adds_clause : List ℕ → Clause → Part
  adds_constraint : Constraint → Part
  adds_word : WordDeclaration → Part
  adds_empty : EmptyDeclaration → Part
  adds_lex_rule : LexicalRule → Part
  adds_rule : Rule → Part
  sets_semantics : ℕ → Part
  sets_lex_depth : ℕ → Part
  sets_chain_length : ℕ → Part
  adds_nothing : Part

abbrev pub part_of : Declared → NamesData → DeclarationData → Part
part_of d names (declaration.signature s) = adds_nothing
part_of d names (declaration.constraint n t g) = adds_constraint (constraint_of d names n t g)
part_of d names (declaration.macro m ps t) = adds_nothing
part_of d names (declaration.clause p ts g) = adds_clause (key p (length ts)) (clause_of d names ts g)
part_of d names (declaration.word w t) = adds_word (word_of d names w t)
part_of d names (declaration.empty t) = adds_empty (empty_of d names t)
part_of d names (declaration.lex_rule n t u g ls) = adds_lex_rule (lex_rule_of d names t u g ls)
part_of d names (declaration.rule n t es) = adds_rule (rule_of d names t es)
part_of d names (declaration.semantics p) = sets_semantics (number names.vocabulary.predicates (key p 2))
part_of d names (declaration.lex_depth n) = sets_lex_depth n
part_of d names (declaration.chain_length n) = sets_chain_length n
part_of d names (declaration.passed_over n) = adds_nothing

abbrev pub constraint_in : Part → List Constraint
constraint_in (adds_clause k c) = []
constraint_in (adds_constraint c) = c ∷ []
constraint_in (adds_word w) = []
constraint_in (adds_empty e) = []
constraint_in (adds_lex_rule r) = []
constraint_in (adds_rule r) = []
constraint_in (sets_semantics p) = []
constraint_in (sets_lex_depth n) = []
constraint_in (sets_chain_length n) = []
constraint_in adds_nothing = []

abbrev pub word_in : Part → List WordDeclaration
word_in (adds_clause k c) = []
word_in (adds_constraint c) = []
word_in (adds_word w) = w ∷ []
word_in (adds_empty e) = []
word_in (adds_lex_rule r) = []
word_in (adds_rule r) = []
word_in (sets_semantics p) = []
word_in (sets_lex_depth n) = []
word_in (sets_chain_length n) = []
word_in adds_nothing = []

abbrev pub empty_in : Part → List EmptyDeclaration
empty_in (adds_clause k c) = []
empty_in (adds_constraint c) = []
empty_in (adds_word w) = []
empty_in (adds_empty e) = e ∷ []
empty_in (adds_lex_rule r) = []
empty_in (adds_rule r) = []
empty_in (sets_semantics p) = []
empty_in (sets_lex_depth n) = []
empty_in (sets_chain_length n) = []
empty_in adds_nothing = []

abbrev pub lex_rule_in : Part → List LexicalRule
lex_rule_in (adds_clause k c) = []
lex_rule_in (adds_constraint c) = []
lex_rule_in (adds_word w) = []
lex_rule_in (adds_empty e) = []
lex_rule_in (adds_lex_rule r) = r ∷ []
lex_rule_in (adds_rule r) = []
lex_rule_in (sets_semantics p) = []
lex_rule_in (sets_lex_depth n) = []
lex_rule_in (sets_chain_length n) = []
lex_rule_in adds_nothing = []

abbrev pub rule_in : Part → List Rule
rule_in (adds_clause k c) = []
rule_in (adds_constraint c) = []
rule_in (adds_word w) = []
rule_in (adds_empty e) = []
rule_in (adds_lex_rule r) = []
rule_in (adds_rule r) = r ∷ []
rule_in (sets_semantics p) = []
rule_in (sets_lex_depth n) = []
rule_in (sets_chain_length n) = []
rule_in adds_nothing = []

abbrev pub semantics_in : Part → List ℕ
semantics_in (adds_clause k c) = []
semantics_in (adds_constraint c) = []
semantics_in (adds_word w) = []
semantics_in (adds_empty e) = []
semantics_in (adds_lex_rule r) = []
semantics_in (adds_rule r) = []
semantics_in (sets_semantics p) = p ∷ []
semantics_in (sets_lex_depth n) = []
semantics_in (sets_chain_length n) = []
semantics_in adds_nothing = []

abbrev pub lex_depth_in : Part → List ℕ
lex_depth_in (adds_clause k c) = []
lex_depth_in (adds_constraint c) = []
lex_depth_in (adds_word w) = []
lex_depth_in (adds_empty e) = []
lex_depth_in (adds_lex_rule r) = []
lex_depth_in (adds_rule r) = []
lex_depth_in (sets_semantics p) = []
lex_depth_in (sets_lex_depth n) = n ∷ []
lex_depth_in (sets_chain_length n) = []
lex_depth_in adds_nothing = []

abbrev pub chain_length_in : Part → List ℕ
chain_length_in (adds_clause k c) = []
chain_length_in (adds_constraint c) = []
chain_length_in (adds_word w) = []
chain_length_in (adds_empty e) = []
chain_length_in (adds_lex_rule r) = []
chain_length_in (adds_rule r) = []
chain_length_in (sets_semantics p) = []
chain_length_in (sets_lex_depth n) = []
chain_length_in (sets_chain_length n) = n ∷ []
chain_length_in adds_nothing = []

-- the clause, where it is of the predicate with this key
abbrev pub if_of : List ℕ → List ℕ → Clause → List Clause
if_of p k c = if same_name k p then c ∷ [] else []

abbrev pub clause_in : List ℕ → Part → List Clause
clause_in p (adds_clause k c) = if_of p k c
clause_in p (adds_constraint c) = []
clause_in p (adds_word w) = []
clause_in p (adds_empty e) = []
clause_in p (adds_lex_rule r) = []
clause_in p (adds_rule r) = []
clause_in p (sets_semantics s) = []
clause_in p (sets_lex_depth n) = []
clause_in p (sets_chain_length n) = []
clause_in p adds_nothing = []

abbrev pub first_or : {A : Type 0} → A → List A → A
first_or a [] = a
first_or a (x ∷ xs) = x

abbrev pub first_in : {A : Type 0} → List A → Option A
first_in [] = None
first_in (x ∷ xs) = Some x

unfoldable pub usual_lex_depth : ℕ
usual_lex_depth = 2

unfoldable pub usual_chain_length : ℕ
usual_chain_length = 4

abbrev pub program_with : Declared → NamesData → List Part → Program
program_with d names ps = record {
  preds = map (λ p. flat_map (clause_in p) ps) names.vocabulary.predicates;
  constraints = flat_map constraint_in ps;
  words = flat_map word_in ps;
  empties = flat_map empty_in ps;
  lex_rules = flat_map lex_rule_in ps;
  rules = flat_map rule_in ps;
  semantics = first_in (flat_map semantics_in ps);
  lists = lists_in d;
  lex_depth = first_or usual_lex_depth (flat_map lex_depth_in ps);
  chain_length = first_or usual_chain_length (flat_map chain_length_in ps);
}

-- the program of a grammar
abbrev pub program_of : Declared → List DeclarationData → Program
program_of d ds = program_with d (names_of d ds) (map (part_of d (names_of d ds)) ds)
