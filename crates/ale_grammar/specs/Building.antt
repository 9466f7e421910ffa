-- The program that declarations make, declaration by declaration: what is there, and with it what the next one adds.
-- Source: this project's own.
use Rattle.std.specs.Prelude.{◌≡◌, ℕ, zero, suc, Option, Some, None, List, [], ◌∷◌, ◌++◌, map}
use Rattle.ale_declared.specs.Declarations.{Declared}
use Rattle.ale_declared.specs.Names.{named}
use Rattle.ale_declaration.specs.Declarations.{DeclarationData}
use Rattle.ale_declaration.specs.declared.declaration.LinePart.{LinePart}
use Rattle.ale_declaration.specs.declared.declaration.LinePart.TheVariants as written
use Rattle.ale_morph.specs.declared.line.Piece.{Piece}
use Rattle.ale_morph.specs.declared.line.Piece.TheVariants.{Letters, Slot}
use Rattle.ale_morph.specs.declared.line.Line.{Line}
use Rattle.ale_logic.specs.Programs.{Clause, Constraint, WordDeclaration, EmptyDeclaration, LexicalRule, Rule}
use Rattle.ale_program.specs.declared.clause.Pred.{Pred}
use Rattle.ale_program.specs.declared.parts.Parts.{Parts}
use Rattle.ale_program.specs.Views.{clauses_data, constraint_data, word_data, empty_data, lex_rule_data, rule_data}
use Rattle.ale_describe.specs.Names.{NamesData}
use Rattle.ale_describe.specs.Variables.{slot_of, with_variable}
use Rattle.ale_grammar.specs.Programs.{Part, adds_clause, adds_constraint, adds_word, adds_empty, adds_lex_rule, adds_rule, sets_semantics, sets_lex_depth, sets_chain_length, adds_nothing, part_of, constraint_in, word_in, empty_in, lex_rule_in, rule_in, semantics_in, lex_depth_in, chain_length_in, usual_lex_depth, usual_chain_length}
use Rattle.ale_grammar.specs.Written.{lex_rule_names_of, lines_of, rule_names_of, lex_rule_name, lines_in, rule_name, pred_key}
use Rattle.ale_grammar.specs.declared.building.Building.{Building}

-- a piece of a side after the variables vs, and the variables with it
abbrev pub piece_after : List (List ℕ) → LinePart → Piece × List (List ℕ)
piece_after vs (written.Piece letters) = (Letters letters, vs)
piece_after vs (written.Slot x) = (Slot (slot_of vs x), with_variable vs x)

-- a predicate by its key, and its clauses
pub record Bucket : Type 0 where
  pub key : List ℕ
  pub clauses : List Clause

abbrev pub bucket : Pred → Bucket
bucket p = record { key = pred_key p; clauses = clauses_data p }

-- the clause after those of the predicate with this number, or as the first of a new one
abbrev pub put_at : List Bucket → ℕ → List ℕ → Clause → List Bucket
put_at [] n k c = record { key = k; clauses = c ∷ [] } ∷ []
put_at (b ∷ bs) zero k c = record { key = b.key; clauses = b.clauses ++ c ∷ [] } ∷ bs
put_at (b ∷ bs) (suc n) k c = b ∷ put_at bs n k c

abbrev pub put_where : List Bucket → Option ℕ → List ℕ → Clause → List Bucket
put_where bs None k c = bs ++ record { key = k; clauses = c ∷ [] } ∷ []
put_where bs (Some n) k c = put_at bs n k c

-- the first list with the second behind it
abbrev pub with_all : {A : Type 0} → List A → List A → List A
with_all xs [] = xs
with_all xs (y ∷ ys) = xs ++ y ∷ ys

-- what was said first
abbrev pub first_said : {A : Type 0} → Option A → List A → Option A
first_said None [] = None
first_said None (y ∷ ys) = Some y
first_said (Some x) ys = Some x

-- what is there of a program
pub record Made : Type 0 where
  pub buckets : List Bucket
  pub constraints : List Constraint
  pub words : List WordDeclaration
  pub empties : List EmptyDeclaration
  pub lex_rules : List LexicalRule
  pub lex_rule_names : List (List ℕ)
  pub lines : List (List Line)
  pub rules : List Rule
  pub rule_names : List (List ℕ)
  pub semantics : Option ℕ
  pub lex_depth : Option ℕ
  pub chain_length : Option ℕ

abbrev pub with_clause : List (List ℕ) → List Bucket → Part → List Bucket
with_clause ks bs (adds_clause k c) = put_where bs (named ks k) k c
with_clause ks bs (adds_constraint c) = bs
with_clause ks bs (adds_word w) = bs
with_clause ks bs (adds_empty e) = bs
with_clause ks bs (adds_lex_rule r) = bs
with_clause ks bs (adds_rule r) = bs
with_clause ks bs (sets_semantics p) = bs
with_clause ks bs (sets_lex_depth n) = bs
with_clause ks bs (sets_chain_length n) = bs
with_clause ks bs adds_nothing = bs

-- the same with a part and the declaration that it is of, where predicates have these keys
abbrev pub with_part : List (List ℕ) → Made → Part → DeclarationData → Made
with_part ks m p x = record {
  buckets = with_clause ks m.buckets p;
  constraints = with_all m.constraints (constraint_in p);
  words = with_all m.words (word_in p);
  empties = with_all m.empties (empty_in p);
  lex_rules = with_all m.lex_rules (lex_rule_in p);
  lex_rule_names = with_all m.lex_rule_names (lex_rule_names_of x);
  lines = with_all m.lines (lines_of x);
  rules = with_all m.rules (rule_in p);
  rule_names = with_all m.rule_names (rule_names_of x);
  semantics = first_said m.semantics (semantics_in p);
  lex_depth = first_said m.lex_depth (lex_depth_in p);
  chain_length = first_said m.chain_length (chain_length_in p);
}

abbrev pub with_declaration : Declared → NamesData → Made → DeclarationData → Made
with_declaration d names m x = with_part names.vocabulary.predicates m (part_of d names x) x

abbrev pub with_declarations : Declared → NamesData → Made → List DeclarationData → Made
with_declarations d names m [] = m
with_declarations d names m (x ∷ xs) = with_declarations d names (with_declaration d names m x) xs

abbrev pub nothing_made : Made
nothing_made = record {
  buckets = [];
  constraints = [];
  words = [];
  empties = [];
  lex_rules = [];
  lex_rule_names = [];
  lines = [];
  rules = [];
  rule_names = [];
  semantics = None;
  lex_depth = None;
  chain_length = None;
}

-- what is there, as the code holds it
abbrev pub made : Building → Made
made b = record {
  buckets = map bucket b.preds.items;
  constraints = map constraint_data b.constraints.items;
  words = map word_data b.words.items;
  empties = map empty_data b.empties.items;
  lex_rules = map lex_rule_data b.lex_rules.items;
  lex_rule_names = map lex_rule_name b.lex_rules.items;
  lines = map lines_in b.lex_rules.items;
  rules = map rule_data b.rules.items;
  rule_names = map rule_name b.rules.items;
  semantics = b.semantics;
  lex_depth = b.lex_depth;
  chain_length = b.chain_length;
}

-- the number that was said, or else the usual one
abbrev pub said_or : ℕ → Option ℕ → ℕ
said_or usual None = usual
said_or usual (Some n) = n

-- the parts are what is there, over this signature
pub record IsMade (d : Declared) (m : Made) (p : Parts) : Type 0 where
  pub signature : p.signature ≡ d
  pub preds : map bucket p.preds ≡ m.buckets
  pub constraints : map constraint_data p.constraints ≡ m.constraints
  pub words : map word_data p.words ≡ m.words
  pub empties : map empty_data p.empties ≡ m.empties
  pub lex_rules : map lex_rule_data p.lex_rules ≡ m.lex_rules
  pub lex_rule_names : map lex_rule_name p.lex_rules ≡ m.lex_rule_names
  pub lines : map lines_in p.lex_rules ≡ m.lines
  pub rules : map rule_data p.rules ≡ m.rules
  pub rule_names : map rule_name p.rules ≡ m.rule_names
  pub semantics : p.semantics ≡ m.semantics
  pub lex_depth : p.lex_depth ≡ said_or usual_lex_depth m.lex_depth
  pub chain_length : p.chain_length ≡ said_or usual_chain_length m.chain_length
