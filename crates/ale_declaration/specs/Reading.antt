-- The reading of declarations as functions. A reader of a form reads all of the lexemes, or gives None where they are
-- not of the form.
use Rattle.std.specs.Prelude.{ℕ, Bool, true, false, not, ◌&&◌, ◌||◌, if◌then◌else◌, Option, Some, None, Result, Ok, List, [], ◌∷◌, ◌++◌, codes}
use Rattle.std.specs.Str.{bytes_eq}
use Rattle.ale_declared.specs.declared.decl.SigDecl.TheVariants.{Kind, Ext}
use Rattle.ale_term.specs.declared.symbol.Symbol.TheVariants.{RuleArrow, WordArrow, LexRuleArrow, Neck, Colon, Comma, OpenRound, CloseRound, Greater}
use Rattle.ale_term.specs.declared.lexeme.Lexeme.{Lexeme}
use Rattle.ale_term.specs.Goals.{GoalData}
use Rattle.ale_term.specs.Reading.{◌>>=◌, choose, Reader, past, past_word, atom_at, variable_at, separated_at, ended_by, list_at, path_at, description_at, element_at, call_at, goal_at, goal_element_at}
use Rattle.ale_form.specs.declared.error.FormError.{FormError}
use Rattle.ale_form.specs.Results.{checked}
use Rattle.ale_form.specs.Whole.{ended, whole, description_of, goal_of}
use Rattle.ale_declaration.specs.declared.form.Form.{Form}
use Rattle.ale_declaration.specs.declared.form.Form.TheVariants.{Types, Extensional, Constraints, Macros, Clauses, Words, Empties, LexicalRules, Rules, Semantic}
use Rattle.ale_declaration.specs.declared.declaration.LinePart.{LinePart}
use Rattle.ale_declaration.specs.declared.declaration.LinePart.TheVariants.{Piece, Slot}
use Rattle.ale_declaration.specs.declared.declaration.MorphLine.{MorphLine}
use Rattle.ale_declaration.specs.Declarations.{Element, daughter, daughters, condition, head, DeclarationData, signature, constraint, macro, clause, word, empty, lex_rule, rule, semantics}
use Rattle.ale_declaration.specs.Directives.{directive_of}
use Rattle.ale_declaration.specs.Forms.{pieces, concat, in_order}

-- Types.

abbrev pub some_of : {A : Type 0} → List A → List Lexeme → Option (List A × List Lexeme)
some_of [] ls = None
some_of (x ∷ xs) ls = Some (x ∷ xs, ls)

-- one atom or more in square brackets
abbrev pub atoms_at : Reader (List (List ℕ))
atoms_at ls = path_at ls >>= λ ns. some_of ns.0 ns.1

-- a feature and the restriction on its value
abbrev pub restriction_at : Reader (List ℕ × List ℕ)
restriction_at ls = atom_at ls >>= λ f. past Colon f.1 >>= λ behind. atom_at behind >>= λ t. Some ((f.0, t.0), t.1)

-- such in square brackets, which may be none
abbrev pub restrictions_of : List Lexeme → Option (List (List ℕ × List ℕ))
restrictions_of ls = whole (list_at restriction_at ls)

-- "intro" and restrictions, or nothing
abbrev pub introduced_of : List Lexeme → Option (List (List ℕ × List ℕ))
introduced_of ls = choose (past_word (codes "intro") ls) (ended ls >>= λ end. Some []) (λ behind. restrictions_of behind)

-- what follows the name of a type
abbrev pub kind_of : List ℕ → List Lexeme → Option DeclarationData
kind_of t ls =
    choose (past_word (codes "sub") ls)
    (past_word (codes "intro") ls >>= λ behind. restrictions_of behind >>= λ fs. Some (signature (Kind t [] fs)))
    (λ behind. path_at behind >>= λ ts. introduced_of ts.1 >>= λ fs. Some (signature (Kind t ts.0 fs)))

abbrev pub types_of : List Lexeme → Option DeclarationData
types_of ls = atom_at ls >>= λ t. kind_of t.0 t.1

abbrev pub extensional_of : List Lexeme → Option DeclarationData
extensional_of ls =
    past_word (codes "ext") ls >>= λ behind. past OpenRound behind >>= λ inner. atoms_at inner >>= λ ns.
    past CloseRound ns.1 >>= λ rest. ended rest >>= λ end. Some (signature (Ext ns.0))

-- Constraints, macros, clauses and words.

-- "goal" and a goal, or nothing
abbrev pub goal_behind : List Lexeme → Option (Option GoalData)
goal_behind ls = choose (past_word (codes "goal") ls) (ended ls >>= λ end. Some None) (λ behind. goal_of behind >>= λ g. Some (Some g))

abbrev pub constraint_of : List Lexeme → Option DeclarationData
constraint_of ls =
    atom_at ls >>= λ t. past_word (codes "cons") t.1 >>= λ behind. description_at behind >>= λ d.
    goal_behind d.1 >>= λ g. Some (constraint t.0 d.0 g)

abbrev pub has_name : List (List ℕ) → List ℕ → Bool
has_name [] x = false
has_name (y ∷ ys) x = bytes_eq y x || has_name ys x

-- no name stands twice, but `_` may
abbrev pub are_distinct : List (List ℕ) → Bool
are_distinct [] = true
are_distinct (x ∷ xs) = (bytes_eq x (codes "_") || not (has_name xs x)) && are_distinct xs

abbrev pub distinct_of : List (List ℕ) → List Lexeme → Option (List (List ℕ) × List Lexeme)
distinct_of xs ls = if are_distinct xs then Some (xs, ls) else None

-- different variables in round brackets, or nothing
abbrev pub parameters_at : Reader (List (List ℕ))
parameters_at ls =
    choose (past OpenRound ls) (Some ([], ls))
    (λ inner. ended_by CloseRound (separated_at Comma variable_at inner) >>= λ xs. distinct_of xs.0 xs.1)

abbrev pub macro_of : List Lexeme → Option DeclarationData
macro_of ls =
    atom_at ls >>= λ m. parameters_at m.1 >>= λ xs. past_word (codes "macro") xs.1 >>= λ behind.
    description_of behind >>= λ d. Some (macro m.0 xs.0 d)

abbrev pub clause_of : List Lexeme → Option DeclarationData
clause_of ls =
    call_at ls >>= λ c. past_word (codes "if") c.1 >>= λ behind. goal_of behind >>= λ g. Some (clause c.0.0 c.0.1 g)

abbrev pub word_of : List Lexeme → Option DeclarationData
word_of ls = atom_at ls >>= λ w. past WordArrow w.1 >>= λ behind. description_of behind >>= λ d. Some (word w.0 d)

abbrev pub empty_of : List Lexeme → Option DeclarationData
empty_of ls = past_word (codes "empty") ls >>= λ behind. description_of behind >>= λ d. Some (empty d)

abbrev pub semantics_of : List Lexeme → Option DeclarationData
semantics_of ls = past_word (codes "semantics") ls >>= λ behind. atom_at behind >>= λ p. ended p.1 >>= λ end. Some (semantics p.0)

-- Lines of morphology.

abbrev pub piece_at : Reader (List LinePart)
piece_at ls =
    choose (atom_at ls)
    (choose (variable_at ls)
    (atoms_at ls >>= λ ns. Some (pieces ns.0, ns.1))
    (λ x. Some (Slot x.0 ∷ [], x.1)))
    (λ n. Some (Piece n.0 ∷ [], n.1))

-- what was read piece by piece, as one list after another
abbrev pub flat_behind : List LinePart → Option (List (List LinePart) × List Lexeme) → Option (List LinePart × List Lexeme)
flat_behind front read = read >>= λ ps. Some (front ++ concat ps.0, ps.1)

abbrev pub side_at : Reader (List LinePart)
side_at ls =
    choose (past OpenRound ls) (piece_at ls)
    (λ inner. ended_by CloseRound (separated_at Comma piece_at inner) >>= λ ps. Some (concat ps.0, ps.1))

abbrev pub is_slot : LinePart → List ℕ → Bool
is_slot (Piece n) x = false
is_slot (Slot y) x = bytes_eq y x

abbrev pub has_slot : List LinePart → List ℕ → Bool
has_slot [] x = false
has_slot (p ∷ ps) x = is_slot p x || has_slot ps x

-- whether what the left side matches tells what this part is
abbrev pub is_told : List LinePart → LinePart → Bool
is_told left (Piece n) = true
is_told left (Slot x) = not (bytes_eq x (codes "_")) && has_slot left x

abbrev pub is_bound : List LinePart → List LinePart → Bool
is_bound left [] = true
is_bound left (p ∷ right) = is_told left p && is_bound left right

abbrev pub bound_of : List LinePart → List LinePart → List Lexeme → Option (MorphLine × List Lexeme)
bound_of left right ls = if is_bound left right then Some (record { left = left; right = right }, ls) else None

abbrev pub line_at : Reader MorphLine
line_at ls = side_at ls >>= λ p. past_word (codes "becomes") p.1 >>= λ behind. side_at behind >>= λ q. bound_of p.0 q.0 q.1

-- Rules.

-- "if" and a goal, or nothing
abbrev pub condition_at : Reader (Option GoalData)
condition_at ls = choose (past_word (codes "if") ls) (Some (None, ls)) (λ behind. goal_at behind >>= λ g. Some (Some g.0, g.1))

-- "morphs" and lines
abbrev pub lines_of : List Lexeme → Option (List MorphLine)
lines_of ls = past_word (codes "morphs") ls >>= λ behind. whole (separated_at Comma line_at behind)

-- what stands after "lex_rule"
abbrev pub lexical_of : List ℕ → List Lexeme → Option DeclarationData
lexical_of n ls =
    description_at ls >>= λ d. past LexRuleArrow d.1 >>= λ behind. description_at behind >>= λ e.
    condition_at e.1 >>= λ g. lines_of g.1 >>= λ lines. Some (lex_rule n d.0 e.0 g.0 lines)

abbrev pub lexical_rule_of : List Lexeme → Option DeclarationData
lexical_rule_of ls = atom_at ls >>= λ n. past_word (codes "lex_rule") n.1 >>= λ behind. lexical_of n.0 behind

abbrev pub daughter_at : Reader Element
daughter_at ls = past Greater ls >>= λ behind. element_at behind >>= λ t. Some (daughter t.0, t.1)

abbrev pub daughters_at : Reader Element
daughters_at ls = past Greater ls >>= λ behind. element_at behind >>= λ t. Some (daughters t.0, t.1)

abbrev pub head_at : Reader Element
head_at ls = past Greater ls >>= λ behind. element_at behind >>= λ t. Some (head t.0, t.1)

abbrev pub goal_part_at : Reader Element
goal_part_at ls = past Greater ls >>= λ behind. goal_element_at behind >>= λ g. Some (condition g.0, g.1)

-- an element of a rule
abbrev pub rule_part_at : Reader Element
rule_part_at ls =
    choose (past_word (codes "cat") ls)
    (choose (past_word (codes "cats") ls)
    (choose (past_word (codes "goal") ls)
    (past_word (codes "sem_head") ls >>= λ behind. head_at behind)
    (λ behind. goal_part_at behind))
    (λ behind. daughters_at behind))
    (λ behind. daughter_at behind)

abbrev pub rule_parts_of : List Lexeme → Option (List Element)
rule_parts_of ls = whole (separated_at Comma rule_part_at ls)

abbrev pub rule_of : List Lexeme → Option DeclarationData
rule_of ls =
    atom_at ls >>= λ n. past_word (codes "rule") n.1 >>= λ behind. description_at behind >>= λ d.
    past RuleArrow d.1 >>= λ rest. rule_parts_of rest >>= λ es. Some (rule n.0 d.0 es)

-- Declarations.

-- what the reader of this form reads; not seen through, so that goals stay small
unfoldable pub reading_of : Form → List Lexeme → Option DeclarationData
reading_of Types ls = types_of ls
reading_of Extensional ls = extensional_of ls
reading_of Constraints ls = constraint_of ls
reading_of Macros ls = macro_of ls
reading_of Clauses ls = clause_of ls
reading_of Words ls = word_of ls
reading_of Empties ls = empty_of ls
reading_of LexicalRules ls = lexical_rule_of ls
reading_of Rules ls = rule_of ls
reading_of Semantic ls = semantics_of ls

-- what the first form reads that reads anything
abbrev pub first_of : List Form → List Lexeme → Option DeclarationData
first_of [] ls = None
first_of (f ∷ fs) ls = choose (reading_of f ls) (first_of fs ls) (λ d. Some d)

abbrev pub directive_or : Option (List Lexeme) → Result DeclarationData FormError → Result DeclarationData FormError
directive_or None read = read
directive_or (Some ds) read = Ok (directive_of ds)

-- what the lexemes of a declaration are read as
abbrev pub declaration_of : List Lexeme → Result DeclarationData FormError
declaration_of ls = directive_or (past Neck ls) (checked ls (first_of in_order ls))
