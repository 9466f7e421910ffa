-- The forms of declarations, over lexemes.
-- Source of the forms: the ALE 3.2 User's Guide, in this project's own profile.
use Rattle.std.specs.Prelude.{◌≡◌, ◌≢◌, ℕ, Some, None, List, [], ◌∷◌, ◌++◌, codes}
use Rattle.ale_relation.specs.Has.{Has}
use Rattle.ale_declared.specs.declared.decl.SigDecl.TheVariants.{Kind, Ext}
use Rattle.ale_term.specs.declared.symbol.Symbol.TheVariants.{RuleArrow, WordArrow, LexRuleArrow, Colon, Comma, OpenRound, CloseRound, OpenSquare, CloseSquare, Greater}
use Rattle.ale_term.specs.declared.lexeme.Lexeme.{Lexeme}
use Rattle.ale_term.specs.declared.lexeme.Lexeme.TheVariants.{Atom, Variable, Sign}
use Rattle.ale_term.specs.Terms.{TermData}
use Rattle.ale_term.specs.Goals.{GoalData}
use Rattle.ale_term.specs.Grammar.{atom_name, IsAtom, Separated, Listed, IsPath, IsDescription, IsPart, IsCall, IsGoal, IsGoalPart}
use Rattle.ale_declaration.specs.declared.form.Form.{Form}
use Rattle.ale_declaration.specs.declared.form.Form.TheVariants.{Types, Extensional, Constraints, Macros, Clauses, Words, Empties, LexicalRules, Rules, Semantic}
use Rattle.ale_declaration.specs.declared.declaration.LinePart.{LinePart}
use Rattle.ale_declaration.specs.declared.declaration.LinePart.TheVariants.{Piece, Slot}
use Rattle.ale_declaration.specs.declared.declaration.MorphLine.{MorphLine}
use Rattle.ale_declaration.specs.Declarations.{Element, daughter, daughters, condition, head, DeclarationData, signature, constraint, macro, clause, word, empty, lex_rule, rule, semantics}

-- a word of the language; it is never quoted
abbrev pub keyword : List ℕ → Lexeme
keyword w = Atom w

-- a feature and the restriction on its value: atom ":" atom
pub data IsRestriction : List Lexeme → List ℕ × List ℕ → Type 0 where
  restriction : (l m : Lexeme) (f t : List ℕ) → atom_name l ≡ Some f → atom_name m ≡ Some t → IsRestriction (l ∷ Sign Colon ∷ m ∷ []) (f, t)

-- a parameter of a macro
pub data IsVariable : List Lexeme → List ℕ → Type 0 where
  variable : (x : List ℕ) → IsVariable (Variable x ∷ []) x

-- no name stands twice, but `_` may
abbrev pub AreDistinct : List (List ℕ) → Type 0
AreDistinct [] = Unit {0}
AreDistinct (x ∷ xs) = (x ≢ codes "_" → Has xs x → ⊥) × AreDistinct xs

-- what a macro is declared for: an atom, or an atom with different variables in brackets
pub data IsMacroHead : List Lexeme → List ℕ → List (List ℕ) → Type 0 where
  plain : (l : Lexeme) (m : List ℕ) → atom_name l ≡ Some m → IsMacroHead (l ∷ []) m []
  with_parameters : (l : Lexeme) (m : List ℕ) (xs : List Lexeme) (ps : List (List ℕ)) → atom_name l ≡ Some m →
      Separated Comma IsVariable xs ps → AreDistinct ps → IsMacroHead (l ∷ Sign OpenRound ∷ xs ++ Sign CloseRound ∷ []) m ps

abbrev pub pieces : List (List ℕ) → List LinePart
pieces [] = []
pieces (n ∷ ns) = Piece n ∷ pieces ns

-- a piece of a side: an atom, a variable, or atoms in square brackets, which are the atoms one after the other
pub data IsPiece : List Lexeme → List LinePart → Type 0 where
  letters : (l : Lexeme) (n : List ℕ) → atom_name l ≡ Some n → IsPiece (l ∷ []) (Piece n ∷ [])
  unknown : (x : List ℕ) → IsPiece (Variable x ∷ []) (Slot x ∷ [])
  several : (xs : List Lexeme) (ns : List (List ℕ)) → Separated Comma IsAtom xs ns →
      IsPiece (Sign OpenSquare ∷ xs ++ Sign CloseSquare ∷ []) (pieces ns)

abbrev pub concat : List (List LinePart) → List LinePart
concat [] = []
concat (ps ∷ rest) = ps ++ concat rest

-- a side of a line: a piece, or pieces in round brackets, one after the other
pub data IsSide : List Lexeme → List LinePart → Type 0 where
  one : (xs : List Lexeme) (ps : List LinePart) → IsPiece xs ps → IsSide xs ps
  more : (xs : List Lexeme) (pss : List (List LinePart)) → Separated Comma IsPiece xs pss →
      IsSide (Sign OpenRound ∷ xs ++ Sign CloseRound ∷ []) (concat pss)

-- each variable of the right side stands in the left side, and `_` doesn't stand in the right side
abbrev pub IsBound : List LinePart → List LinePart → Type 0
IsBound left right = (x : List ℕ) → Has right (Slot x) → (x ≢ codes "_") × Has left (Slot x)

-- a line of morphology: side "becomes" side
pub data IsLine : List Lexeme → MorphLine → Type 0 where
  line : (xs ys : List Lexeme) (ps qs : List LinePart) → IsSide xs ps → IsSide ys qs → IsBound ps qs →
      IsLine (xs ++ keyword (codes "becomes") ∷ ys) (record { left = ps; right = qs })

-- an element of a rule
pub data IsElement : List Lexeme → Element → Type 0 where
  is_daughter : (xs : List Lexeme) (t : TermData) → IsPart xs t → IsElement (keyword (codes "cat") ∷ Sign Greater ∷ xs) (daughter t)
  are_daughters : (xs : List Lexeme) (t : TermData) → IsPart xs t → IsElement (keyword (codes "cats") ∷ Sign Greater ∷ xs) (daughters t)
  is_condition : (xs : List Lexeme) (g : GoalData) → IsGoalPart xs g → IsElement (keyword (codes "goal") ∷ Sign Greater ∷ xs) (condition g)
  is_head : (xs : List Lexeme) (t : TermData) → IsPart xs t → IsElement (keyword (codes "sem_head") ∷ Sign Greater ∷ xs) (head t)

-- the lexemes are a declaration of this form
pub data Fits : Form → List Lexeme → DeclarationData → Type 0 where
  subtypes : (l : Lexeme) (t : List ℕ) (xs : List Lexeme) (ts : List (List ℕ)) → atom_name l ≡ Some t → IsPath xs ts →
      Fits Types (l ∷ keyword (codes "sub") ∷ xs) (signature (Kind t ts []))
  subtypes_and_features : (l : Lexeme) (t : List ℕ) (xs ys : List Lexeme) (ts : List (List ℕ)) (fs : List (List ℕ × List ℕ)) →
      atom_name l ≡ Some t → IsPath xs ts → Listed IsRestriction ys fs →
      Fits Types (l ∷ keyword (codes "sub") ∷ xs ++ keyword (codes "intro") ∷ ys) (signature (Kind t ts fs))
  features : (l : Lexeme) (t : List ℕ) (ys : List Lexeme) (fs : List (List ℕ × List ℕ)) → atom_name l ≡ Some t → Listed IsRestriction ys fs →
      Fits Types (l ∷ keyword (codes "intro") ∷ ys) (signature (Kind t [] fs))
  extensional_types : (xs : List Lexeme) (ts : List (List ℕ)) → Separated Comma IsAtom xs ts →
      Fits Extensional (keyword (codes "ext") ∷ Sign OpenRound ∷ Sign OpenSquare ∷ xs ++ Sign CloseSquare ∷ Sign CloseRound ∷ []) (signature (Ext ts))
  described : (l : Lexeme) (t : List ℕ) (xs : List Lexeme) (d : TermData) → atom_name l ≡ Some t → IsDescription xs d →
      Fits Constraints (l ∷ keyword (codes "cons") ∷ xs) (constraint t d None)
  described_with_goal : (l : Lexeme) (t : List ℕ) (xs ys : List Lexeme) (d : TermData) (g : GoalData) → atom_name l ≡ Some t →
      IsDescription xs d → IsGoal ys g →
      Fits Constraints (l ∷ keyword (codes "cons") ∷ xs ++ keyword (codes "goal") ∷ ys) (constraint t d (Some g))
  a_macro : (xs ys : List Lexeme) (m : List ℕ) (ps : List (List ℕ)) (d : TermData) → IsMacroHead xs m ps → IsDescription ys d →
      Fits Macros (xs ++ keyword (codes "macro") ∷ ys) (macro m ps d)
  a_clause : (xs ys : List Lexeme) (p : List ℕ) (ts : List TermData) (g : GoalData) → IsCall xs p ts → IsGoal ys g →
      Fits Clauses (xs ++ keyword (codes "if") ∷ ys) (clause p ts g)
  a_word : (l : Lexeme) (w : List ℕ) (xs : List Lexeme) (d : TermData) → atom_name l ≡ Some w → IsDescription xs d →
      Fits Words (l ∷ Sign WordArrow ∷ xs) (word w d)
  an_empty : (xs : List Lexeme) (d : TermData) → IsDescription xs d → Fits Empties (keyword (codes "empty") ∷ xs) (empty d)
  a_lexical_rule : (l : Lexeme) (n : List ℕ) (xs ys zs : List Lexeme) (d e : TermData) (ls : List MorphLine) → atom_name l ≡ Some n →
      IsDescription xs d → IsDescription ys e → Separated Comma IsLine zs ls →
      Fits LexicalRules (l ∷ keyword (codes "lex_rule") ∷ xs ++ Sign LexRuleArrow ∷ ys ++ keyword (codes "morphs") ∷ zs) (lex_rule n d e None ls)
  a_lexical_rule_with_goal : (l : Lexeme) (n : List ℕ) (xs ys gs zs : List Lexeme) (d e : TermData) (g : GoalData) (ls : List MorphLine) → atom_name l ≡ Some n →
      IsDescription xs d → IsDescription ys e → IsGoal gs g → Separated Comma IsLine zs ls →
      Fits LexicalRules (l ∷ keyword (codes "lex_rule") ∷ xs ++ Sign LexRuleArrow ∷ ys ++ keyword (codes "if") ∷ gs ++ keyword (codes "morphs") ∷ zs) (lex_rule n d e (Some g) ls)
  a_rule : (l : Lexeme) (n : List ℕ) (xs ys : List Lexeme) (d : TermData) (es : List Element) → atom_name l ≡ Some n →
      IsDescription xs d → Separated Comma IsElement ys es →
      Fits Rules (l ∷ keyword (codes "rule") ∷ xs ++ Sign RuleArrow ∷ ys) (rule n d es)
  a_semantics : (l : Lexeme) (p : List ℕ) → atom_name l ≡ Some p → Fits Semantic (keyword (codes "semantics") ∷ l ∷ []) (semantics p)

-- the first form that fits the whole
pub data IsFirstFit : List Form → List Lexeme → DeclarationData → Type 0 where
  here : (f : Form) (fs : List Form) (ls : List Lexeme) (d : DeclarationData) → Fits f ls d → IsFirstFit (f ∷ fs) ls d
  later : (f : Form) (fs : List Form) (ls : List Lexeme) (d : DeclarationData) → ((e : DeclarationData) → Fits f ls e → ⊥) →
      IsFirstFit fs ls d → IsFirstFit (f ∷ fs) ls d

abbrev pub in_order : List Form
in_order = Types ∷ Extensional ∷ Constraints ∷ Macros ∷ Clauses ∷ Words ∷ Empties ∷ LexicalRules ∷ Rules ∷ Semantic ∷ []

-- a declaration that is no directive
abbrev pub IsDeclaration : List Lexeme → DeclarationData → Type 0
IsDeclaration = IsFirstFit in_order
