-- Constraints, macros, definite clauses, words, empty categories and the predicate of the semantics are read as their
-- forms say.
use Rattle.std.proofs.Common.{◌≡◌, inl, inr, ℕ, Bool, true, false, if◌then◌else◌, Option, Some, None, List, [], ◌∷◌, ◌++◌, length, refl, sym, ap, subst, ◌∙◌, append_assoc, arith}
use Rattle.std.specs.Prelude.{codes}
use Rattle.std.proofs.lemmas.List.{append-nil}
use Rattle.ale_term.specs.declared.symbol.Symbol.TheVariants.{WordArrow, Comma, OpenRound, CloseRound}
use Rattle.ale_term.specs.declared.lexeme.Lexeme.{Lexeme}
use Rattle.ale_term.specs.declared.lexeme.Lexeme.TheVariants.{Atom, Variable, Sign}
use Rattle.ale_term.specs.Terms.{TermData}
use Rattle.ale_term.specs.Goals.{GoalData}
use Rattle.ale_term.specs.Grammar.{atom_name, Separated, IsDescription}
use Rattle.ale_term.specs.Follows.{Front}
use Rattle.ale_term.specs.Reading.{◌>>=◌, past, past_word, atom_at, variable_at, separated_at, ended_by, description_at, call_at}
use Rattle.ale_term.proofs.Fronts.{bind_some, choose_some, past_front, word_front, atom_front, variable_front, IsSound, sound_separated, sound_ended, between}
use Rattle.ale_term.proofs.Full.{IsFull, Anything, full_separated, description_read, call_read}
use Rattle.ale_term.proofs.Sound.{sound_description, sound_whole_call}
use Rattle.ale_form.specs.Whole.{ended, description_of, goal_of}
use Rattle.ale_declaration.specs.declared.form.Form.TheVariants.{Constraints, Macros, Clauses, Words, Empties, Semantic}
use Rattle.ale_declaration.specs.Declarations.{DeclarationData, constraint, macro, clause, word, empty, semantics}
use Rattle.ale_declaration.specs.Forms.{IsVariable, variable, IsMacroHead, plain, with_parameters, Fits, described, described_with_goal, a_macro, a_clause, a_word, an_empty, a_semantics}
use Rattle.ale_declaration.specs.Reading.{are_distinct, distinct_of, goal_behind, constraint_of, parameters_at, macro_of, clause_of, word_of, empty_of, semantics_of}
use Rattle.ale_declaration.proofs.Distinct.{distinct_true, true_distinct}
use Rattle.ale_form.proofs.Wholes.{nothing_left}
use Rattle.ale_declaration.proofs.Wholes.{got, description_is, is_description, goal_is, is_goal, description_before_word, description_before_end}

pub full_constraint : (ls : List Lexeme) (d : DeclarationData) → Fits Constraints ls d → constraint_of ls ≡ Some d
full_constraint _ _ (described l t xs d a s) =
    let r : description_at xs ≡ got d [] = ap description_at (sym (append-nil xs)) ∙ description_read s [] description_before_end in
    rw (a, r) refl
full_constraint _ _ (described_with_goal l t xs ys d g a s h) =
    let rest : List Lexeme = Atom (codes "goal") ∷ ys in
    let r : description_at (xs ++ Atom (codes "goal") ∷ ys) ≡ got d (Atom (codes "goal") ∷ ys) = description_read s rest (description_before_word (codes "goal") ys) in
    rw (a, r, goal_is ys g h) refl

abbrev no_goal : Option (Option GoalData)
no_goal = Some None

abbrev one_goal : GoalData → Option (Option GoalData)
one_goal g = Some (Some g)

-- what follows the description of a constraint makes a declaration with it
sound_goal_behind : (l : Lexeme) (t : List ℕ) → atom_name l ≡ Some t → (xs : List Lexeme) (s : TermData) → IsDescription xs s →
    (rest : List Lexeme) (g : Option GoalData) → goal_behind rest ≡ Some g → Fits Constraints (l ∷ Atom (codes "cons") ∷ xs ++ rest) (constraint t s g)
sound_goal_behind l t a xs s is rest g e =
    elim (choose_some (past_word (codes "goal") rest) (ended rest >>= λ end. no_goal) (λ behind. goal_of behind >>= λ h. one_goal h) g e) [
      | inl h ↦
          let x = bind_some (ended rest) (λ end. no_goal) g (h.1) in
          let none : Option GoalData = None in
          let q : none ≡ g = cc (x.2) in
          let n : rest ≡ [] = nothing_left rest (x.0) (x.1) in
          subst (λ ys. Fits Constraints (l ∷ Atom (codes "cons") ∷ xs ++ ys) (constraint t s g)) (sym n)
          (subst (λ ys. Fits Constraints (l ∷ Atom (codes "cons") ∷ ys) (constraint t s g)) (sym (append-nil xs))
          (subst (λ o. Fits Constraints (l ∷ Atom (codes "cons") ∷ xs) (constraint t s o)) q (described l t xs s a is)))
      | inr h ↦
          let x = bind_some (goal_of h.0) (λ h. one_goal h) g (h.2) in
          let some : Option GoalData = Some x.0 in
          let q : some ≡ g = cc (x.2) in
          let w : rest ≡ Atom (codes "goal") ∷ h.0 = word_front (codes "goal") rest (h.0) (h.1) in
          subst (λ ys. Fits Constraints (l ∷ Atom (codes "cons") ∷ xs ++ ys) (constraint t s g)) (sym w)
          (subst (λ o. Fits Constraints (l ∷ Atom (codes "cons") ∷ xs ++ Atom (codes "goal") ∷ h.0) (constraint t s o)) q
          (described_with_goal l t xs (h.0) s (x.0) a is (is_goal (h.0) (x.0) (x.1))))
    ]

pub sound_constraint : (ls : List Lexeme) (d : DeclarationData) → constraint_of ls ≡ Some d → Fits Constraints ls d
sound_constraint ls d e =
    let x = bind_some (atom_at ls)
    (λ t. past_word (codes "cons") t.1 >>= λ behind. description_at behind >>= λ s. goal_behind s.1 >>= λ g. Some (constraint t.0 s.0 g)) d e in
    let b = bind_some (past_word (codes "cons") x.0.1) (λ behind. description_at behind >>= λ s. goal_behind s.1 >>= λ g. Some (constraint x.0.0 s.0 g)) d (x.2) in
    let s = bind_some (description_at b.0) (λ s. goal_behind s.1 >>= λ g. Some (constraint x.0.0 s.0 g)) d (b.2) in
    let g = bind_some (goal_behind s.0.1) (λ g. Some (constraint x.0.0 s.0.0 g)) d (s.2) in
    let q : constraint x.0.0 s.0.0 g.0 ≡ d = cc (g.2) in
    let a = atom_front ls (x.0) (x.1) in
    let f = sound_description (b.0) (s.0) (s.1) in
    let split : ls ≡ a.0 ∷ Atom (codes "cons") ∷ f.0 ++ s.0.1 =
    a.2 ∙ ap (λ ys. a.0 ∷ ys) (word_front (codes "cons") (x.0.1) (b.0) (b.1) ∙ ap (λ ys. Atom (codes "cons") ∷ ys) (f.1)) in
    subst (λ ys. Fits Constraints ys d) (sym split) (subst (Fits Constraints (a.0 ∷ Atom (codes "cons") ∷ f.0 ++ s.0.1)) q
    (sound_goal_behind (a.0) (x.0.0) (a.1) (f.0) (s.0.0) (f.2) (s.0.1) (g.0) (g.1)))

-- Macros.

full_variable : (n : ℕ) → IsFull IsVariable Anything n variable_at
full_variable n _ _ rest (variable x) le ends = refl

sound_variable : IsSound IsVariable variable_at
sound_variable zs p e = (Variable p.0 ∷ [], variable_front zs p e, variable (p.0))

pub full_macro : (ls : List Lexeme) (d : DeclarationData) → Fits Macros ls d → macro_of ls ≡ Some d
full_macro _ _ (a_macro _ ys _ _ d (plain l m a) s) = rw (a, description_is ys d s) refl
full_macro _ _ (a_macro _ ys _ _ d (with_parameters l m xs ps a vs distinct) s) =
    let behind : List Lexeme = Atom (codes "macro") ∷ ys in
    let g : xs ++ Sign CloseRound ∷ [] ++ Atom (codes "macro") ∷ ys ≡ xs ++ Sign CloseRound ∷ Atom (codes "macro") ∷ ys = append_assoc xs (Sign CloseRound ∷ []) behind in
    let r : separated_at Comma variable_at (xs ++ Sign CloseRound ∷ Atom (codes "macro") ∷ ys) ≡ got ps (Sign CloseRound ∷ Atom (codes "macro") ∷ ys) =
    full_separated Comma IsVariable Anything (length xs) variable_at (full_variable (length xs)) (record { found = λ zs. refl; ends = λ zs. tt }) vs (omega arith) (Sign CloseRound ∷ behind) tt refl in
    rw (a, g, r, distinct_true ps distinct, description_is ys d s) refl

abbrev IsHead : List ℕ → List Lexeme → List (List ℕ) → Type 0
IsHead m xs ps = IsMacroHead xs m ps

distinct_some : (xs : List (List ℕ)) (ls : List Lexeme) (p : List (List ℕ) × List Lexeme) (b : Bool) → are_distinct xs ≡ b →
    (if b then Some (xs, ls) else None) ≡ Some p → (are_distinct xs ≡ true) × (got xs ls ≡ Some p)
distinct_some xs ls p true t e = (t, e)
distinct_some xs ls p false t e = cc

-- what follows the name of a macro makes its head with it
sound_parameters : (l : Lexeme) (m : List ℕ) → atom_name l ≡ Some m → (zs : List Lexeme) (p : List (List ℕ) × List Lexeme) → parameters_at zs ≡ Some p →
    Front (IsHead m) (l ∷ zs) p
sound_parameters l m a zs p e =
    elim (choose_some (past OpenRound zs) (got [] zs) (λ inner. ended_by CloseRound (separated_at Comma variable_at inner) >>= λ xs. distinct_of xs.0 xs.1) p e) [
      | inl h ↦
          let made : List (List ℕ) × List Lexeme = ([], zs) in
          let q : made ≡ p = cc (h.1) in subst (Front (IsHead m) (l ∷ zs)) q (l ∷ [], refl, plain l m a)
      | inr h ↦
          let x = bind_some (ended_by CloseRound (separated_at Comma variable_at h.0)) (λ xs. distinct_of xs.0 xs.1) p (h.2) in
          let v = distinct_some (x.0.0) (x.0.1) p (are_distinct x.0.0) refl (x.2) in
          let f = sound_ended CloseRound (Separated Comma IsVariable) (separated_at Comma variable_at) (sound_separated Comma IsVariable variable_at sound_variable) (h.0) (x.0) (x.1) in
          let made : List (List ℕ) × List Lexeme = (x.0.0, x.0.1) in
          let q : made ≡ p = cc (v.1) in
          subst (Front (IsHead m) (l ∷ zs)) q (
            l ∷ Sign OpenRound ∷ f.0 ++ Sign CloseRound ∷ [],
            ap (λ ls. l ∷ ls) (between OpenRound CloseRound zs (h.0) (f.0) (x.0.1) (h.1) (f.1)),
            with_parameters l m (f.0) (x.0.0) a (f.2) (true_distinct (x.0.0) (v.0)),
          )
    ]

pub sound_macro : (ls : List Lexeme) (d : DeclarationData) → macro_of ls ≡ Some d → Fits Macros ls d
sound_macro ls d e =
    let x = bind_some (atom_at ls)
    (λ m. parameters_at m.1 >>= λ xs. past_word (codes "macro") xs.1 >>= λ behind. description_of behind >>= λ s. Some (macro m.0 xs.0 s)) d e in
    let y = bind_some (parameters_at x.0.1) (λ xs. past_word (codes "macro") xs.1 >>= λ behind. description_of behind >>= λ s. Some (macro x.0.0 xs.0 s)) d (x.2) in
    let b = bind_some (past_word (codes "macro") y.0.1) (λ behind. description_of behind >>= λ s. Some (macro x.0.0 y.0.0 s)) d (y.2) in
    let s = bind_some (description_of b.0) (λ s. Some (macro x.0.0 y.0.0 s)) d (b.2) in
    let q : macro x.0.0 y.0.0 s.0 ≡ d = cc (s.2) in
    let a = atom_front ls (x.0) (x.1) in
    let f = sound_parameters (a.0) (x.0.0) (a.1) (x.0.1) (y.0) (y.1) in
    let split : ls ≡ f.0 ++ Atom (codes "macro") ∷ b.0 = a.2 ∙ f.1 ∙ ap (λ ys. f.0 ++ ys) (word_front (codes "macro") (y.0.1) (b.0) (b.1)) in
    subst (λ ys. Fits Macros ys d) (sym split) (subst (Fits Macros (f.0 ++ Atom (codes "macro") ∷ b.0)) q
    (a_macro (f.0) (b.0) (x.0.0) (y.0.0) (s.0) (f.2) (is_description (b.0) (s.0) (s.1))))

-- Definite clauses.

pub full_clause : (ls : List Lexeme) (d : DeclarationData) → Fits Clauses ls d → clause_of ls ≡ Some d
full_clause _ _ (a_clause xs ys p ts g c s) =
    let call : List ℕ × List TermData = (p, ts) in
    let r : call_at (xs ++ Atom (codes "if") ∷ ys) ≡ got call (Atom (codes "if") ∷ ys) = call_read c (Atom (codes "if") ∷ ys) refl in
    rw (r, goal_is ys g s) refl

pub sound_clause : (ls : List Lexeme) (d : DeclarationData) → clause_of ls ≡ Some d → Fits Clauses ls d
sound_clause ls d e =
    let c = bind_some (call_at ls) (λ c. past_word (codes "if") c.1 >>= λ behind. goal_of behind >>= λ g. Some (clause c.0.0 c.0.1 g)) d e in
    let b = bind_some (past_word (codes "if") c.0.1) (λ behind. goal_of behind >>= λ g. Some (clause c.0.0.0 c.0.0.1 g)) d (c.2) in
    let g = bind_some (goal_of b.0) (λ g. Some (clause c.0.0.0 c.0.0.1 g)) d (b.2) in
    let q : clause c.0.0.0 c.0.0.1 g.0 ≡ d = cc (g.2) in
    let f = sound_whole_call ls (c.0) (c.1) in
    let split : ls ≡ f.0 ++ Atom (codes "if") ∷ b.0 = f.1 ∙ ap (λ ys. f.0 ++ ys) (word_front (codes "if") (c.0.1) (b.0) (b.1)) in
    subst (λ ys. Fits Clauses ys d) (sym split) (subst (Fits Clauses (f.0 ++ Atom (codes "if") ∷ b.0)) q
    (a_clause (f.0) (b.0) (c.0.0.0) (c.0.0.1) (g.0) (f.2) (is_goal (b.0) (g.0) (g.1))))

-- Words and empty categories.

pub full_word : (ls : List Lexeme) (d : DeclarationData) → Fits Words ls d → word_of ls ≡ Some d
full_word _ _ (a_word l w xs d a s) = rw (a, description_is xs d s) refl

pub sound_word : (ls : List Lexeme) (d : DeclarationData) → word_of ls ≡ Some d → Fits Words ls d
sound_word ls d e =
    let x = bind_some (atom_at ls) (λ w. past WordArrow w.1 >>= λ behind. description_of behind >>= λ s. Some (word w.0 s)) d e in
    let b = bind_some (past WordArrow x.0.1) (λ behind. description_of behind >>= λ s. Some (word x.0.0 s)) d (x.2) in
    let s = bind_some (description_of b.0) (λ s. Some (word x.0.0 s)) d (b.2) in
    let q : word x.0.0 s.0 ≡ d = cc (s.2) in
    let a = atom_front ls (x.0) (x.1) in
    let split : ls ≡ a.0 ∷ Sign WordArrow ∷ b.0 = a.2 ∙ ap (λ ys. a.0 ∷ ys) (past_front WordArrow (x.0.1) (b.0) (b.1)) in
    subst (λ ys. Fits Words ys d) (sym split) (subst (Fits Words (a.0 ∷ Sign WordArrow ∷ b.0)) q
    (a_word (a.0) (x.0.0) (b.0) (s.0) (a.1) (is_description (b.0) (s.0) (s.1))))

pub full_empty : (ls : List Lexeme) (d : DeclarationData) → Fits Empties ls d → empty_of ls ≡ Some d
full_empty _ _ (an_empty xs d s) = rw (description_is xs d s) refl

pub sound_empty : (ls : List Lexeme) (d : DeclarationData) → empty_of ls ≡ Some d → Fits Empties ls d
sound_empty ls d e =
    let b = bind_some (past_word (codes "empty") ls) (λ behind. description_of behind >>= λ s. Some (empty s)) d e in
    let s = bind_some (description_of b.0) (λ s. Some (empty s)) d (b.2) in
    let q : empty s.0 ≡ d = cc (s.2) in
    subst (λ ys. Fits Empties ys d) (sym (word_front (codes "empty") ls (b.0) (b.1))) (subst (Fits Empties (Atom (codes "empty") ∷ b.0)) q
    (an_empty (b.0) (s.0) (is_description (b.0) (s.0) (s.1))))

-- The predicate of the semantics.

pub full_semantics : (ls : List Lexeme) (d : DeclarationData) → Fits Semantic ls d → semantics_of ls ≡ Some d
full_semantics _ _ (a_semantics l p a) = rw a refl

pub sound_semantics : (ls : List Lexeme) (d : DeclarationData) → semantics_of ls ≡ Some d → Fits Semantic ls d
sound_semantics ls d e =
    let b = bind_some (past_word (codes "semantics") ls) (λ behind. atom_at behind >>= λ p. ended p.1 >>= λ end. Some (semantics p.0)) d e in
    let x = bind_some (atom_at b.0) (λ p. ended p.1 >>= λ end. Some (semantics p.0)) d (b.2) in
    let u = bind_some (ended x.0.1) (λ end. Some (semantics x.0.0)) d (x.2) in
    let q : semantics x.0.0 ≡ d = cc (u.2) in
    let a = atom_front (b.0) (x.0) (x.1) in
    let split : ls ≡ Atom (codes "semantics") ∷ a.0 ∷ [] =
    word_front (codes "semantics") ls (b.0) (b.1) ∙ ap (λ ys. Atom (codes "semantics") ∷ ys) (a.2 ∙ ap (λ ys. a.0 ∷ ys) (nothing_left (x.0.1) (u.0) (u.1))) in
    subst (λ ys. Fits Semantic ys d) (sym split) (subst (Fits Semantic (Atom (codes "semantics") ∷ a.0 ∷ [])) q (a_semantics (a.0) (x.0.0) (a.1)))
