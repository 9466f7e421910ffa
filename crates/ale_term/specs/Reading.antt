-- The reading of lexemes as functions, by levels. A reader reads at the start of lexemes, and gives what it read with
-- the lexemes after it, or None where nothing of its form stands there.
use Rattle.std.specs.Prelude.{ℕ, zero, suc, Bool, true, false, ◌==◌, if◌then◌else◌, Option, Some, None, List, [], ◌∷◌, length, codes}
use Rattle.std.specs.Str.{bytes_eq}
use Rattle.ale_term.specs.declared.symbol.Symbol.{Symbol}
use Rattle.ale_term.specs.declared.symbol.Symbol.TheVariants.{RuleArrow, WordArrow, FunctionArrow, LexRuleArrow, OtherThan, SamePath, Identical, Neck, Then, NotProved, Equals, Colon, Comma, Semicolon, OpenRound, CloseRound, OpenSquare, CloseSquare, Bar, MacroSign, Exclamation, Slash, Greater}
use Rattle.ale_term.specs.declared.lexeme.Lexeme.{Lexeme}
use Rattle.ale_term.specs.declared.lexeme.Lexeme.TheVariants.{Atom, Quoted, Variable, Number, Sign, Other, End}
use Rattle.ale_term.specs.Terms.{TermData, name, slot, at, differs, meet, macro, list, list_with, terms_of, all_of, any_of}
use Rattle.ale_term.specs.Goals.{GoalData, holds, cut, equal, call, not_proved, if_else, once, each_of, either_of}
use Rattle.ale_term.specs.Grammar.{atom_name}

infixl 10 ◌>>=◌
-- goes on with what was read, if anything was
abbrev pub ◌>>=◌ : {A B : Type 0} → Option A → (A → Option B) → Option B
◌>>=◌ None next = None
◌>>=◌ (Some x) next = next x

-- goes on with what was read, or otherwise
abbrev pub choose : {A B : Type 0} → Option A → Option B → (A → Option B) → Option B
choose None otherwise next = otherwise
choose (Some x) otherwise next = next x

-- reads at the start of lexemes
abbrev pub Reader : Type 0 → Type 0
Reader A = List Lexeme → Option (A × List Lexeme)

-- each symbol has a number of its own
abbrev pub symbol_number : Symbol → ℕ
symbol_number RuleArrow = 0
symbol_number WordArrow = 1
symbol_number FunctionArrow = 2
symbol_number LexRuleArrow = 3
symbol_number OtherThan = 4
symbol_number SamePath = 5
symbol_number Identical = 6
symbol_number Neck = 7
symbol_number Then = 8
symbol_number NotProved = 9
symbol_number Equals = 10
symbol_number Colon = 11
symbol_number Comma = 12
symbol_number Semicolon = 13
symbol_number OpenRound = 14
symbol_number CloseRound = 15
symbol_number OpenSquare = 16
symbol_number CloseSquare = 17
symbol_number Bar = 18
symbol_number MacroSign = 19
symbol_number Exclamation = 20
symbol_number Slash = 21
symbol_number Greater = 22

-- after this symbol, where the lexeme before the others is it
abbrev pub past_sign : Symbol → Lexeme → List Lexeme → Option (List Lexeme)
past_sign s (Sign k) ls = if symbol_number k == symbol_number s then Some ls else None
past_sign s (Atom n) ls = None
past_sign s (Quoted n) ls = None
past_sign s (Variable n) ls = None
past_sign s (Number n) ls = None
past_sign s Other ls = None
past_sign s End ls = None

-- after this symbol
abbrev pub past : Symbol → List Lexeme → Option (List Lexeme)
past s [] = None
past s (l ∷ ls) = past_sign s l ls

-- after this word
abbrev pub past_word : List ℕ → List Lexeme → Option (List Lexeme)
past_word w [] = None
past_word w (Atom n ∷ ls) = if bytes_eq n w then Some ls else None
past_word w (Quoted n ∷ ls) = None
past_word w (Variable n ∷ ls) = None
past_word w (Number n ∷ ls) = None
past_word w (Sign k ∷ ls) = None
past_word w (Other ∷ ls) = None
past_word w (End ∷ ls) = None

-- an atom
abbrev pub atom_at : Reader (List ℕ)
atom_at [] = None
atom_at (l ∷ ls) = atom_name l >>= λ n. Some (n, ls)

-- a variable
abbrev pub variable_at : Reader (List ℕ)
variable_at [] = None
variable_at (Variable n ∷ ls) = Some (n, ls)
variable_at (Atom n ∷ ls) = None
variable_at (Quoted n ∷ ls) = None
variable_at (Number n ∷ ls) = None
variable_at (Sign k ∷ ls) = None
variable_at (Other ∷ ls) = None
variable_at (End ∷ ls) = None

-- { s one }, up to as many
abbrev pub more_at : {A : Type 0} → ℕ → Symbol → Reader A → Reader (List A)
more_at zero s one ls = Some ([], ls)
more_at (suc n) s one ls =
    choose (past s ls) (Some ([], ls)) (λ behind.
    one behind >>= λ x. more_at n s one x.1 >>= λ xs. Some (x.0 ∷ xs.0, xs.1))

-- one { s one }
abbrev pub separated_at : {A : Type 0} → Symbol → Reader A → Reader (List A)
separated_at s one ls = one ls >>= λ x. more_at (length x.1) s one x.1 >>= λ xs. Some (x.0 ∷ xs.0, xs.1)

-- what was read, with the lexemes after the symbol that follows it
abbrev pub ended_by : {A : Type 0} → Symbol → Option (A × List Lexeme) → Option (A × List Lexeme)
ended_by s read = read >>= λ x. past s x.1 >>= λ behind. Some (x.0, behind)

-- "[" "]" | "[" one { "," one } "]"
abbrev pub list_at : {A : Type 0} → Reader A → Reader (List A)
list_at one ls =
    past OpenSquare ls >>= λ inner.
    choose (past CloseSquare inner) (ended_by CloseSquare (separated_at Comma one inner)) (λ behind. Some ([], behind))

-- a path
abbrev pub path_at : Reader (List (List ℕ))
path_at = list_at atom_at

-- In these, `deep` reads a simple description.

-- part = path "==" path | simple
abbrev pub part_at : Reader TermData → Reader TermData
part_at deep ls = choose (ended_by SamePath (path_at ls)) (deep ls) (λ p. path_at p.1 >>= λ q. Some (meet p.0 q.0, q.1))

-- part { "," part }
abbrev pub parts_at : Reader TermData → Reader (List TermData)
parts_at deep = separated_at Comma (part_at deep)

-- conjunction
abbrev pub conjunction_at : Reader TermData → Reader TermData
conjunction_at deep ls = parts_at deep ls >>= λ ts. Some (all_of ts.0, ts.1)

-- description
abbrev pub disjunction_at : Reader TermData → Reader TermData
disjunction_at deep ls = separated_at Semicolon (conjunction_at deep) ls >>= λ ts. Some (any_of ts.0, ts.1)

-- what follows the name of a call: nothing, or "(" part { "," part } ")"
abbrev pub arguments_at : Reader TermData → Reader (List TermData)
arguments_at deep ls = choose (past OpenRound ls) (Some ([], ls)) (λ inner. ended_by CloseRound (parts_at deep inner))

-- call
abbrev pub call_of : Reader TermData → Reader (List ℕ × List TermData)
call_of deep ls = atom_at ls >>= λ n. arguments_at deep n.1 >>= λ ts. Some ((n.0, ts.0), ts.1)

-- what follows an atom: ":" simple, or nothing
abbrev pub named_at : Reader TermData → List ℕ → Reader TermData
named_at deep n ls = choose (past Colon ls) (Some (name n, ls)) (λ behind. deep behind >>= λ t. Some (at n t.0, t.1))

-- "(" description ")", after the bracket
abbrev pub group_at : Reader TermData → Reader TermData
group_at deep ls = ended_by CloseRound (disjunction_at deep ls)

-- what follows the items of a list: "]", or "|" part "]"
abbrev pub tail_at : Reader TermData → List TermData → Reader TermData
tail_at deep ts ls =
    choose (past Bar ls)
    (past CloseSquare ls >>= λ behind. Some (list (terms_of ts), behind))
    (λ inner. ended_by CloseSquare (part_at deep inner) >>= λ t. Some (list_with (terms_of ts) t.0, t.1))

-- list, after the bracket
abbrev pub items_at : Reader TermData → Reader TermData
items_at deep ls =
    choose (past CloseSquare ls)
    (parts_at deep ls >>= λ ts. tail_at deep ts.0 ts.1)
    (λ behind. Some (list (terms_of []), behind))

-- a simple description that begins with a symbol
abbrev pub signed_at : Reader TermData → Reader TermData
signed_at deep ls =
    choose (past OtherThan ls)
    (choose (past MacroSign ls)
    (choose (past OpenRound ls)
    (past OpenSquare ls >>= λ inner. items_at deep inner)
    (λ inner. group_at deep inner))
    (λ behind. call_of deep behind >>= λ c. Some (macro c.0.0 (terms_of c.0.1), c.1)))
    (λ behind. deep behind >>= λ t. Some (differs t.0, t.1))

-- a simple description that doesn't begin with an atom
abbrev pub unnamed_at : Reader TermData → Reader TermData
unnamed_at deep ls = choose (variable_at ls) (signed_at deep ls) (λ n. Some (slot n.0, n.1))

-- a simple description, where `deep` reads what nests one level deeper
abbrev pub simple_at : Reader TermData → Reader TermData
simple_at deep ls = choose (atom_at ls) (unnamed_at deep ls) (λ n. named_at deep n.0 n.1)

-- a simple description of so many levels
abbrev pub simple_of : ℕ → Reader TermData
simple_of zero ls = None
simple_of (suc n) ls = simple_at (simple_of n) ls

-- a description, a part and a call; no lexemes nest deeper than they are many
abbrev pub description_at : Reader TermData
description_at ls = disjunction_at (simple_of (length ls)) ls

abbrev pub element_at : Reader TermData
element_at ls = part_at (simple_of (length ls)) ls

abbrev pub call_at : Reader (List ℕ × List TermData)
call_at ls = call_of (simple_of (length ls)) ls

-- In these, `simple` reads a simple description, `part` a goal part and `goal` a goal.

-- goals
abbrev pub goals_at : Reader GoalData → Reader GoalData
goals_at part ls = separated_at Comma part ls >>= λ gs. Some (each_of gs.0, gs.1)

-- what follows a condition and "->"
abbrev pub then_at : Reader GoalData → Reader GoalData → GoalData → Reader GoalData
then_at part goal c ls =
    goals_at part ls >>= λ g.
    choose (past Semicolon g.1) (Some (once c g.0, g.1)) (λ behind. goal behind >>= λ e. Some (if_else c g.0 e.0, e.1))

-- one alternative, and whether a ";" before others stood after it
abbrev pub alternative_at : Reader GoalData → Reader GoalData → Reader (GoalData × Bool)
alternative_at part goal ls =
    goals_at part ls >>= λ g.
    choose (past Then g.1)
    (choose (past Semicolon g.1) (Some ((g.0, false), g.1)) (λ behind. Some ((g.0, true), behind)))
    (λ behind. then_at part goal g.0 behind >>= λ a. Some ((a.0, false), a.1))

-- alternatives, up to as many
abbrev pub alternatives_at : ℕ → Reader GoalData → Reader GoalData → Reader (List GoalData)
alternatives_at zero part goal ls = None
alternatives_at (suc n) part goal ls =
    alternative_at part goal ls >>= λ a.
    if a.0.1 then (alternatives_at n part goal a.1 >>= λ gs. Some (a.0.0 ∷ gs.0, gs.1)) else Some (a.0.0 ∷ [], a.1)

-- goal
abbrev pub either_at : Reader GoalData → Reader GoalData → Reader GoalData
either_at part goal ls = alternatives_at (length ls) part goal ls >>= λ gs. Some (either_of gs.0, gs.1)

-- the goal `true`, which has no arguments
abbrev pub true_at : List Lexeme → Option (List Lexeme)
true_at ls = past_word (codes "true") ls >>= λ behind. choose (past OpenRound behind) (Some behind) (λ inner. None)

-- "true" | call
abbrev pub predicate_at : Reader TermData → Reader GoalData
predicate_at simple ls = choose (true_at ls) (call_of simple ls >>= λ c. Some (call c.0.0 c.0.1, c.1)) (λ behind. Some (holds, behind))

-- a goal part that is no equation
abbrev pub other_goal_at : Reader TermData → Reader GoalData → Reader GoalData → Reader GoalData
other_goal_at simple part goal ls =
    choose (past Exclamation ls)
    (choose (past NotProved ls)
    (choose (past OpenRound ls) (predicate_at simple ls) (λ inner. ended_by CloseRound (goal inner)))
    (λ behind. part behind >>= λ g. Some (not_proved g.0, g.1)))
    (λ behind. Some (cut, behind))

-- a goal part, where `part` and `goal` read what nests one level deeper
abbrev pub goal_part_at : Reader TermData → Reader GoalData → Reader GoalData → Reader GoalData
goal_part_at simple part goal ls =
    choose (ended_by Equals (simple ls)) (other_goal_at simple part goal ls) (λ t. simple t.1 >>= λ u. Some (equal t.0 u.0, u.1))

-- a goal part and a goal of so many levels
abbrev mutual
  pub goal_part_of : ℕ → Reader GoalData
  goal_part_of zero ls = None
  goal_part_of (suc n) ls = goal_part_at (simple_of n) (goal_part_of n) (goal_of n) ls

  pub goal_of : ℕ → Reader GoalData
  goal_of zero ls = None
  goal_of (suc n) ls = either_at (goal_part_at (simple_of n) (goal_part_of n) (goal_of n)) (goal_of n) ls

-- a goal and a goal part; no lexemes nest deeper than they are many
abbrev pub goal_at : Reader GoalData
goal_at ls = goal_of (length ls) ls

abbrev pub goal_element_at : Reader GoalData
goal_element_at ls = goal_part_of (length ls) ls
