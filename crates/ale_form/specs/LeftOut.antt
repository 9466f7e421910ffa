-- The words of ALE's language that this one leaves out, as they would stand in a declaration or a command.
-- Source: the ALE 3.2 User's Guide has them; that they are left out is this project's own profile.
use Rattle.std.specs.Prelude.{ℕ, Bool, false, ◌&&◌, ◌||◌, if◌then◌else◌, is_some, Option, Some, None, List, [], ◌∷◌, codes}
use Rattle.std.specs.Str.{bytes_eq}
use Rattle.ale_term.specs.declared.symbol.Symbol.{Symbol}
use Rattle.ale_term.specs.declared.symbol.Symbol.TheVariants.{FunctionArrow, Identical, OpenRound, Greater}
use Rattle.ale_term.specs.declared.lexeme.Lexeme.{Lexeme}
use Rattle.ale_term.specs.declared.lexeme.Lexeme.TheVariants.{Atom, Quoted, Variable, Number, Sign, Other, End}
use Rattle.ale_term.specs.Reading.{past, past_word, atom_at, variable_at, choose, ◌>>=◌}

abbrev pub begins : Symbol → List Lexeme → Bool
begins s ls = is_some (past s ls)

-- an atom and "(" stand there
abbrev pub begins_call : List Lexeme → Bool
begins_call ls = is_some (atom_at ls >>= λ n. past OpenRound n.1)

-- an atom, a variable or "(" stands there
abbrev pub begins_argument : List Lexeme → Bool
begins_argument ls = is_some (atom_at ls) || (is_some (variable_at ls) || begins OpenRound ls)

-- a word that is left out before "("
abbrev pub is_call_word : List ℕ → Bool
is_call_word w = bytes_eq w (codes "prolog") || (bytes_eq w (codes "bagof") || bytes_eq w (codes "when"))

-- `when` with `morphs` before, and an atom and "(" after
abbrev pub is_guard : Bool → List ℕ → List Lexeme → Bool
is_guard morphs w ls = morphs && (bytes_eq w (codes "when") && begins_call ls)

abbrev pub is_append : List ℕ → List Lexeme → Bool
is_append w ls = bytes_eq w (codes "a_") && begins_argument ls

abbrev pub is_head_goal : List ℕ → List Lexeme → Bool
is_head_goal w ls = bytes_eq w (codes "sem_goal") && begins Greater ls

-- `prolog`, `bagof` and `when` before "("; `when` after `morphs`, before an atom and "("; `a_` before an atom, a variable
-- or "("; and `sem_goal` before ">"
abbrev pub is_left_out : Bool → List ℕ → List Lexeme → Bool
is_left_out morphs w ls =
    (is_call_word w && begins OpenRound ls) || (is_guard morphs w ls || (is_append w ls || is_head_goal w ls))

-- a symbol that is left out stands at the start
abbrev pub left_out_sign : List Lexeme → Option (List ℕ)
left_out_sign ls = choose (past Identical ls) (past FunctionArrow ls >>= λ behind. Some (codes "+++>")) (λ behind. Some (codes "=@"))

-- a word that is left out stands at the start; `morphs` tells whether the atom `morphs` stands somewhere before
abbrev pub left_out_at : Bool → Lexeme → List Lexeme → Option (List ℕ)
left_out_at morphs (Atom w) ls = if is_left_out morphs w ls then Some w else None
left_out_at morphs (Sign s) ls = left_out_sign (Sign s ∷ ls)
left_out_at morphs (Quoted n) ls = None
left_out_at morphs (Variable n) ls = None
left_out_at morphs (Number n) ls = None
left_out_at morphs Other ls = None
left_out_at morphs End ls = None

abbrev pub is_morphs : Lexeme → Bool
is_morphs l = is_some (past_word (codes "morphs") (l ∷ []))

-- the first word that is left out
abbrev pub first_left_out : Bool → List Lexeme → Option (List ℕ)
first_left_out morphs [] = None
first_left_out morphs (l ∷ ls) =
    choose (left_out_at morphs l ls) (first_left_out (morphs || is_morphs l) ls) (λ w. Some w)

abbrev pub left_out : List Lexeme → Option (List ℕ)
left_out ls = first_left_out false ls
