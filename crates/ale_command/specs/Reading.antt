-- The reading of commands, as functions over all of the lexemes.
use Rattle.std.specs.Prelude.{ℕ, Option, Some, None, List, length, nat_lt, if◌then◌else◌, Result, codes}
use Rattle.ale_term.specs.declared.symbol.Symbol.TheVariants.{Slash}
use Rattle.ale_term.specs.declared.lexeme.Lexeme.{Lexeme}
use Rattle.ale_term.specs.Reading.{◌>>=◌, choose, past, past_word, atom_at}
use Rattle.ale_form.specs.declared.error.FormError.{FormError}
use Rattle.ale_form.specs.Whole.{ended, description_of, goal_of, path_of}
use Rattle.ale_form.specs.Numbers.{number_at, held}
use Rattle.ale_form.specs.Results.{checked}
use Rattle.ale_command.specs.Commands.{CommandData, mgsat, query, lex, rec, gen, code}

-- what follows the word of a command
abbrev pub satisfiers_of : List Lexeme → Option CommandData
satisfiers_of ls = description_of ls >>= λ t. Some (mgsat t)

abbrev pub proofs_of : List Lexeme → Option CommandData
proofs_of ls = goal_of ls >>= λ g. Some (query g)

abbrev pub entries_of : List Lexeme → Option CommandData
entries_of ls = atom_at ls >>= λ w. ended w.1 >>= λ end. Some (lex w.0)

abbrev pub parses_of : List Lexeme → Option CommandData
parses_of ls = path_of ls >>= λ ws. Some (rec ws)

abbrev pub sentences_of : List Lexeme → Option CommandData
sentences_of ls = description_of ls >>= λ t. Some (gen t)

-- the most digits that the number of arguments may have
unfoldable pub most_digits : ℕ
most_digits = 9

-- a number of no more digits than that, which is the last
abbrev pub arity_of : List Lexeme → Option ℕ
arity_of ls =
    number_at ls >>= λ n. ended n.1 >>= λ end.
    if nat_lt most_digits (length n.0) then None else Some (held n.0)

abbrev pub instructions_of : List Lexeme → Option CommandData
instructions_of ls =
    atom_at ls >>= λ p. past Slash p.1 >>= λ behind. arity_of behind >>= λ n. Some (code p.0 n)

-- the command that the lexemes are, if they are one
abbrev pub command_at : List Lexeme → Option CommandData
command_at ls =
    choose (past_word (codes "mgsat") ls)
    (choose (past_word (codes "query") ls)
    (choose (past_word (codes "lex") ls)
    (choose (past_word (codes "rec") ls)
    (choose (past_word (codes "gen") ls)
    (past_word (codes "code") ls >>= λ behind. instructions_of behind)
    sentences_of)
    parses_of)
    entries_of)
    proofs_of)
    satisfiers_of

abbrev pub command_of : List Lexeme → Result CommandData FormError
command_of ls = checked ls (command_at ls)
