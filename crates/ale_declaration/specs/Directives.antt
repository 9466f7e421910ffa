-- Directives: what begins with ":-". Two have a number; any other is passed over, by the atom after ":-" where one stands
-- there.
-- Source: this project's own profile.
use Rattle.std.specs.Prelude.{ℕ, Option, Some, None, List, codes}
use Rattle.ale_term.specs.declared.symbol.Symbol.TheVariants.{OpenRound, CloseRound}
use Rattle.ale_term.specs.declared.lexeme.Lexeme.{Lexeme}
use Rattle.ale_term.specs.Reading.{past, past_word, atom_at, ◌>>=◌}
use Rattle.ale_form.specs.Numbers.{number_at, held}
use Rattle.ale_form.specs.Whole.{ended}
use Rattle.ale_declaration.specs.Declarations.{DeclarationData, lex_depth, chain_length, passed_over}

-- this word, and a number in round brackets, and nothing after it
abbrev pub numbered : List ℕ → List Lexeme → Option ℕ
numbered w ls =
    past_word w ls >>= λ behind. past OpenRound behind >>= λ inner. number_at inner >>= λ n.
    past CloseRound n.1 >>= λ rest. ended rest >>= λ end. Some (held n.0)

-- the name of a directive that is passed over: `-` where no atom stands after ":-"
abbrev pub name_or_dash : Option (List ℕ × List Lexeme) → List ℕ
name_or_dash None = codes "-"
name_or_dash (Some n) = n.0

abbrev pub chain_or_other : Option ℕ → List Lexeme → DeclarationData
chain_or_other (Some n) ls = chain_length n
chain_or_other None ls = passed_over (name_or_dash (atom_at ls))

abbrev pub depth_or_other : Option ℕ → List Lexeme → DeclarationData
depth_or_other (Some n) ls = lex_depth n
depth_or_other None ls = chain_or_other (numbered (codes "chain_length") ls) ls

-- the directive whose lexemes after ":-" these are
abbrev pub directive_of : List Lexeme → DeclarationData
directive_of ls = depth_or_other (numbered (codes "lex_rule_depth") ls) ls
