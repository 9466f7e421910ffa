-- The words of commands are ASCII.
use Rattle.std.proofs.Common.{◌≡◌, refl}
use Rattle.std.specs.Prelude.{codes}
use Rattle.std.specs.Str.{chars}

pub mgsat_word : chars (codes "mgsat") ≡ codes "mgsat"
unfolding chars
mgsat_word = refl

pub query_word : chars (codes "query") ≡ codes "query"
unfolding chars
query_word = refl

pub lex_word : chars (codes "lex") ≡ codes "lex"
unfolding chars
lex_word = refl

pub rec_word : chars (codes "rec") ≡ codes "rec"
unfolding chars
rec_word = refl

pub gen_word : chars (codes "gen") ≡ codes "gen"
unfolding chars
gen_word = refl

pub code_word : chars (codes "code") ≡ codes "code"
unfolding chars
code_word = refl

pub ruleset word_rules = (mgsat_word, query_word, lex_word, rec_word, gen_word, code_word)
