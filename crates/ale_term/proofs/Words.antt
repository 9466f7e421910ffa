-- The words and symbols of the language, which are ASCII, and two tests that hold together.
use Rattle.std.proofs.Common.{◌≡◌, Bool, true, false, refl, sym}
use Rattle.std.specs.Prelude.{codes}
use Rattle.std.specs.Str.{chars}

pub same_test : (a b : Bool) → (a ≡ true → b ≡ true) → (b ≡ true → a ≡ true) → a ≡ b
same_test true b p q = sym (p refl)
same_test false true p q = q refl
same_test false false p q = refl

pub true_chars : chars (codes "true") ≡ codes "true"
unfolding chars
true_chars = refl

pub ruleset word_rules = (true_chars)

pub rule_arrow : chars (codes "===>") ≡ codes "===>"
unfolding chars
rule_arrow = refl

pub word_arrow : chars (codes "--->") ≡ codes "--->"
unfolding chars
word_arrow = refl

pub function_arrow : chars (codes "+++>") ≡ codes "+++>"
unfolding chars
function_arrow = refl

pub lex_rule_arrow : chars (codes "**>") ≡ codes "**>"
unfolding chars
lex_rule_arrow = refl

pub other_than : chars (codes "=\\=") ≡ codes "=\\="
unfolding chars
other_than = refl

pub same_path : chars (codes "==") ≡ codes "=="
unfolding chars
same_path = refl

pub identical : chars (codes "=@") ≡ codes "=@"
unfolding chars
identical = refl

pub neck : chars (codes ":-") ≡ codes ":-"
unfolding chars
neck = refl

pub then_sign : chars (codes "->") ≡ codes "->"
unfolding chars
then_sign = refl

pub not_proved : chars (codes "\\+") ≡ codes "\\+"
unfolding chars
not_proved = refl

pub equals : chars (codes "=") ≡ codes "="
unfolding chars
equals = refl

pub colon : chars (codes ":") ≡ codes ":"
unfolding chars
colon = refl

pub comma : chars (codes ",") ≡ codes ","
unfolding chars
comma = refl

pub semicolon : chars (codes ";") ≡ codes ";"
unfolding chars
semicolon = refl

pub open_round : chars (codes "(") ≡ codes "("
unfolding chars
open_round = refl

pub close_round : chars (codes ")") ≡ codes ")"
unfolding chars
close_round = refl

pub open_square : chars (codes "[") ≡ codes "["
unfolding chars
open_square = refl

pub close_square : chars (codes "]") ≡ codes "]"
unfolding chars
close_square = refl

pub bar : chars (codes "|") ≡ codes "|"
unfolding chars
bar = refl

pub macro_sign : chars (codes "@") ≡ codes "@"
unfolding chars
macro_sign = refl

pub exclamation : chars (codes "!") ≡ codes "!"
unfolding chars
exclamation = refl

pub slash : chars (codes "/") ≡ codes "/"
unfolding chars
slash = refl

pub greater : chars (codes ">") ≡ codes ">"
unfolding chars
greater = refl

pub ruleset symbol_rules = (rule_arrow, word_arrow, function_arrow, lex_rule_arrow, other_than, same_path, identical, neck, then_sign, not_proved, equals, colon, comma, semicolon, open_round, close_round, open_square, close_square, bar, macro_sign, exclamation, slash, greater)
