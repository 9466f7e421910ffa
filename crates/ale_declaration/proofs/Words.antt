-- The words of the language, which are ASCII.
use Rattle.std.proofs.Common.{◌≡◌, refl}
use Rattle.std.specs.Prelude.{codes}
use Rattle.std.specs.Str.{chars}

pub sub_word : chars (codes "sub") ≡ codes "sub"
unfolding chars
sub_word = refl

pub intro_word : chars (codes "intro") ≡ codes "intro"
unfolding chars
intro_word = refl

pub ext_word : chars (codes "ext") ≡ codes "ext"
unfolding chars
ext_word = refl

pub cons_word : chars (codes "cons") ≡ codes "cons"
unfolding chars
cons_word = refl

pub goal_word : chars (codes "goal") ≡ codes "goal"
unfolding chars
goal_word = refl

pub macro_word : chars (codes "macro") ≡ codes "macro"
unfolding chars
macro_word = refl

pub if_word : chars (codes "if") ≡ codes "if"
unfolding chars
if_word = refl

pub empty_word : chars (codes "empty") ≡ codes "empty"
unfolding chars
empty_word = refl

pub semantics_word : chars (codes "semantics") ≡ codes "semantics"
unfolding chars
semantics_word = refl

pub becomes_word : chars (codes "becomes") ≡ codes "becomes"
unfolding chars
becomes_word = refl

pub morphs_word : chars (codes "morphs") ≡ codes "morphs"
unfolding chars
morphs_word = refl

pub lex_rule_word : chars (codes "lex_rule") ≡ codes "lex_rule"
unfolding chars
lex_rule_word = refl

pub rule_word : chars (codes "rule") ≡ codes "rule"
unfolding chars
rule_word = refl

pub cat_word : chars (codes "cat") ≡ codes "cat"
unfolding chars
cat_word = refl

pub cats_word : chars (codes "cats") ≡ codes "cats"
unfolding chars
cats_word = refl

pub sem_head_word : chars (codes "sem_head") ≡ codes "sem_head"
unfolding chars
sem_head_word = refl

pub lex_rule_depth_word : chars (codes "lex_rule_depth") ≡ codes "lex_rule_depth"
unfolding chars
lex_rule_depth_word = refl

pub chain_length_word : chars (codes "chain_length") ≡ codes "chain_length"
unfolding chars
chain_length_word = refl

pub nameless : chars (codes "_") ≡ codes "_"
unfolding chars
nameless = refl

pub dash : chars (codes "-") ≡ codes "-"
unfolding chars
dash = refl

pub ruleset word_rules = (sub_word, intro_word, ext_word, cons_word, goal_word, macro_word, if_word, empty_word, semantics_word, becomes_word, morphs_word, lex_rule_word, rule_word, cat_word, cats_word, sem_head_word, lex_rule_depth_word, chain_length_word, nameless, dash)
