-- The words that are left out are ASCII; and two tests that hold together.
use Rattle.std.proofs.Common.{◌≡◌, Bool, true, false, refl, sym}
use Rattle.std.specs.Prelude.{codes}
use Rattle.std.specs.Str.{chars}

pub same_test : (a b : Bool) → (a ≡ true → b ≡ true) → (b ≡ true → a ≡ true) → a ≡ b
same_test true b p q = sym (p refl)
same_test false true p q = q refl
same_test false false p q = refl

pub prolog : chars (codes "prolog") ≡ codes "prolog"
unfolding chars
prolog = refl

pub bagof : chars (codes "bagof") ≡ codes "bagof"
unfolding chars
bagof = refl

pub when : chars (codes "when") ≡ codes "when"
unfolding chars
when = refl

pub morphs : chars (codes "morphs") ≡ codes "morphs"
unfolding chars
morphs = refl

pub append_word : chars (codes "a_") ≡ codes "a_"
unfolding chars
append_word = refl

pub head_goal : chars (codes "sem_goal") ≡ codes "sem_goal"
unfolding chars
head_goal = refl

pub identical : chars (codes "=@") ≡ codes "=@"
unfolding chars
identical = refl

pub function_arrow : chars (codes "+++>") ≡ codes "+++>"
unfolding chars
function_arrow = refl

pub ruleset word_rules = (prolog, bagof, when, morphs, append_word, head_goal, identical, function_arrow)
