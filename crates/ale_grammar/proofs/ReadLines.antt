-- Each line of a declaration that is read is bound.
use Rattle.std.proofs.Common.{ℕ, Option, Some, None, Result, Ok, Err, List}
use Rattle.std.specs.Prelude.{codes}
use Rattle.ale_term.specs.declared.symbol.Symbol.TheVariants.{Comma}
use Rattle.ale_term.specs.declared.lexeme.Lexeme.{Lexeme}
use Rattle.ale_term.specs.Grammar.{Separated, last, before}
use Rattle.ale_form.specs.declared.error.FormError.{FormError}
use Rattle.ale_form.specs.Results.{Answers, too_deep, left_word, of_no_form, of_the_form}
use Rattle.ale_declaration.specs.declared.form.Form.{Form}
use Rattle.ale_declaration.specs.declared.declaration.MorphLine.{MorphLine}
use Rattle.ale_declaration.specs.Declarations.{DeclarationData}
use Rattle.ale_declaration.specs.Forms as form
use Rattle.ale_declaration.specs.Forms.{IsBound, IsLine, line, Fits, IsFirstFit, here, later, IsDeclaration}
use Rattle.ale_declaration.specs.Directives.{numbered, chain_or_other, depth_or_other}
use Rattle.ale_declaration.specs.Answers as answer
use Rattle.ale_declaration.specs.Answers.{DeclarationAnswers}
use Rattle.ale_grammar.specs.Assembling.{AreBoundLines, HasBoundLines}
use Rattle.ale_grammar.specs.Laws.{BoundLaw}

one_bound : (xs : List Lexeme) (l : MorphLine) → IsLine xs l → IsBound l.left l.right
one_bound _ _ (line xs ys ps qs left right bound) = bound

all_bound : (xs : List Lexeme) (ls : List MorphLine) → Separated Comma IsLine xs ls → AreBoundLines ls
all_bound _ _ (last xs l is) = (one_bound xs l is, tt)
all_bound _ _ (before xs ys l others is more) = (one_bound xs l is, all_bound ys others more)

fitting : (f : Form) (ls : List Lexeme) (x : DeclarationData) → Fits f ls x → HasBoundLines x
fitting _ _ _ (form.subtypes l t xs ts a b) = tt
fitting _ _ _ (form.subtypes_and_features l t xs ys ts fs a b c) = tt
fitting _ _ _ (form.features l t ys fs a b) = tt
fitting _ _ _ (form.extensional_types xs ts a) = tt
fitting _ _ _ (form.described l t xs d a b) = tt
fitting _ _ _ (form.described_with_goal l t xs ys d g a b c) = tt
fitting _ _ _ (form.a_macro xs ys m ps d a b) = tt
fitting _ _ _ (form.a_clause xs ys p ts g a b) = tt
fitting _ _ _ (form.a_word l w xs d a b) = tt
fitting _ _ _ (form.an_empty xs d a) = tt
fitting _ _ _ (form.a_lexical_rule l n xs ys zs d e ls a b c lines) = all_bound zs ls lines
fitting _ _ _ (form.a_lexical_rule_with_goal l n xs ys gs zs d e g ls a b c h lines) = all_bound zs ls lines
fitting _ _ _ (form.a_rule l n xs ys d es a b c) = tt
fitting _ _ _ (form.a_semantics l p a) = tt

first_fitting : (fs : List Form) (ls : List Lexeme) (x : DeclarationData) → IsFirstFit fs ls x → HasBoundLines x
first_fitting _ _ _ (here f fs ls x fits) = fitting f ls x fits
first_fitting _ _ _ (later f fs ls x clear is) = first_fitting fs ls x is

chain_bound : (o : Option ℕ) (ls : List Lexeme) → HasBoundLines (chain_or_other o ls)
chain_bound None ls = tt
chain_bound (Some n) ls = tt

depth_bound : (o : Option ℕ) (ls : List Lexeme) → HasBoundLines (depth_or_other o ls)
depth_bound None ls = chain_bound (numbered (codes "chain_length") ls) ls
depth_bound (Some n) ls = tt

-- what is answered has bound lines
abbrev BoundAnswer : Result DeclarationData FormError → Type 0
BoundAnswer (Ok x) = HasBoundLines x
BoundAnswer (Err e) = Unit {0}

formed_bound : (ls : List Lexeme) (r : Result DeclarationData FormError) → Answers IsDeclaration ls r → BoundAnswer r
formed_bound ls _ (too_deep deep) = tt
formed_bound ls _ (left_word w deep left) = tt
formed_bound ls _ (of_no_form deep left no_form) = tt
formed_bound ls _ (of_the_form x deep left is) = first_fitting form.in_order ls x is

answered_bound : (ls : List Lexeme) (r : Result DeclarationData FormError) → DeclarationAnswers ls r → BoundAnswer r
answered_bound ls _ (answer.directive ds e) = depth_bound (numbered (codes "lex_rule_depth") ds) ds
answered_bound ls _ (answer.other r e is) = formed_bound ls r is

pub bound_law : BoundLaw
bound_law ls x is = answered_bound ls (Ok x) is
