-- What the lexemes of a declaration are read as is what the function of declarations gives; and the clauses of a call that
-- gives it.
use Rattle.std.proofs.Common.{◌≡◌, ◌≢◌, ◌↔◌, Option, Some, None, Result, Ok, Err, IfOk, IfErr, List, refl, sym, subst}
use Rattle.ale_term.specs.declared.symbol.Symbol.TheVariants.{Neck}
use Rattle.ale_term.specs.declared.lexeme.Lexeme.{Lexeme}
use Rattle.ale_term.specs.Reading.{past}
use Rattle.ale_term.proofs.Fronts.{past_front}
use Rattle.ale_form.specs.declared.error.FormError.{FormError}
use Rattle.ale_form.specs.declared.error.FormError.TheVariants.{TooDeep, OutOfProfile, NotADeclaration, NoMemory}
use Rattle.ale_form.specs.Results.{Gives, checked}
use Rattle.ale_form.proofs.Checked as form
use Rattle.ale_declaration.specs.Declarations.{DeclarationData}
use Rattle.ale_declaration.specs.Forms.{in_order, IsDeclaration}
use Rattle.ale_declaration.specs.Directives.{directive_of}
use Rattle.ale_declaration.specs.Answers.{DeclarationAnswers, directive, other}
use Rattle.ale_declaration.specs.Reading.{first_of, directive_or, declaration_of}
use Rattle.ale_declaration.proofs.FirstFit.{first_fits, fits_first}

abbrev Answer : Type 0
Answer = Result DeclarationData FormError

reads : (ls : List Lexeme) (d : DeclarationData) → IsDeclaration ls d ↔ first_of in_order ls ≡ Some d
reads ls d = (first_fits in_order ls d, fits_first in_order ls d)

given : (ls : List Lexeme) (r : Answer) → DeclarationAnswers ls r → declaration_of ls ≡ r
given ls _ (directive ds e) = subst (λ ys. declaration_of ys ≡ Ok (directive_of ds)) (sym e) refl
given ls _ (other r none a) =
    let f = form.answered IsDeclaration ls (first_of in_order ls) (reads ls) r in rw none (f.0 a)

made : (ls : List Lexeme) (o : Option (List Lexeme)) → past Neck ls ≡ o → DeclarationAnswers ls (directive_or o (checked ls (first_of in_order ls)))
made ls None e =
    let r : Answer = checked ls (first_of in_order ls) in
    let f = form.answered IsDeclaration ls (first_of in_order ls) (reads ls) r in other r e (f.1 refl)
made ls (Some ds) e = directive ds (past_front Neck ls ds e)

pub answered : (ls : List Lexeme) (r : Answer) → DeclarationAnswers ls r ↔ declaration_of ls ≡ r
answered ls r = (given ls r, λ e. subst (DeclarationAnswers ls) e (made ls (past Neck ls) refl))

pub found : {A : Type 0} (view : A → DeclarationData) (result : Result A FormError) (ls : List Lexeme) → Gives view result (declaration_of ls) →
    IfOk result (λ a. DeclarationAnswers ls (Ok (view a)))
found view (Ok a) ls g = let f = answered ls (Ok (view a)) in f.1 g
found view (Err e) ls g = tt

pub gives : {A : Type 0} (view : A → DeclarationData) (result : Result A FormError) (ls : List Lexeme) → Gives view result (declaration_of ls) →
    (r : Answer) → DeclarationAnswers ls r → Gives view result r
gives view result ls g r a = subst (Gives view result) (given ls r a) g

pub cause : {A : Type 0} (view : A → DeclarationData) (result : Result A FormError) (ls : List Lexeme) → Gives view result (declaration_of ls) →
    IfErr result (λ e. e ≢ NoMemory → DeclarationAnswers ls (Err e))
cause view (Ok a) ls g = tt
cause view (Err TooDeep) ls g = λ n. let f = answered ls (Err TooDeep) in f.1 g
cause view (Err (OutOfProfile w)) ls g = λ n. let f = answered ls (Err (OutOfProfile w)) in f.1 g
cause view (Err NotADeclaration) ls g = λ n. let f = answered ls (Err NotADeclaration) in f.1 g
cause view (Err NoMemory) ls g = λ n. absurd (n refl)
