-- What a call that carries out the function has answered, in the words of the forms.
use Rattle.std.proofs.Common.{◌≡◌, ◌≢◌, List, Result, Ok, Err, refl}
use Rattle.std.specs.Prelude.{MatchResult}
use Rattle.ale_term.specs.declared.lexeme.Lexeme.{Lexeme}
use Rattle.ale_form.specs.declared.error.FormError.{FormError}
use Rattle.ale_form.specs.declared.error.FormError.TheVariants.{TooDeep, OutOfProfile, NotADeclaration, NoMemory}
use Rattle.ale_form.specs.Results.{Gives, Answers}
use Rattle.ale_form.proofs.Checked.{answered}
use Rattle.ale_command.specs.Commands.{CommandData, IsCommand}
use Rattle.ale_command.specs.Reading.{command_at, command_of}
use Rattle.ale_command.proofs.Commands.{command_reads}

given : (ls : List Lexeme) (r : Result CommandData FormError) → command_of ls ≡ r → Answers IsCommand ls r
given ls r = (answered IsCommand ls (command_at ls) (command_reads ls) r).1

pub found : {V : Type 0} (ls : List Lexeme) (view : V → CommandData) (result : Result V FormError) → Gives view result (command_of ls) →
    MatchResult result (λ c. Answers IsCommand ls (Ok (view c))) (λ e. e ≢ NoMemory → Answers IsCommand ls (Err e))
found ls view (Ok c) g = given ls (Ok (view c)) g
found ls view (Err TooDeep) g = λ h. given ls (Err TooDeep) g
found ls view (Err (OutOfProfile w)) g = λ h. given ls (Err (OutOfProfile w)) g
found ls view (Err NotADeclaration) g = λ h. given ls (Err NotADeclaration) g
found ls view (Err NoMemory) g = λ h. absurd (h refl)
