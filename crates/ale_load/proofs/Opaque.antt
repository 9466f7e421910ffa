-- The words for what a part is read as, which other proofs do not see through.
use Rattle.std.proofs.Common.{List, Result}
use Rattle.ale_term.specs.declared.lexeme.Lexeme.{Lexeme}
use Rattle.ale_form.specs.declared.error.FormError.{FormError}
use Rattle.ale_form.specs.Results.{Gives}
use Rattle.ale_declaration.specs.Declarations.{DeclarationData}
use Rattle.ale_declaration.specs.Reading.{declaration_of}
use Rattle.ale_command.specs.Commands.{CommandData}
use Rattle.ale_command.specs.Reading.{command_of}
use Rattle.ale_load.specs.Grammars.{declaration_in}
use Rattle.ale_load.specs.Commands.{command_in}

pub declaration_gives : {V : Type 0} (view : V → DeclarationData) (r : Result V FormError) (ls : List Lexeme) → Gives view r (declaration_of ls) → Gives view r (declaration_in ls)
unfolding declaration_in
declaration_gives view r ls gives = gives

pub command_gives : {V : Type 0} (view : V → CommandData) (r : Result V FormError) (ls : List Lexeme) → Gives view r (command_of ls) → Gives view r (command_in ls)
unfolding command_in
command_gives view r ls gives = gives
