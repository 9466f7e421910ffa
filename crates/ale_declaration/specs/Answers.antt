-- What the lexemes of a declaration are read as.
use Rattle.std.specs.Prelude.{◌≡◌, None, Result, Ok, List, ◌∷◌}
use Rattle.ale_term.specs.declared.symbol.Symbol.TheVariants.{Neck}
use Rattle.ale_term.specs.declared.lexeme.Lexeme.{Lexeme}
use Rattle.ale_term.specs.declared.lexeme.Lexeme.TheVariants.{Sign}
use Rattle.ale_term.specs.Reading.{past}
use Rattle.ale_form.specs.declared.error.FormError.{FormError}
use Rattle.ale_form.specs.Results.{Answers}
use Rattle.ale_declaration.specs.Declarations.{DeclarationData}
use Rattle.ale_declaration.specs.Forms.{IsDeclaration}
use Rattle.ale_declaration.specs.Directives.{directive_of}

-- A directive is never refused, whatever stands in it. Anything else is a declaration of the first form that fits it, or is refused.
pub data DeclarationAnswers (ls : List Lexeme) : Result DeclarationData FormError → Type 0 where
  directive : (ds : List Lexeme) → ls ≡ Sign Neck ∷ ds → DeclarationAnswers ls (Ok (directive_of ds))
  other : (read : Result DeclarationData FormError) → past Neck ls ≡ None → Answers IsDeclaration ls read → DeclarationAnswers ls read
