use Rattle.std.proofs.Common.{subst}
use Rattle.std.specs.Prelude.{slice_range}
use Rattle.ale_term.specs.Lexemes.{lexemes}
use Rattle.ale_form.specs.Results.{Gives}
use Rattle.ale_declaration.specs.Declarations.{declaration_data}
use Rattle.ale_load.specs.Grammars.{declaration_in}
use Rattle.ale_load.proofs.Opaque.{declaration_gives}
use Rattle.ale_load.proofs.grammar.declaration.Goals as goal

pub returns : goal.returns
returns c =
    let text = c.args.parts.now.text.now in
    let r = c.args.range in
    subst (λ ts. Gives declaration_data c.read_declaration.result (declaration_in (lexemes text (slice_range ts r.0 r.1)))) c.as_slice.ensures.value
    (declaration_gives declaration_data c.read_declaration.result (lexemes text (slice_range c.as_slice.result.now r.0 r.1)) c.read_declaration.ensures.exact)
