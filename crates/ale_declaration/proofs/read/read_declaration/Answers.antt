use Rattle.std.specs.Prelude.{Ok, Err}
use Rattle.ale_term.specs.Lexemes.{lexemes}
use Rattle.ale_declaration.specs.Declarations.{declaration_data}
use Rattle.ale_declaration.proofs.Answered.{found, gives, cause}
use Rattle.ale_declaration.proofs.read.read_declaration.Goals as goal

pub returns-clause-found : goal.returns-clause-found
returns-clause-found c = found declaration_data c.read_tokens.result (lexemes c.args.text.now c.args.tokens.now) c.read_tokens.ensures

pub returns-clause-only : goal.returns-clause-only
returns-clause-only c d a = gives declaration_data c.read_tokens.result (lexemes c.args.text.now c.args.tokens.now) c.read_tokens.ensures (Ok d) a

pub returns-clause-cause : goal.returns-clause-cause
returns-clause-cause c = cause declaration_data c.read_tokens.result (lexemes c.args.text.now c.args.tokens.now) c.read_tokens.ensures

pub returns-clause-refused : goal.returns-clause-refused
returns-clause-refused c e a = gives declaration_data c.read_tokens.result (lexemes c.args.text.now c.args.tokens.now) c.read_tokens.ensures (Err e) a
