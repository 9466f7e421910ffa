-- What the values of the program stand for.
use Rattle.std.specs.Prelude.{◌≡◌, ℕ, Result, Ok, Err, List, map, slice_range}
use Rattle.ale_term.specs.declared.lexeme.Lexeme.{Lexeme}
use Rattle.ale_term.specs.Lexemes.{lexemes}
use Rattle.ale_logic.specs.Descriptions.{description}
use Rattle.ale_vocabulary.specs.declared.error.NameError.{NameError}
use Rattle.ale_load.specs.declared.file.Parts.{Parts}
use Rattle.ale_load.specs.declared.grammar.Loaded.{Loaded}
use Rattle.ale_load.specs.declared.grammar.Passed.{Passed}
use Rattle.ale_load.specs.declared.query.Query.{Query}
use Rattle.ale_load.specs.declared.query.Asked.{Asked}
use Rattle.ale_load.specs.declared.query.Asked.TheVariants as asked
use Rattle.ale_load.specs.Files.{parts}
use Rattle.ale_load.specs.Grammars.{PassedOver, LoadedData}
use Rattle.ale_load.specs.Commands.{QueryData}

abbrev pub parts_in : Parts → List (List Lexeme)
parts_in p = parts p.text.now p.tokens.items p.ranges.items

-- the part that has this range of tokens
abbrev pub part_in : Parts → ℕ × ℕ → List Lexeme
part_in p r = lexemes p.text.now (slice_range p.tokens.items r.0 r.1)

abbrev pub passed_data : Passed → PassedOver
passed_data p = (p.declaration, p.name)

abbrev pub loaded_data : Loaded → LoadedData
loaded_data l = record { signature_of = l.signature; names = l.names; passed = map passed_data l.passed }

abbrev pub query_data : Query → QueryData
query_data q = (description q.desc, q.names)

abbrev pub asked_data : Asked → Result QueryData NameError
asked_data (asked.Query q n) = Ok (query_data q)
asked_data (asked.Refused e) = Err e

-- where there is a query, so many parts there are with it
abbrev pub HasParts : Asked → ℕ → Type 0
HasParts (asked.Query q n) parts = n ≡ parts
HasParts (asked.Refused e) parts = Unit {0}
