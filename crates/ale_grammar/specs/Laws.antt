-- Declarations are resolved to one program or refused for one fault; the program and what its names mean fit a lawful signature;
-- no cut, negation or if-then stands in it where none is written; and what is read has bound lines. Source: this project's own.
use Rattle.std.specs.Prelude.{◌≡◌, ◌↔◌, Result, Ok, Err, List, map}
use Rattle.ale_declared.specs.Declarations.{Declared}
use Rattle.ale_hierarchy.specs.Hierarchy.{IsLawful}
use Rattle.ale_hierarchy.specs.Order.{hierarchy}
use Rattle.ale_declaration.specs.Declarations.{DeclarationData}
use Rattle.ale_declaration.specs.Answers.{DeclarationAnswers}
use Rattle.ale_term.specs.declared.lexeme.Lexeme.{Lexeme}
use Rattle.ale_logic.specs.Fitting.{FitsProgram, IsPlainProgram}
use Rattle.ale_describe.specs.Laws.{FitsNames}
use Rattle.ale_describe.specs.Names.{NamesData}
use Rattle.ale_naming.specs.Faults.{Fault}
use Rattle.ale_naming.specs.Rounds.{named_of}
use Rattle.ale_grammar.specs.Programs.{part_of, program_with}
use Rattle.ale_grammar.specs.Assembling.{HasBoundLines}
use Rattle.ale_grammar.specs.PlainGoals.{HavePlainGoals}
use Rattle.ale_grammar.specs.Resolving.{ResolvedData, IsResolved}

-- the program by what names mean, where they mean something
abbrev pub with_program : Declared → List DeclarationData → Result NamesData Fault → Result ResolvedData Fault
with_program d ds (Err f) = Err f
with_program d ds (Ok names) = Ok (record { program = program_with d names (map (part_of d names) ds); names = names })

abbrev pub resolved_by : Declared → List DeclarationData → Result ResolvedData Fault
resolved_by d ds = with_program d ds (named_of d ds)

abbrev pub ResolveLaw : Type 0
ResolveLaw = (d : Declared) (ds : List DeclarationData) (r : Result ResolvedData Fault) → IsResolved d ds r ↔ resolved_by d ds ≡ r

abbrev pub ProgramsFit : Type 0
ProgramsFit =
    (d : Declared) (ds : List DeclarationData) (made : ResolvedData) → IsLawful (hierarchy d) → IsResolved d ds (Ok made) →
    FitsProgram (hierarchy d) made.program

abbrev pub ResolvedNamesFit : Type 0
ResolvedNamesFit =
    (d : Declared) (ds : List DeclarationData) (made : ResolvedData) → IsLawful (hierarchy d) → IsResolved d ds (Ok made) →
    FitsNames d made.names

abbrev pub ProgramsArePlain : Type 0
ProgramsArePlain =
    (d : Declared) (ds : List DeclarationData) (made : ResolvedData) → IsResolved d ds (Ok made) → HavePlainGoals ds →
    IsPlainProgram made.program

-- each line of a declaration that is read is bound
abbrev pub BoundLaw : Type 0
BoundLaw = (ls : List Lexeme) (x : DeclarationData) → DeclarationAnswers ls (Ok x) → HasBoundLines x
