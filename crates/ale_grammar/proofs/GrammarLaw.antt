-- What holds of all programs that declarations are resolved to.
use Rattle.std.proofs.Common.{Result, Ok, Err, List}
use Rattle.ale_declared.specs.Declarations.{Declared}
use Rattle.ale_hierarchy.specs.Hierarchy.{IsLawful}
use Rattle.ale_hierarchy.specs.Order.{hierarchy}
use Rattle.ale_declaration.specs.Declarations.{DeclarationData}
use Rattle.ale_logic.specs.Fitting.{FitsProgram, IsPlainProgram}
use Rattle.ale_describe.specs.Laws.{FitsNames}
use Rattle.ale_describe.specs.Macros.{names_of}
use Rattle.ale_naming.specs.Faults.{Fault, AreRight}
use Rattle.ale_naming.specs.Naming.{named}
use Rattle.ale_naming.specs.Laws.{NamesFit}
use Rattle.ale_grammar.specs.PlainGoals.{HavePlainGoals}
use Rattle.ale_grammar.specs.Resolving.{ResolvedData, IsResolved, refused, resolved}
use Rattle.ale_grammar.specs.Laws.{ProgramsFit, ResolvedNamesFit, ProgramsArePlain}
use Rattle.ale_grammar.proofs.Gathered.{right_program_fits}
use Rattle.ale_grammar.proofs.Fragment.{plain_program}

abbrev Fits : Declared → Result ResolvedData Fault → Type 0
Fits d (Ok made) = FitsProgram (hierarchy d) made.program
Fits d (Err f) = Unit {0}

abbrev NamesFitIn : Declared → Result ResolvedData Fault → Type 0
NamesFitIn d (Ok made) = FitsNames d made.names
NamesFitIn d (Err f) = Unit {0}

abbrev IsPlainIn : Result ResolvedData Fault → Type 0
IsPlainIn (Ok made) = IsPlainProgram made.program
IsPlainIn (Err f) = Unit {0}

right_names_fit : NamesFit → (d : Declared) (ds : List DeclarationData) → IsLawful (hierarchy d) → AreRight d ds → FitsNames d (names_of d ds)
right_names_fit law d ds lawful right = law d ds (names_of d ds) lawful (named right)

names_fit_in : NamesFit → (d : Declared) (ds : List DeclarationData) (r : Result ResolvedData Fault) → IsLawful (hierarchy d) → IsResolved d ds r → NamesFitIn d r
names_fit_in law d ds _ lawful (refused f is) = tt
names_fit_in law d ds _ lawful (resolved right) = right_names_fit law d ds lawful right

fits_in : NamesFit → (d : Declared) (ds : List DeclarationData) (r : Result ResolvedData Fault) → IsLawful (hierarchy d) → IsResolved d ds r → Fits d r
fits_in law d ds _ lawful (refused f is) = tt
fits_in law d ds _ lawful (resolved right) = right_program_fits d ds (right_names_fit law d ds lawful right) right lawful

plain_in : (d : Declared) (ds : List DeclarationData) (r : Result ResolvedData Fault) → IsResolved d ds r → HavePlainGoals ds → IsPlainIn r
plain_in d ds _ (refused f is) h = tt
plain_in d ds _ (resolved right) h = plain_program d (names_of d ds) ds h

pub programs_fit : NamesFit → ProgramsFit
programs_fit law d ds made lawful is = fits_in law d ds (Ok made) lawful is

pub names_fit : NamesFit → ResolvedNamesFit
names_fit law d ds made lawful is = names_fit_in law d ds (Ok made) lawful is

pub programs_are_plain : ProgramsArePlain
programs_are_plain d ds made is h = plain_in d ds (Ok made) is h
