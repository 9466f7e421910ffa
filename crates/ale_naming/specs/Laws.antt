-- Declarations give names one meaning, or are refused for one fault; and what names mean fits a lawful signature.
-- Source: this project's own.
use Rattle.std.specs.Prelude.{◌≡◌, ◌↔◌, Result, Ok, List}
use Rattle.ale_declared.specs.Declarations.{Declared}
use Rattle.ale_hierarchy.specs.Hierarchy.{IsLawful}
use Rattle.ale_hierarchy.specs.Order.{hierarchy}
use Rattle.ale_declaration.specs.Declarations.{DeclarationData}
use Rattle.ale_describe.specs.Names.{NamesData}
use Rattle.ale_describe.specs.Laws.{FitsNames}
use Rattle.ale_naming.specs.Faults.{Fault}
use Rattle.ale_naming.specs.Naming.{AreNamed}
use Rattle.ale_naming.specs.Rounds.{named_of}

abbrev pub NamingLaw : Type 0
NamingLaw = (d : Declared) (ds : List DeclarationData) (r : Result NamesData Fault) → AreNamed d ds r ↔ named_of d ds ≡ r

abbrev pub NamesFit : Type 0
NamesFit = (d : Declared) (ds : List DeclarationData) (names : NamesData) → IsLawful (hierarchy d) → AreNamed d ds (Ok names) → FitsNames d names
