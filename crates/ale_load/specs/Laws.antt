-- Files are read in one way or refused for one cause, which the functions give; what is read is lawful, has a name of its own
-- for each type, and fits.
use Rattle.std.specs.Prelude.{◌≡◌, ◌↔◌, ℕ, Result, Ok, List}
use Rattle.ale_declared.specs.Numbering.{AreDistinct}
use Rattle.ale_hierarchy.specs.Hierarchy.{IsLawful}
use Rattle.ale_hierarchy.specs.Order.{hierarchy}
use Rattle.ale_load.specs.declared.grammar_error.GrammarError.{GrammarError}
use Rattle.ale_load.specs.declared.command_error.CommandError.{CommandError}
use Rattle.ale_load.specs.Grammars.{LoadedData, FitsLoaded, IsLoaded, load_of}
use Rattle.ale_load.specs.Commands.{QueryData, AllFit, AreCommands, commands_of}

abbrev pub LoadLaw : Type 0
LoadLaw = (g : List ℕ) (r : Result LoadedData GrammarError) → IsLoaded g r ↔ load_of g ≡ r

-- an accepted signature obeys the laws of a hierarchy
abbrev pub LawfulLaw : Type 0
LawfulLaw = (g : List ℕ) (l : LoadedData) → IsLoaded g (Ok l) → IsLawful (hierarchy l.signature_of)

-- no two of its types have one name
abbrev pub DistinctLaw : Type 0
DistinctLaw = (g : List ℕ) (l : LoadedData) → IsLoaded g (Ok l) → AreDistinct l.signature_of.types

abbrev pub CommandsLaw : Type 0
CommandsLaw = (l : LoadedData) (c : List ℕ) (r : Result (List QueryData) CommandError) → AreCommands l c r ↔ commands_of l c ≡ r

-- what commands ask for speaks of types, features and variables that are there
abbrev pub FitLaw : Type 0
FitLaw = (l : LoadedData) (c : List ℕ) (qs : List QueryData) → FitsLoaded l → AreCommands l c (Ok qs) → AllFit (hierarchy l.signature_of) qs

-- what is loaded fits
abbrev pub LoadedLaw : Type 0
LoadedLaw = (g : List ℕ) (l : LoadedData) → IsLoaded g (Ok l) → FitsLoaded l
