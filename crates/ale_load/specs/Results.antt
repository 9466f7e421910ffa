-- What the calls that read files answer: exactly what is defined, unless memory ran out.
use Rattle.std.specs.Prelude.{◌≡◌, Result, Ok, Err}
use Rattle.ale_load.specs.declared.file_error.FileError.{FileError}
use Rattle.ale_load.specs.declared.file_error.FileError.TheVariants as file
use Rattle.ale_load.specs.declared.grammar_error.GrammarError.{GrammarError}
use Rattle.ale_load.specs.declared.grammar_error.GrammarError.TheVariants as grammar
use Rattle.ale_load.specs.declared.command_error.CommandError.{CommandError}
use Rattle.ale_load.specs.declared.command_error.CommandError.TheVariants as command

abbrev pub FileFails : {A : Type 0} → FileError → Result A FileError → Type 0
FileFails file.NoMemory read = Unit {0}
FileFails file.TooLong read = read ≡ Err file.TooLong
FileFails (file.NotText p) read = read ≡ Err (file.NotText p)
FileFails (file.Unread e) read = read ≡ Err (file.Unread e)

abbrev pub CutGives : {A B : Type 0} → (A → B) → Result A FileError → Result B FileError → Type 0
CutGives view (Ok x) read = read ≡ Ok (view x)
CutGives view (Err e) read = FileFails e read

abbrev pub GrammarFails : {A : Type 0} → GrammarError → Result A GrammarError → Type 0
GrammarFails grammar.NoMemory read = Unit {0}
GrammarFails grammar.TooLong read = read ≡ Err grammar.TooLong
GrammarFails (grammar.NotText p) read = read ≡ Err (grammar.NotText p)
GrammarFails (grammar.Token e) read = read ≡ Err (grammar.Token e)
GrammarFails (grammar.Form k e) read = read ≡ Err (grammar.Form k e)
GrammarFails (grammar.NotBuilt k) read = read ≡ Err (grammar.NotBuilt k)
GrammarFails (grammar.Signature e) read = read ≡ Err (grammar.Signature e)
GrammarFails (grammar.Names k e) read = read ≡ Err (grammar.Names k e)

abbrev pub LoadGives : {A B : Type 0} → (A → B) → Result A GrammarError → Result B GrammarError → Type 0
LoadGives view (Ok x) read = read ≡ Ok (view x)
LoadGives view (Err e) read = GrammarFails e read

abbrev pub CommandFails : {A : Type 0} → CommandError → Result A CommandError → Type 0
CommandFails command.NoMemory read = Unit {0}
CommandFails command.TooLong read = read ≡ Err command.TooLong
CommandFails (command.NotText p) read = read ≡ Err (command.NotText p)
CommandFails (command.BadToken p) read = read ≡ Err (command.BadToken p)
CommandFails (command.NoEnd p) read = read ≡ Err (command.NoEnd p)
CommandFails (command.BadCommand k) read = read ≡ Err (command.BadCommand k)
CommandFails (command.NotBuilt k) read = read ≡ Err (command.NotBuilt k)
CommandFails (command.Name k e) read = read ≡ Err (command.Name k e)

abbrev pub CommandsGive : {A B : Type 0} → (A → B) → Result A CommandError → Result B CommandError → Type 0
CommandsGive view (Ok x) read = read ≡ Ok (view x)
CommandsGive view (Err e) read = CommandFails e read
