-- What a call that carries out the functions has answered, in the words of the relations.
use Rattle.std.proofs.Common.{◌≢◌, ℕ, List, Result, Ok, Err, IfOk, refl, subst}
use Rattle.std.specs.Prelude.{MatchResult}
use Rattle.ale_hierarchy.specs.Order.{hierarchy}
use Rattle.ale_load.specs.declared.grammar_error.GrammarError.{GrammarError}
use Rattle.ale_load.specs.declared.grammar_error.GrammarError.TheVariants as grammar
use Rattle.ale_load.specs.declared.command_error.CommandError.{CommandError}
use Rattle.ale_load.specs.declared.command_error.CommandError.TheVariants as command
use Rattle.ale_load.specs.Grammars.{LoadedData, FitsLoaded, IsLoaded, load_of}
use Rattle.ale_load.specs.Commands.{QueryData, AllFit, AreCommands, commands_of}
use Rattle.ale_load.specs.Laws.{LoadLaw, LoadedLaw, CommandsLaw, FitLaw}
use Rattle.ale_load.specs.Results.{LoadGives, CommandsGive}

module _ {V : Type 0} (view : V → LoadedData) (law : LoadLaw) (g : List ℕ) where
  pub loads_as : (r : Result V GrammarError) → LoadGives view r (load_of g) → (answer : Result LoadedData GrammarError) → IsLoaded g answer → LoadGives view r answer
  loads_as r gives answer is = subst (LoadGives view r) ((law g answer).0 is) gives

  pub loads_found : (r : Result V GrammarError) → LoadGives view r (load_of g) → MatchResult r (λ l. IsLoaded g (Ok (view l))) (λ e. e ≢ grammar.NoMemory → IsLoaded g (Err e))
  loads_found (Ok l) e = (law g (Ok (view l))).1 e
  loads_found (Err grammar.NoMemory) gives = λ n. absurd (n refl)
  loads_found (Err grammar.TooLong) gives = λ n. (law g (Err grammar.TooLong)).1 gives
  loads_found (Err (grammar.NotText p)) gives = λ n. (law g (Err (grammar.NotText p))).1 gives
  loads_found (Err (grammar.Token e)) gives = λ n. (law g (Err (grammar.Token e))).1 gives
  loads_found (Err (grammar.Form k e)) gives = λ n. (law g (Err (grammar.Form k e))).1 gives
  loads_found (Err (grammar.NotBuilt k)) gives = λ n. (law g (Err (grammar.NotBuilt k))).1 gives
  loads_found (Err (grammar.Signature e)) gives = λ n. (law g (Err (grammar.Signature e))).1 gives
  loads_found (Err (grammar.Names k e)) gives = λ n. (law g (Err (grammar.Names k e))).1 gives

  pub loads_fitting : LoadedLaw → (r : Result V GrammarError) → LoadGives view r (load_of g) → IfOk r (λ l. FitsLoaded (view l))
  loads_fitting fit (Ok l) e = fit g (view l) ((law g (Ok (view l))).1 e)
  loads_fitting fit (Err e) gives = tt

module _ {V : Type 0} (view : V → List QueryData) (law : CommandsLaw) (l : LoadedData) (c : List ℕ) where
  pub reads_as : (r : Result V CommandError) → CommandsGive view r (commands_of l c) → (answer : Result (List QueryData) CommandError) → AreCommands l c answer → CommandsGive view r answer
  reads_as r gives answer are = subst (CommandsGive view r) ((law l c answer).0 are) gives

  pub reads_found : (r : Result V CommandError) → CommandsGive view r (commands_of l c) → MatchResult r (λ v. AreCommands l c (Ok (view v))) (λ e. e ≢ command.NoMemory → AreCommands l c (Err e))
  reads_found (Ok v) e = (law l c (Ok (view v))).1 e
  reads_found (Err command.NoMemory) gives = λ n. absurd (n refl)
  reads_found (Err command.TooLong) gives = λ n. (law l c (Err command.TooLong)).1 gives
  reads_found (Err (command.NotText p)) gives = λ n. (law l c (Err (command.NotText p))).1 gives
  reads_found (Err (command.BadToken p)) gives = λ n. (law l c (Err (command.BadToken p))).1 gives
  reads_found (Err (command.NoEnd p)) gives = λ n. (law l c (Err (command.NoEnd p))).1 gives
  reads_found (Err (command.BadCommand k)) gives = λ n. (law l c (Err (command.BadCommand k))).1 gives
  reads_found (Err (command.NotBuilt k)) gives = λ n. (law l c (Err (command.NotBuilt k))).1 gives
  reads_found (Err (command.Name k e)) gives = λ n. (law l c (Err (command.Name k e))).1 gives

  pub reads_fit : FitLaw → FitsLoaded l → (r : Result V CommandError) → CommandsGive view r (commands_of l c) → IfOk r (λ v. AllFit (hierarchy l.signature_of) (view v))
  reads_fit fit fits (Ok v) e = fit l c (view v) fits ((law l c (Ok (view v))).1 e)
  reads_fit fit fits (Err e) gives = tt
