-- Commands are what the relation says, which the function gives; and what they ask for speaks of what is known.
use Rattle.std.proofs.Common.{◌≡◌, ◌↔◌, ℕ, List, Option, Some, None, Result, Ok, Err, refl, ap, ◌∙◌, subst}
use Rattle.ale_term.specs.declared.lexeme.Lexeme.{Lexeme}
use Rattle.ale_form.specs.Results.{Answers}
use Rattle.ale_hierarchy.specs.Order.{hierarchy}
use Rattle.ale_stage.specs.Stages.{command_is_built}
use Rattle.ale_vocabulary.specs.Laws.{FirstIsFound}
use Rattle.ale_describe.specs.Laws.{DescribeLaw, LimitsLaw}
use Rattle.ale_describe.specs.PlainLaws.{PlainLaw}
use Rattle.ale_command.specs.Commands.{CommandData, IsCommand}
use Rattle.ale_command.specs.Reading.{command_of}
use Rattle.ale_load.specs.declared.file_error.FileError.{FileError}
use Rattle.ale_load.specs.declared.command_error.CommandError.{CommandError}
use Rattle.ale_load.specs.Files.{IsCut, cut_of}
use Rattle.ale_load.specs.Reading.{Refusal, AreRead, each_read, first_without}
use Rattle.ale_load.specs.Grammars.{LoadedData, FitsLoaded}
use Rattle.ale_load.specs.Commands.{command_in, QueryData, Refused, AllFit, AreAsked, queries_after, AreCommands, not_cut, not_read, not_built, not_named, are_taken, after_names, after_built, formed, after_forms, after_cut, commands_of}
use Rattle.ale_load.proofs.Asked.{asked_given, asked_made, asked_fit}
use Rattle.ale_load.proofs.Cutting.{cut_given, cut_made}
use Rattle.ale_load.proofs.Parts.{Carries, read_given, read_made}

pub read_in : Carries (Answers IsCommand) command_of → Carries (Answers IsCommand) command_in
unfolding command_in
read_in carries = carries

module _ (carries : Carries (Answers IsCommand) command_in) (firsts : FirstIsFound) (limits : LimitsLaw) (l : LoadedData) (c : List ℕ) where
  cut_is : (r : Result (List (List Lexeme)) FileError) → IsCut c r → commands_of l c ≡ after_cut l r
  cut_is r is = ap (after_cut l) (cut_given c r is)

  read_is : (ps : List (List Lexeme)) (r : Result (List CommandData) Refusal) → IsCut c (Ok ps) → AreRead (Answers IsCommand) 1 ps r →
      commands_of l c ≡ after_forms l (formed r)
  read_is ps r is read = cut_is (Ok ps) is ∙ ap (λ z. after_forms l (formed z)) (read_given (Answers IsCommand) command_in carries read)

  -- what the relation says is what the function gives
  pub commands_given : (r : Result (List QueryData) CommandError) → AreCommands l c r → commands_of l c ≡ r
  commands_given r (not_cut e is) = cut_is (Err e) is
  commands_given r (not_read ps x is read) = read_is ps (Err x) is read
  commands_given r (not_built ps cs k is read e) = read_is ps (Ok cs) is read ∙ ap (after_built l cs) e
  commands_given r (not_named ps cs u is read e f) =
      read_is ps (Ok cs) is read ∙ ap (after_built l cs) e ∙ ap after_names (asked_given firsts limits l 1 0 cs (Err u) f)
  commands_given r (are_taken ps cs qs is read e f) =
      read_is ps (Ok cs) is read ∙ ap (after_built l cs) e ∙ ap after_names (asked_given firsts limits l 1 0 cs (Ok qs) f)

  made_names : (ps : List (List Lexeme)) (cs : List CommandData) → IsCut c (Ok ps) → AreRead (Answers IsCommand) 1 ps (Ok cs) →
      first_without command_is_built 1 cs ≡ None → (r : Result (List QueryData) Refused) → AreAsked l 1 0 cs r → AreCommands l c (after_names r)
  made_names ps cs is read e (Ok qs) f = are_taken ps cs qs is read e f
  made_names ps cs is read e (Err u) f = not_named ps cs u is read e f

  made_built : (ps : List (List Lexeme)) (cs : List CommandData) → IsCut c (Ok ps) → AreRead (Answers IsCommand) 1 ps (Ok cs) →
      (o : Option ℕ) → first_without command_is_built 1 cs ≡ o → AreCommands l c (after_built l cs o)
  made_built ps cs is read None e = made_names ps cs is read e (queries_after l 1 0 cs) (asked_made firsts limits l 1 0 cs e)
  made_built ps cs is read (Some k) e = not_built ps cs k is read e

  made_forms : (ps : List (List Lexeme)) → IsCut c (Ok ps) → (r : Result (List CommandData) Refusal) → AreRead (Answers IsCommand) 1 ps r →
      AreCommands l c (after_forms l (formed r))
  made_forms ps is (Ok cs) read = made_built ps cs is read (first_without command_is_built 1 cs) refl
  made_forms ps is (Err x) read = not_read ps x is read

  made_cut : (r : Result (List (List Lexeme)) FileError) → IsCut c r → AreCommands l c (after_cut l r)
  made_cut (Ok ps) is = made_forms ps is (each_read command_in 1 ps) (read_made (Answers IsCommand) command_in carries 1 ps)
  made_cut (Err e) is = not_cut e is

  pub commands_made : AreCommands l c (commands_of l c)
  commands_made = made_cut (cut_of c) (cut_made c)

  pub commands_are : (r : Result (List QueryData) CommandError) → AreCommands l c r ↔ commands_of l c ≡ r
  commands_are r = (commands_given r, λ e. subst (AreCommands l c) e commands_made)

-- ---- what is asked for

pub taken_fit : DescribeLaw → PlainLaw → (l : LoadedData) → FitsLoaded l → (c : List ℕ) (r : Result (List QueryData) CommandError) (qs : List QueryData) → AreCommands l c r → r ≡ Ok qs →
    AllFit (hierarchy l.signature_of) qs
taken_fit describes plains l fits c r qs (not_cut e is) f = absurd cc
taken_fit describes plains l fits c r qs (not_read ps x is read) f = absurd cc
taken_fit describes plains l fits c r qs (not_built ps cs k is read e) f = absurd cc
taken_fit describes plains l fits c r qs (not_named ps cs u is read e g) f = absurd cc
taken_fit describes plains l fits c r qs (are_taken ps cs us is read e g) f =
    let h : us ≡ qs = cc in subst (AllFit (hierarchy l.signature_of)) h (asked_fit describes plains l fits 1 0 cs (Ok us) us e g refl)
