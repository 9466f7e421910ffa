-- What the bytes of a command file are read as, for a signature and what names mean in its grammar.
use Rattle.std.specs.Prelude.{◌≡◌, ℕ, suc, ◌+◌, Option, Some, None, Result, Ok, Err, List, [], ◌∷◌, length}
use Rattle.ale_term.specs.declared.lexeme.Lexeme.{Lexeme}
use Rattle.ale_term.specs.Terms.{TermData}
use Rattle.ale_token.specs.declared.token.TokenError.{TokenError}
use Rattle.ale_token.specs.declared.token.TokenError.TheVariants as token
use Rattle.ale_form.specs.declared.error.FormError.{FormError}
use Rattle.ale_form.specs.declared.error.FormError.TheVariants as form
use Rattle.ale_form.specs.Results.{Answers}
use Rattle.ale_hierarchy.specs.Hierarchy.{Hierarchy}
use Rattle.ale_logic.specs.Descriptions.{Description, FitsDescription}
use Rattle.ale_logic.specs.Inequations.{HasNoInequation}
use Rattle.ale_vocabulary.specs.First.{IsFirst, AllRight, first_of}
use Rattle.ale_vocabulary.specs.Mentions.{mentions}
use Rattle.ale_vocabulary.specs.Knowing.{IsUnknown, unknown_in}
use Rattle.ale_vocabulary.specs.declared.error.NameError.{NameError}
use Rattle.ale_vocabulary.specs.declared.error.NameError.TheVariants.{TooBig}
use Rattle.ale_describe.specs.Scopes.{new_scope, slot_names}
use Rattle.ale_describe.specs.Describing.{described}
use Rattle.ale_describe.specs.Limits.{parts_of, AreWithin, sum_after}
use Rattle.ale_stage.specs.Stages.{command_is_built}
use Rattle.ale_command.specs.Commands.{CommandData, mgsat, query, lex, rec, gen, code, IsCommand}
use Rattle.ale_command.specs.Reading.{command_of}
use Rattle.ale_load.specs.declared.file_error.FileError.{FileError}
use Rattle.ale_load.specs.declared.file_error.FileError.TheVariants as file
use Rattle.ale_load.specs.declared.command_error.CommandError.{CommandError}
use Rattle.ale_load.specs.declared.command_error.CommandError.TheVariants.{TooLong, NotText, BadToken, NoEnd, BadCommand, NotBuilt, Name, NoMemory}
use Rattle.ale_load.specs.Files.{IsCut, cut_of}
use Rattle.ale_load.specs.Grammars.{LoadedData}
use Rattle.ale_load.specs.Reading.{Refusal, AreRead, each_read, first_without}

-- the description that a command asks for
abbrev pub asked : CommandData → Option TermData
asked (mgsat t) = Some t
asked (query g) = None
asked (lex w) = None
asked (rec ws) = None
asked (gen t) = None
asked (code p n) = None

-- a description with the names of its variables, in order of their slots
abbrev pub QueryData : Type 0
QueryData = Description × List (List ℕ)

-- what the description stands for
abbrev pub query_of : LoadedData → TermData → QueryData
query_of l t = ((described l.signature_of l.names new_scope t).0, slot_names (described l.signature_of l.names new_scope t).1)

-- What is asked for by a description, after so many parts in those before it. Or the first of its names that is not known; or
-- it is too large, or all of them are.
pub data IsAsked (l : LoadedData) (so_far : ℕ) (t : TermData) : Result QueryData NameError → Type 0 where
  is_query : AllRight (IsUnknown l.signature_of l.names.vocabulary) (mentions t) → AreWithin l.signature_of l.names so_far (t ∷ []) → IsAsked l so_far t (Ok (query_of l t))
  is_unknown : (e : NameError) → IsFirst (IsUnknown l.signature_of l.names.vocabulary) (mentions t) e → IsAsked l so_far t (Err e)
  is_too_big : AllRight (IsUnknown l.signature_of l.names.vocabulary) (mentions t) → (AreWithin l.signature_of l.names so_far (t ∷ []) → ⊥) → IsAsked l so_far t (Err TooBig)

-- the number of a command, and why it is refused
abbrev pub Refused : Type 0
Refused = ℕ × NameError

-- The commands, counted from a number on, ask for these queries, after so many parts in those before them; or the first that
-- is refused, and why.
pub data AreAsked (l : LoadedData) : ℕ → ℕ → List CommandData → Result (List QueryData) Refused → Type 0 where
  none_left : (k so_far : ℕ) → AreAsked l k so_far [] (Ok [])
  one_more : (k so_far : ℕ) (c : CommandData) (cs : List CommandData) (t : TermData) (q : QueryData) (qs : List QueryData) → asked c ≡ Some t →
      IsAsked l so_far t (Ok q) → AreAsked l (suc k) (so_far + parts_of l.signature_of l.names t) cs (Ok qs) → AreAsked l k so_far (c ∷ cs) (Ok (q ∷ qs))
  later_refused : (k so_far : ℕ) (c : CommandData) (cs : List CommandData) (t : TermData) (q : QueryData) (r : Refused) → asked c ≡ Some t →
      IsAsked l so_far t (Ok q) → AreAsked l (suc k) (so_far + parts_of l.signature_of l.names t) cs (Err r) → AreAsked l k so_far (c ∷ cs) (Err r)
  one_refused : (k so_far : ℕ) (c : CommandData) (cs : List CommandData) (t : TermData) (e : NameError) → asked c ≡ Some t →
      IsAsked l so_far t (Err e) → AreAsked l k so_far (c ∷ cs) (Err (k, e))

-- the description speaks of types and features of the hierarchy, and of variables that have a name, and has no
-- inequation
pub record FitsQuery (h : Hierarchy) (q : QueryData) : Type 0 where
  pub fits : FitsDescription h (length q.1) q.0
  pub plain : HasNoInequation q.0

abbrev pub AllFit : Hierarchy → List QueryData → Type 0
AllFit h [] = Unit {0}
AllFit h (q ∷ qs) = FitsQuery h q × AllFit h qs

-- what a part of a command file is read as; the word is not seen through
unfoldable pub command_in : List Lexeme → Result CommandData FormError
command_in ls = command_of ls

abbrev pub token_fault : TokenError → CommandError
token_fault (token.BadToken p) = BadToken p
token_fault (token.NoEnd p) = NoEnd p
token_fault token.NoMemory = NoMemory

-- why commands whose file is not cut are refused
abbrev pub command_fault : FileError → CommandError
command_fault file.TooLong = TooLong
command_fault (file.NotText p) = NotText p
command_fault (file.Unread e) = token_fault e
command_fault file.NoMemory = NoMemory

-- why commands with a part that is none are refused, by the number of the part
abbrev pub form_fault : ℕ → FormError → CommandError
form_fault k form.TooDeep = BadCommand k
form_fault k (form.OutOfProfile w) = BadCommand k
form_fault k form.NotADeclaration = BadCommand k
form_fault k form.NoMemory = NoMemory

-- The bytes are commands, or are refused: for the file; else for the first part that is no command; else for the first
-- command that is not built; else for the first that has a name which is not known, or is too large.
pub data AreCommands (l : LoadedData) (c : List ℕ) : Result (List QueryData) CommandError → Type 0 where
  not_cut : (e : FileError) → IsCut c (Err e) → AreCommands l c (Err (command_fault e))
  not_read : (ps : List (List Lexeme)) (r : Refusal) → IsCut c (Ok ps) → AreRead (Answers IsCommand) 1 ps (Err r) → AreCommands l c (Err (BadCommand r.0))
  not_built : (ps : List (List Lexeme)) (cs : List CommandData) (k : ℕ) → IsCut c (Ok ps) → AreRead (Answers IsCommand) 1 ps (Ok cs) →
      first_without command_is_built 1 cs ≡ Some k → AreCommands l c (Err (NotBuilt k))
  not_named : (ps : List (List Lexeme)) (cs : List CommandData) (r : Refused) → IsCut c (Ok ps) → AreRead (Answers IsCommand) 1 ps (Ok cs) →
      first_without command_is_built 1 cs ≡ None → AreAsked l 1 0 cs (Err r) → AreCommands l c (Err (Name r.0 r.1))
  are_taken : (ps : List (List Lexeme)) (cs : List CommandData) (qs : List QueryData) → IsCut c (Ok ps) → AreRead (Answers IsCommand) 1 ps (Ok cs) →
      first_without command_is_built 1 cs ≡ None → AreAsked l 1 0 cs (Ok qs) → AreCommands l c (Ok qs)

-- the same as a function, stage by stage
abbrev pub within_limits : LoadedData → TermData → Option ℕ → Result QueryData NameError
within_limits l t (Some so_far) = Ok (query_of l t)
within_limits l t None = Err TooBig

abbrev pub known : LoadedData → ℕ → TermData → Option NameError → Result QueryData NameError
known l so_far t (Some e) = Err e
known l so_far t None = within_limits l t (sum_after l.signature_of l.names (Some so_far) (t ∷ []))

abbrev pub asked_after : LoadedData → ℕ → TermData → Result QueryData NameError
asked_after l so_far t = known l so_far t (first_of (unknown_in l.signature_of l.names.vocabulary) (mentions t))

abbrev pub with_query : QueryData → Result (List QueryData) Refused → Result (List QueryData) Refused
with_query q (Ok qs) = Ok (q ∷ qs)
with_query q (Err r) = Err r

abbrev pub first_asked : ℕ → Result QueryData NameError → Result (List QueryData) Refused → Result (List QueryData) Refused
first_asked k (Ok q) later = with_query q later
first_asked k (Err e) later = Err (k, e)

abbrev pub query_with : LoadedData → ℕ → ℕ → Option TermData → (ℕ → Result (List QueryData) Refused) → Result (List QueryData) Refused
query_with l k so_far None later = later so_far
query_with l k so_far (Some t) later = first_asked k (asked_after l so_far t) (later (so_far + parts_of l.signature_of l.names t))

abbrev pub queries_after : LoadedData → ℕ → ℕ → List CommandData → Result (List QueryData) Refused
queries_after l k so_far [] = Ok []
queries_after l k so_far (c ∷ cs) = query_with l k so_far (asked c) (λ n. queries_after l (suc k) n cs)

abbrev pub after_names : Result (List QueryData) Refused → Result (List QueryData) CommandError
after_names (Ok qs) = Ok qs
after_names (Err r) = Err (Name r.0 r.1)

abbrev pub after_built : LoadedData → List CommandData → Option ℕ → Result (List QueryData) CommandError
after_built l cs (Some k) = Err (NotBuilt k)
after_built l cs None = after_names (queries_after l 1 0 cs)

abbrev pub formed : Result (List CommandData) Refusal → Result (List CommandData) CommandError
formed (Ok cs) = Ok cs
formed (Err r) = Err (BadCommand r.0)

abbrev pub after_forms : LoadedData → Result (List CommandData) CommandError → Result (List QueryData) CommandError
after_forms l (Ok cs) = after_built l cs (first_without command_is_built 1 cs)
after_forms l (Err e) = Err e

abbrev pub after_cut : LoadedData → Result (List (List Lexeme)) FileError → Result (List QueryData) CommandError
after_cut l (Ok ps) = after_forms l (formed (each_read command_in 1 ps))
after_cut l (Err e) = Err (command_fault e)

abbrev pub commands_of : LoadedData → List ℕ → Result (List QueryData) CommandError
commands_of l c = after_cut l (cut_of c)
