-- What the bytes of a grammar file are loaded as.
use Rattle.std.specs.Prelude.{◌≡◌, ℕ, suc, Option, Some, None, Result, Ok, Err, List, [], ◌∷◌, ◌++◌}
use Rattle.ale_term.specs.declared.lexeme.Lexeme.{Lexeme}
use Rattle.ale_form.specs.declared.error.FormError.{FormError}
use Rattle.ale_form.specs.declared.error.FormError.TheVariants as form
use Rattle.ale_declared.specs.declared.decl.SigDecl.{SigDecl}
use Rattle.ale_declared.specs.Declarations.{Declared, declared}
use Rattle.ale_hierarchy.specs.declared.fault.Fault.{Fault}
use Rattle.ale_hierarchy.specs.declared.error.SigError.{SigError}
use Rattle.ale_hierarchy.specs.declared.error.SigError.TheVariants as refusal
use Rattle.ale_hierarchy.specs.Accepted.{IsAccepted}
use Rattle.ale_hierarchy.specs.Faults.{fault_of}
use Rattle.ale_hierarchy.specs.Refusals.{IsFault, named_fault}
use Rattle.ale_declaration.specs.Declarations.{DeclarationData, signature, constraint, macro, clause, word, empty, lex_rule, rule, semantics, lex_depth, chain_length, passed_over}
use Rattle.ale_stage.specs.Stages.{declaration_is_built}
use Rattle.ale_macro.specs.Calls.{BodiesArePlain}
use Rattle.ale_describe.specs.Names.{NamesData}
use Rattle.ale_describe.specs.Macros.{names_of}
use Rattle.ale_describe.specs.Laws.{FitsNames}
use Rattle.ale_naming.specs.Faults as naming
use Rattle.ale_naming.specs.Faults.{IsNameFault, AreRight}
use Rattle.ale_naming.specs.Rounds.{named_of}
use Rattle.ale_naming.specs.declared.fault.NameFault.{NameFault}
use Rattle.ale_naming.specs.declared.fault.NameFault.TheVariants as fault
use Rattle.ale_naming.specs.declared.fault.NameFault.TheVariants.{At}
use Rattle.ale_declaration.specs.Answers.{DeclarationAnswers}
use Rattle.ale_declaration.specs.Reading.{declaration_of}
use Rattle.ale_load.specs.declared.file_error.FileError.{FileError}
use Rattle.ale_load.specs.declared.file_error.FileError.TheVariants as file
use Rattle.ale_load.specs.declared.grammar_error.GrammarError.{GrammarError}
use Rattle.ale_load.specs.declared.grammar_error.GrammarError.TheVariants.{TooLong, NotText, Token, Form, NotBuilt, Signature, Names, NoMemory}
use Rattle.ale_load.specs.Files.{IsCut, cut_of}
use Rattle.ale_load.specs.Reading.{Refusal, AreRead, each_read, first_without}

-- a directive that is passed over: the number of its declaration, and its name
abbrev pub PassedOver : Type 0
PassedOver = ℕ × List ℕ

-- what is built of a declaration
pub data BuiltPart : Type 0 where
  types : SigDecl → BuiltPart
  directive : List ℕ → BuiltPart
  nothing : BuiltPart

abbrev pub built_of : DeclarationData → BuiltPart
built_of (signature s) = types s
built_of (passed_over n) = directive n
built_of (constraint t d g) = nothing
built_of (macro m ps d) = nothing
built_of (clause p ts g) = nothing
built_of (word w d) = nothing
built_of (empty d) = nothing
built_of (lex_rule n d e g ls) = nothing
built_of (rule n d es) = nothing
built_of (semantics p) = nothing
built_of (lex_depth n) = nothing
built_of (chain_length n) = nothing

abbrev pub types_in : BuiltPart → List SigDecl
types_in (types s) = s ∷ []
types_in (directive n) = []
types_in nothing = []

abbrev pub passed_in : ℕ → BuiltPart → List PassedOver
passed_in k (types s) = []
passed_in k (directive n) = (k, n) ∷ []
passed_in k nothing = []

-- the declarations of types, in order
abbrev pub types_of : List DeclarationData → List SigDecl
types_of [] = []
types_of (d ∷ ds) = types_in (built_of d) ++ types_of ds

-- the directives that are passed over, counted among all declarations
abbrev pub passed_from : ℕ → List DeclarationData → List PassedOver
passed_from k [] = []
passed_from k (d ∷ ds) = passed_in k (built_of d) ++ passed_from (suc k) ds

-- types and features, what macros and predicates mean, and the directives that are passed over
pub record LoadedData : Type 0 where
  pub signature_of : Declared
  pub names : NamesData
  pub passed : List PassedOver

-- its macros speak of types and features of its signature, and no inequation stands in them
pub record FitsLoaded (l : LoadedData) : Type 0 where
  pub names : FitsNames l.signature_of l.names
  pub plain : BodiesArePlain l.names.library.macros

abbrev pub declared_by : List DeclarationData → Declared
declared_by ds = declared (types_of ds)

abbrev pub loaded_of : List DeclarationData → LoadedData
loaded_of ds = record { signature_of = declared_by ds; names = names_of (declared_by ds) ds; passed = passed_from 1 ds }

-- what a part of a grammar is read as; the word is not seen through, so that proofs about files never unfold all forms
unfoldable pub declaration_in : List Lexeme → Result DeclarationData FormError
declaration_in ls = declaration_of ls

-- why a grammar whose file is not cut is refused
abbrev pub grammar_fault : FileError → GrammarError
grammar_fault file.TooLong = TooLong
grammar_fault (file.NotText p) = NotText p
grammar_fault (file.Unread e) = Token e
grammar_fault file.NoMemory = NoMemory

-- why a grammar with a part that is no declaration is refused, by the number of the part
abbrev pub form_fault : ℕ → FormError → GrammarError
form_fault k form.TooDeep = Form k form.TooDeep
form_fault k (form.OutOfProfile w) = Form k (form.OutOfProfile w)
form_fault k form.NotADeclaration = Form k form.NotADeclaration
form_fault k form.NoMemory = NoMemory

-- why a grammar whose signature is refused is
abbrev pub signature_fault : SigError → GrammarError
signature_fault refusal.TooManyTypes = Signature refusal.TooManyTypes
signature_fault refusal.TooManyFeatures = Signature refusal.TooManyFeatures
signature_fault (refusal.SubCycle t) = Signature (refusal.SubCycle t)
signature_fault (refusal.NoJoin a b c d) = Signature (refusal.NoJoin a b c d)
signature_fault (refusal.TwoIntros f a b) = Signature (refusal.TwoIntros f a b)
signature_fault (refusal.ValueClash t f) = Signature (refusal.ValueClash t f)
signature_fault (refusal.Loop t) = Signature (refusal.Loop t)
signature_fault (refusal.ExtNotMaximal t) = Signature (refusal.ExtNotMaximal t)
signature_fault (refusal.FillTooLarge t) = Signature (refusal.FillTooLarge t)
signature_fault refusal.NoMemory = NoMemory

-- why a grammar is refused that has a fault of names
abbrev pub name_fault : NameFault → GrammarError
name_fault (At k e) = Names k e
name_fault fault.NoMemory = NoMemory

-- The bytes are a grammar, or are refused: for the file; else for the first part that is no declaration; else for the first
-- declaration that is not built; else for the first fault of the signature; else for the first fault of names.
pub data IsLoaded (g : List ℕ) : Result LoadedData GrammarError → Type 0 where
  not_cut : (e : FileError) → IsCut g (Err e) → IsLoaded g (Err (grammar_fault e))
  not_read : (ps : List (List Lexeme)) (r : Refusal) → IsCut g (Ok ps) → AreRead DeclarationAnswers 1 ps (Err r) → IsLoaded g (Err (Form r.0 r.1))
  not_built : (ps : List (List Lexeme)) (ds : List DeclarationData) (k : ℕ) → IsCut g (Ok ps) → AreRead DeclarationAnswers 1 ps (Ok ds) →
      first_without declaration_is_built 1 ds ≡ Some k → IsLoaded g (Err (NotBuilt k))
  not_accepted : (ps : List (List Lexeme)) (ds : List DeclarationData) (f : Fault) → IsCut g (Ok ps) → AreRead DeclarationAnswers 1 ps (Ok ds) →
      first_without declaration_is_built 1 ds ≡ None → IsFault (declared_by ds) f → IsLoaded g (Err (Signature (named_fault (declared_by ds) f)))
  not_named : (ps : List (List Lexeme)) (ds : List DeclarationData) (f : naming.Fault) → IsCut g (Ok ps) → AreRead DeclarationAnswers 1 ps (Ok ds) →
      first_without declaration_is_built 1 ds ≡ None → IsAccepted (declared_by ds) → IsNameFault (declared_by ds) ds f → IsLoaded g (Err (Names f.0 f.1))
  is_loaded : (ps : List (List Lexeme)) (ds : List DeclarationData) → IsCut g (Ok ps) → AreRead DeclarationAnswers 1 ps (Ok ds) →
      first_without declaration_is_built 1 ds ≡ None → IsAccepted (declared_by ds) → AreRight (declared_by ds) ds → IsLoaded g (Ok (loaded_of ds))

-- the same as a function, stage by stage
abbrev pub after_names : List DeclarationData → Result NamesData naming.Fault → Result LoadedData GrammarError
after_names ds (Ok names) = Ok (record { signature_of = declared_by ds; names = names; passed = passed_from 1 ds })
after_names ds (Err f) = Err (Names f.0 f.1)

abbrev pub after_signature : List DeclarationData → Option Fault → Result LoadedData GrammarError
after_signature ds (Some f) = Err (Signature (named_fault (declared_by ds) f))
after_signature ds None = after_names ds (named_of (declared_by ds) ds)

abbrev pub after_built : List DeclarationData → Option ℕ → Result LoadedData GrammarError
after_built ds (Some k) = Err (NotBuilt k)
after_built ds None = after_signature ds (fault_of (declared_by ds))

abbrev pub formed : Result (List DeclarationData) Refusal → Result (List DeclarationData) GrammarError
formed (Ok ds) = Ok ds
formed (Err r) = Err (Form r.0 r.1)

abbrev pub after_forms : Result (List DeclarationData) GrammarError → Result LoadedData GrammarError
after_forms (Ok ds) = after_built ds (first_without declaration_is_built 1 ds)
after_forms (Err e) = Err e

abbrev pub after_cut : Result (List (List Lexeme)) FileError → Result LoadedData GrammarError
after_cut (Ok ps) = after_forms (formed (each_read declaration_in 1 ps))
after_cut (Err e) = Err (grammar_fault e)

abbrev pub load_of : List ℕ → Result LoadedData GrammarError
load_of g = after_cut (cut_of g)
