-- The lines that are written of refusals and of directives that are passed over. Names are written as they read in the
-- language; a word that is left out is written as it stands.
use Rattle.std.specs.Prelude.{ℕ, List, [], ◌∷◌, ◌++◌, codes, encode_utf8_all, if◌then◌else◌}
use Rattle.std.specs.Fmt.{decimal}
use Rattle.std.specs.Str.{bytes_eq}
use Rattle.ale_token.specs.declared.token.TokenError.{TokenError}
use Rattle.ale_token.specs.declared.token.TokenError.TheVariants as token
use Rattle.ale_form.specs.declared.error.FormError.{FormError}
use Rattle.ale_form.specs.declared.error.FormError.TheVariants as form
use Rattle.ale_hierarchy.specs.declared.error.SigError.{SigError}
use Rattle.ale_hierarchy.specs.declared.error.SigError.TheVariants as signature
use Rattle.ale_vocabulary.specs.declared.error.NameError.{NameError}
use Rattle.ale_vocabulary.specs.declared.error.NameError.TheVariants as name
use Rattle.ale_print.specs.Naming.{printed_name}
use Rattle.ale_load.specs.declared.grammar_error.GrammarError.{GrammarError}
use Rattle.ale_load.specs.declared.grammar_error.GrammarError.TheVariants as grammar
use Rattle.ale_load.specs.declared.command_error.CommandError.{CommandError}
use Rattle.ale_load.specs.declared.command_error.CommandError.TheVariants as command
use Rattle.ale_load.specs.Grammars.{PassedOver}

abbrev pub name_text : List ℕ → List ℕ
name_text n = encode_utf8_all (printed_name n)

-- names, each after a space, and the end of the line
abbrev pub names_end : List (List ℕ) → List ℕ
names_end [] = codes "\n"
names_end (n ∷ ns) = codes " " ++ name_text n ++ names_end ns

abbrev pub token_text : TokenError → List ℕ
token_text (token.BadToken p) = codes "grammar refused: token 1 BadToken at " ++ decimal p ++ codes "\n"
token_text (token.NoEnd p) = codes "grammar refused: token 2 NoEnd at " ++ decimal p ++ codes "\n"
token_text token.NoMemory = []

abbrev pub left_out_front : ℕ → List ℕ
left_out_front k = codes "grammar refused: form 2 OutOfProfile declaration " ++ decimal k ++ codes " "

abbrev pub form_text : ℕ → FormError → List ℕ
form_text k form.TooDeep = codes "grammar refused: form 1 TooDeep declaration " ++ decimal k ++ codes "\n"
form_text k (form.OutOfProfile w) = left_out_front k ++ encode_utf8_all w ++ codes "\n"
form_text k form.NotADeclaration = codes "grammar refused: form 3 NotADeclaration declaration " ++ decimal k ++ codes "\n"
form_text k form.NoMemory = []

abbrev pub signature_text : SigError → List ℕ
signature_text signature.TooManyTypes = codes "1 TooManyTypes" ++ names_end []
signature_text signature.TooManyFeatures = codes "2 TooManyFeatures" ++ names_end []
signature_text (signature.SubCycle t) = codes "3 SubCycle" ++ names_end (t ∷ [])
signature_text (signature.NoJoin a b c d) = codes "4 NoJoin" ++ names_end (a ∷ b ∷ c ∷ d ∷ [])
signature_text (signature.TwoIntros f a b) = codes "5 TwoIntros" ++ names_end (f ∷ a ∷ b ∷ [])
signature_text (signature.ValueClash t f) = codes "6 ValueClash" ++ names_end (t ∷ f ∷ [])
signature_text (signature.Loop t) = codes "7 Loop" ++ names_end (t ∷ [])
signature_text (signature.ExtNotMaximal t) = codes "8 ExtNotMaximal" ++ names_end (t ∷ [])
signature_text (signature.FillTooLarge t) = codes "9 FillTooLarge" ++ names_end (t ∷ [])
signature_text signature.NoMemory = []

-- the number and the name of a fault of names
abbrev pub fault_name : NameError → List ℕ
fault_name (name.UnknownType n) = codes "1 UnknownType"
fault_name (name.UnknownFeature n) = codes "2 UnknownFeature"
fault_name (name.UnknownMacro n k) = codes "3 UnknownMacro"
fault_name (name.MacroTwice n k) = codes "4 MacroTwice"
fault_name (name.MacroCycle n k) = codes "5 MacroCycle"
fault_name name.TooBig = codes "6 TooBig"
fault_name (name.UnknownPredicate n k) = codes "7 UnknownPredicate"
fault_name name.NoListTypes = codes "8 NoListTypes"
fault_name (name.TwoHeads n) = codes "9 TwoHeads"
fault_name (name.NoDaughter n) = codes "10 NoDaughter"
fault_name (name.BadDirective n) = codes "11 BadDirective"

-- the end of a line that carries a macro or a predicate: its name and how many arguments it has
abbrev pub arity_end : List ℕ → ℕ → List ℕ
arity_end n k = codes " " ++ name_text n ++ codes "/" ++ decimal k ++ codes "\n"

-- what the fault carries, and the end of the line
abbrev pub fault_end : NameError → List ℕ
fault_end (name.UnknownType n) = names_end (n ∷ [])
fault_end (name.UnknownFeature n) = names_end (n ∷ [])
fault_end (name.UnknownMacro n k) = arity_end n k
fault_end (name.MacroTwice n k) = arity_end n k
fault_end (name.MacroCycle n k) = arity_end n k
fault_end name.TooBig = names_end []
fault_end (name.UnknownPredicate n k) = arity_end n k
fault_end name.NoListTypes = names_end []
fault_end (name.TwoHeads n) = names_end (n ∷ [])
fault_end (name.NoDaughter n) = names_end (n ∷ [])
fault_end (name.BadDirective n) = names_end (n ∷ [])

-- the lines of a declaration and of a command with a fault of names
abbrev pub grammar_names : ℕ → NameError → List ℕ
grammar_names k e = codes "grammar refused: names " ++ fault_name e ++ codes " declaration " ++ decimal k ++ fault_end e

abbrev pub command_names : ℕ → NameError → List ℕ
command_names k e = codes "commands refused: 6 Name command " ++ decimal k ++ codes " names " ++ fault_name e ++ fault_end e

-- why a grammar is refused; that memory ran out has no line
abbrev pub grammar_line : GrammarError → List ℕ
grammar_line grammar.TooLong = codes "grammar refused: file 1 TooLong\n"
grammar_line (grammar.NotText p) = codes "grammar refused: file 2 NotText at " ++ decimal p ++ codes "\n"
grammar_line (grammar.Token e) = token_text e
grammar_line (grammar.Form k e) = form_text k e
grammar_line (grammar.NotBuilt k) = codes "grammar refused: stage 1 NotBuilt declaration " ++ decimal k ++ codes "\n"
grammar_line (grammar.Signature e) = codes "grammar refused: signature " ++ signature_text e
grammar_line (grammar.Names k e) = grammar_names k e
grammar_line grammar.NoMemory = []

-- why commands are refused; that memory ran out has no line
abbrev pub command_line : CommandError → List ℕ
command_line command.TooLong = codes "commands refused: 1 TooLong\n"
command_line (command.NotText p) = codes "commands refused: 2 NotText at " ++ decimal p ++ codes "\n"
command_line (command.BadToken p) = codes "commands refused: 3 BadToken at " ++ decimal p ++ codes "\n"
command_line (command.NoEnd p) = codes "commands refused: 4 NoEnd at " ++ decimal p ++ codes "\n"
command_line (command.BadCommand k) = codes "commands refused: 5 BadCommand command " ++ decimal k ++ codes "\n"
command_line (command.NotBuilt k) = codes "commands refused: 9 NotBuilt command " ++ decimal k ++ codes "\n"
command_line (command.Name k e) = command_names k e
command_line command.NoMemory = []

-- the name of a directive; one that is `-` is written so
abbrev pub directive_text : List ℕ → List ℕ
directive_text n = if bytes_eq n (codes "-") then codes "-" else name_text n

abbrev pub passed_front : ℕ → List ℕ
passed_front k = codes "passed over: declaration " ++ decimal k ++ codes " "

-- the line of a directive that was passed over
abbrev pub passed_line : PassedOver → List ℕ
passed_line p = passed_front p.0 ++ directive_text p.1 ++ codes "\n"

-- one for each
abbrev pub passed_text : List PassedOver → List ℕ
passed_text [] = []
passed_text (p ∷ ps) = passed_line p ++ passed_text ps
