-- The macros that declarations declare, and what names mean then.
-- Source: macros in the ALE 3.2 User's Guide.
use Rattle.std.specs.Prelude.{ℕ, if◌then◌else◌, List, [], ◌∷◌, ◌++◌, length}
use Rattle.ale_declared.specs.Declarations.{Declared}
use Rattle.ale_declared.specs.Names.{is_named}
use Rattle.ale_term.specs.Terms.{TermData}
use Rattle.ale_declaration.specs.Declarations.{DeclarationData, signature, constraint, macro, clause, word, empty, lex_rule, rule, semantics, lex_depth, chain_length, passed_over}
use Rattle.ale_list.specs.Lists.{lists_or_none}
use Rattle.ale_vocabulary.specs.Keys.{key}
use Rattle.ale_vocabulary.specs.Vocabularies.{VocabularyData, vocabulary_of}
use Rattle.ale_macro.specs.Templates.{MacroData}
use Rattle.ale_describe.specs.Names.{NamesData}
use Rattle.ale_describe.specs.Templating.{templated}

-- a macro whose parameters are the first variables of its scope
abbrev pub macro_of : Declared → VocabularyData → List (List ℕ) → TermData → MacroData
macro_of d v ps t = record { parameters = length ps; body = (templated d v ps t).0 }

-- where the key is one of those that came before, nothing
abbrev pub unless_named : {A : Type 0} → List ℕ → List (List ℕ) → List A → List A
unless_named k seen xs = if is_named k seen then [] else xs

-- the macros of the declarations in order, each by its first declaration, after those with these keys
abbrev pub macros_after : Declared → VocabularyData → List (List ℕ) → List DeclarationData → List MacroData
macros_after d v seen [] = []
macros_after d v seen (macro m ps t ∷ ds) =
    unless_named (key m (length ps)) seen (macro_of d v ps t ∷ []) ++ macros_after d v (seen ++ key m (length ps) ∷ []) ds
macros_after d v seen (signature s ∷ ds) = macros_after d v seen ds
macros_after d v seen (constraint n t g ∷ ds) = macros_after d v seen ds
macros_after d v seen (clause p ts g ∷ ds) = macros_after d v seen ds
macros_after d v seen (word w t ∷ ds) = macros_after d v seen ds
macros_after d v seen (empty t ∷ ds) = macros_after d v seen ds
macros_after d v seen (lex_rule n t u g ls ∷ ds) = macros_after d v seen ds
macros_after d v seen (rule n t es ∷ ds) = macros_after d v seen ds
macros_after d v seen (semantics p ∷ ds) = macros_after d v seen ds
macros_after d v seen (lex_depth n ∷ ds) = macros_after d v seen ds
macros_after d v seen (chain_length n ∷ ds) = macros_after d v seen ds
macros_after d v seen (passed_over n ∷ ds) = macros_after d v seen ds

abbrev pub names_of : Declared → List DeclarationData → NamesData
names_of d ds = record {
  vocabulary = vocabulary_of ds;
  library = record { lists = lists_or_none d; macros = macros_after d (vocabulary_of ds) [] ds };
}
