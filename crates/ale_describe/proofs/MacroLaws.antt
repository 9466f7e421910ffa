-- The macros that declarations declare are known and fit the signature.
use Rattle.std.proofs.Common.{ℕ, List, [], ◌∷◌, ◌++◌, length, inl, inr}
use Rattle.std.proofs.lemmas.Bool.{cases_Bool}
use Rattle.ale_declared.specs.Declarations.{Declared}
use Rattle.ale_declared.specs.Names.{is_named}
use Rattle.ale_hierarchy.specs.Order.{hierarchy}
use Rattle.ale_logic.specs.Programs.{ListTypes}
use Rattle.ale_logic.specs.Fitting.{FitLists}
use Rattle.ale_declaration.specs.Declarations.{DeclarationData, signature, constraint, macro, clause, word, empty, lex_rule, rule, semantics, lex_depth, chain_length, passed_over}
use Rattle.ale_vocabulary.specs.Keys.{key}
use Rattle.ale_vocabulary.specs.Vocabularies.{VocabularyData, vocabulary_of}
use Rattle.ale_macro.specs.Templates.{MacroData}
use Rattle.ale_macro.specs.Calls.{CallsKnown, BodiesKnown, FitsTemplate, BodiesFit}
use Rattle.ale_describe.specs.Known.{HasLists}
use Rattle.ale_describe.specs.Names.{HaveKeys}
use Rattle.ale_describe.specs.Macros.{macro_of, unless_named, macros_after}
use Rattle.ale_describe.specs.Declaring.{AreKnownDeclarations, MacrosLaw}
use Rattle.ale_describe.proofs.Knowing.{known_term, calls_known}
use Rattle.ale_describe.proofs.Fitting.{fits_template}
use Rattle.ale_describe.proofs.Declaring.{all_have_keys}

-- each has what a macro of a declaration has
one_known : (ms : List MacroData) (k : List ℕ) (seen : List (List ℕ)) (x : MacroData) (xs : List MacroData) → CallsKnown ms x.body → BodiesKnown ms xs → BodiesKnown ms (unless_named k seen (x ∷ []) ++ xs)
one_known ms k seen x xs one others = elim (cases_Bool (is_named k seen)) [ inl t ↦ rw t others | inr f ↦ rw f (one, others) ]

bodies_known : (d : Declared) (v : VocabularyData) (ms : List MacroData) (seen : List (List ℕ)) (ds : List DeclarationData) → HaveKeys v.macros ms → AreKnownDeclarations d v ds → BodiesKnown ms (macros_after d v seen ds)
bodies_known d v ms seen [] h k = tt
bodies_known d v ms seen (macro m ps t ∷ ds) h k =
    one_known ms (key m (length ps)) seen (macro_of d v ps t) (macros_after d v (seen ++ key m (length ps) ∷ []) ds) (calls_known d v ms ps t h (known_term d v t k.0))
    (bodies_known d v ms (seen ++ key m (length ps) ∷ []) ds h k.1)
bodies_known d v ms seen (signature s ∷ ds) h k = bodies_known d v ms seen ds h k.1
bodies_known d v ms seen (constraint n t g ∷ ds) h k = bodies_known d v ms seen ds h k.1
bodies_known d v ms seen (clause p ts g ∷ ds) h k = bodies_known d v ms seen ds h k.1
bodies_known d v ms seen (word w t ∷ ds) h k = bodies_known d v ms seen ds h k.1
bodies_known d v ms seen (empty t ∷ ds) h k = bodies_known d v ms seen ds h k.1
bodies_known d v ms seen (lex_rule n t u g ls ∷ ds) h k = bodies_known d v ms seen ds h k.1
bodies_known d v ms seen (rule n t es ∷ ds) h k = bodies_known d v ms seen ds h k.1
bodies_known d v ms seen (semantics p ∷ ds) h k = bodies_known d v ms seen ds h k.1
bodies_known d v ms seen (lex_depth n ∷ ds) h k = bodies_known d v ms seen ds h k.1
bodies_known d v ms seen (chain_length n ∷ ds) h k = bodies_known d v ms seen ds h k.1
bodies_known d v ms seen (passed_over n ∷ ds) h k = bodies_known d v ms seen ds h k.1

one_fits : (d : Declared) (l : ListTypes) (k : List ℕ) (seen : List (List ℕ)) (x : MacroData) (xs : List MacroData) → FitsTemplate (hierarchy d) l x.body → BodiesFit (hierarchy d) l xs →
    BodiesFit (hierarchy d) l (unless_named k seen (x ∷ []) ++ xs)
one_fits d l k seen x xs one others = elim (cases_Bool (is_named k seen)) [ inl t ↦ rw t others | inr f ↦ rw f (one, others) ]

bodies_fit : (d : Declared) (v : VocabularyData) (l : ListTypes) → (HasLists d → FitLists (hierarchy d) l) → (seen : List (List ℕ)) (ds : List DeclarationData) → AreKnownDeclarations d v ds →
    BodiesFit (hierarchy d) l (macros_after d v seen ds)
bodies_fit d v l lists seen [] k = tt
bodies_fit d v l lists seen (macro m ps t ∷ ds) k =
    one_fits d l (key m (length ps)) seen (macro_of d v ps t) (macros_after d v (seen ++ key m (length ps) ∷ []) ds) (fits_template d v l lists ps t (known_term d v t k.0))
    (bodies_fit d v l lists (seen ++ key m (length ps) ∷ []) ds k.1)
bodies_fit d v l lists seen (signature s ∷ ds) k = bodies_fit d v l lists seen ds k.1
bodies_fit d v l lists seen (constraint n t g ∷ ds) k = bodies_fit d v l lists seen ds k.1
bodies_fit d v l lists seen (clause p ts g ∷ ds) k = bodies_fit d v l lists seen ds k.1
bodies_fit d v l lists seen (word w t ∷ ds) k = bodies_fit d v l lists seen ds k.1
bodies_fit d v l lists seen (empty t ∷ ds) k = bodies_fit d v l lists seen ds k.1
bodies_fit d v l lists seen (lex_rule n t u g ls ∷ ds) k = bodies_fit d v l lists seen ds k.1
bodies_fit d v l lists seen (rule n t es ∷ ds) k = bodies_fit d v l lists seen ds k.1
bodies_fit d v l lists seen (semantics p ∷ ds) k = bodies_fit d v l lists seen ds k.1
bodies_fit d v l lists seen (lex_depth n ∷ ds) k = bodies_fit d v l lists seen ds k.1
bodies_fit d v l lists seen (chain_length n ∷ ds) k = bodies_fit d v l lists seen ds k.1
bodies_fit d v l lists seen (passed_over n ∷ ds) k = bodies_fit d v l lists seen ds k.1

pub macros_law : MacrosLaw
macros_law d ds k =
    let keys = all_have_keys d (vocabulary_of ds) ds in
    record {
      keys = keys;
      known = bodies_known d (vocabulary_of ds) (macros_after d (vocabulary_of ds) [] ds) [] ds keys k;
      fit = λ l lists. bodies_fit d (vocabulary_of ds) l lists [] ds k;
    }
