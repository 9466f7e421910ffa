-- The macros and predicates that declarations give meaning to, each at its first declaration.
-- Source: macros and definite clauses in the ALE 3.2 User's Guide; the numbers are this project's own.
use Rattle.std.specs.Prelude.{ℕ, List, [], ◌∷◌, ◌++◌, length}
use Rattle.ale_declared.specs.Names.{numbered}
use Rattle.ale_declaration.specs.Declarations.{DeclarationData, signature, constraint, macro, clause, word, empty, lex_rule, rule, semantics, lex_depth, chain_length, passed_over}
use Rattle.ale_vocabulary.specs.Keys.{key}

-- keys in order of their numbers
pub record VocabularyData : Type 0 where
  pub macros : List (List ℕ)
  pub predicates : List (List ℕ)

-- the key of the macro that is declared, of the predicate that a clause is of
abbrev pub macro_key : DeclarationData → List (List ℕ)
macro_key (macro m ps t) = key m (length ps) ∷ []
macro_key (signature s) = []
macro_key (constraint t d g) = []
macro_key (clause p ts g) = []
macro_key (word w t) = []
macro_key (empty t) = []
macro_key (lex_rule n t u g ls) = []
macro_key (rule n t es) = []
macro_key (semantics p) = []
macro_key (lex_depth n) = []
macro_key (chain_length n) = []
macro_key (passed_over n) = []

abbrev pub predicate_key : DeclarationData → List (List ℕ)
predicate_key (clause p ts g) = key p (length ts) ∷ []
predicate_key (macro m ps t) = []
predicate_key (signature s) = []
predicate_key (constraint t d g) = []
predicate_key (word w t) = []
predicate_key (empty t) = []
predicate_key (lex_rule n t u g ls) = []
predicate_key (rule n t es) = []
predicate_key (semantics p) = []
predicate_key (lex_depth n) = []
predicate_key (chain_length n) = []
predicate_key (passed_over n) = []

abbrev pub keys_by : (DeclarationData → List (List ℕ)) → List DeclarationData → List (List ℕ)
keys_by f [] = []
keys_by f (d ∷ ds) = f d ++ keys_by f ds

abbrev pub vocabulary_of : List DeclarationData → VocabularyData
vocabulary_of ds = record { macros = numbered [] (keys_by macro_key ds); predicates = numbered [] (keys_by predicate_key ds) }
