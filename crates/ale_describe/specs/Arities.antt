-- How many arguments each predicate has, in order of their numbers. Source: this project's own.
use Rattle.std.specs.Prelude.{ℕ, List, [], ◌∷◌, map}
use Rattle.ale_vocabulary.specs.Vocabularies.{VocabularyData}

-- the arity in a key
abbrev pub arity_of : List ℕ → ℕ
arity_of [] = 0
arity_of (n ∷ name) = n

abbrev pub arities : VocabularyData → List ℕ
arities v = map arity_of v.predicates
