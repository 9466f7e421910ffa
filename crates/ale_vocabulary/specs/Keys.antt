-- What a macro or a predicate is told by: how many arguments it has, and its name; as one list, the number before the
-- characters. Source: macros and predicates of the ALE 3.2 User's Guide, told apart by name and number of arguments as in Prolog.
use Rattle.std.specs.Prelude.{ℕ, List, ◌∷◌}

abbrev pub key : List ℕ → ℕ → List ℕ
key name arity = arity ∷ name
