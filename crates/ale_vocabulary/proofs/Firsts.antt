-- The first fault of lists of mentions that are put together, and the mentions of lists of descriptions and goals.
use Rattle.std.proofs.Common.{◌≡◌, suc, Option, Some, None, List, [], ◌∷◌, ◌++◌, map, length, refl, ap, ◌∙◌}
use Rattle.ale_term.specs.Terms.{TermData, terms_of}
use Rattle.ale_vocabulary.specs.First.{first_of, or_else}
use Rattle.ale_vocabulary.specs.Mentions.{how_many, mentions, mentions_of_all, mentions_of_each}

or_else_after : {F : Type 0} (a b c : Option F) → or_else a (or_else b c) ≡ or_else (or_else a b) c
or_else_after None b c = refl
or_else_after (Some f) b c = refl

-- of one list after the other
pub first_append : {A F : Type 0} (f : A → Option F) (xs ys : List A) → first_of f (xs ++ ys) ≡ or_else (first_of f xs) (first_of f ys)
first_append f [] ys = refl
first_append f (x ∷ xs) ys = ap (or_else (f x)) (first_append f xs ys) ∙ or_else_after (f x) (first_of f xs) (first_of f ys)

-- of what a function gives
pub first_map : {A B F : Type 0} (f : B → Option F) (g : A → B) (xs : List A) → first_of f (map g xs) ≡ first_of (λ x. f (g x)) xs
first_map f g [] = refl
first_map f g (x ∷ xs) = ap (or_else (f (g x))) (first_map f g xs)

pub or_none : {F : Type 0} (o : Option F) → or_else o None ≡ o
or_none None = refl
or_none (Some f) = refl

-- a list of descriptions has so many
pub how_many_are : (ts : List TermData) → how_many (terms_of ts) ≡ length ts
how_many_are [] = refl
how_many_are (t ∷ ts) = ap suc (how_many_are ts)

pub each_of_all : (ts : List TermData) → mentions_of_each ts ≡ mentions_of_all (terms_of ts)
each_of_all [] = refl
each_of_all (t ∷ ts) = ap (λ ms. mentions t ++ ms) (each_of_all ts)

pub ruleset first_rules = (first_append, first_map, or_none, how_many_are, each_of_all)
