-- Pairs of numbers as unordered pairs: the lower number first, each pair once, in order of the lower numbers and then
-- of the higher ones. Source: inequations as sets of unordered pairs of nodes, Carpenter 1992, chapter 8.
use Rattle.std.specs.Prelude.{ℕ, Bool, ◌&&◌, ◌||◌, eqb, ltb, List, [], ◌∷◌, if◌then◌else◌}

-- the same pair with the lower number first
abbrev pub lower_first : ℕ × ℕ → ℕ × ℕ
lower_first p = if ltb p.1 p.0 then (p.1, p.0) else p

abbrev pub is_same : ℕ × ℕ → ℕ × ℕ → Bool
is_same p q = eqb p.0 q.0 && eqb p.1 q.1

-- p stands before q
abbrev pub is_before : ℕ × ℕ → ℕ × ℕ → Bool
is_before p q = ltb p.0 q.0 || (eqb p.0 q.0 && ltb p.1 q.1)

-- the pair is put in its place among pairs in order, unless it is there
abbrev pub put : ℕ × ℕ → List (ℕ × ℕ) → List (ℕ × ℕ)
put p [] = p ∷ []
put p (q ∷ qs) = if is_same p q then q ∷ qs else if is_before p q then p ∷ q ∷ qs else q ∷ put p qs

-- the pairs in order, each once, the lower number first
abbrev pub in_order : List (ℕ × ℕ) → List (ℕ × ℕ)
in_order [] = []
in_order (p ∷ ps) = put (lower_first p) (in_order ps)
