-- Variables and calls by numbers, in the order in which they were met. Source: this project's own.
use Rattle.std.specs.Prelude.{ℕ, suc, Bool, ◌&&◌, nat_eq, if◌then◌else◌, List, [], ◌∷◌, ◌++◌, get_or, map}
use Rattle.ale_expansion.specs.declared.mark.Mark.{Mark}
use Rattle.ale_macro.specs.Expansions.{Origin}

abbrev pub same_mark : Mark → Mark → Bool
same_mark m n = nat_eq m.path n.path && nat_eq m.number n.number

-- its place, or how many there are where it is new
abbrev pub place_of : List Mark → Mark → ℕ
place_of [] m = 0
place_of (n ∷ ns) m = if same_mark m n then 0 else suc (place_of ns m)

-- it is put last where it is new
abbrev pub with_mark : List Mark → Mark → List Mark
with_mark [] m = m ∷ []
with_mark (n ∷ ns) m = if same_mark m n then n ∷ ns else n ∷ with_mark ns m

abbrev pub path_at : List (List ℕ) → ℕ → List ℕ
path_at paths p = get_or paths p []

-- the paths to which these calls lead, each on from a path before it
abbrev pub paths_from : List (List ℕ) → List Mark → List (List ℕ)
paths_from known [] = known
paths_from known (m ∷ ms) = paths_from (known ++ (m.number ∷ path_at known m.path) ∷ []) ms

-- the first is that of no calls
abbrev pub paths_of : List Mark → List (List ℕ)
paths_of ms = paths_from ([] ∷ []) ms

-- what these variables are
abbrev pub origins_of : List (List ℕ) → List Mark → List Origin
origins_of paths ms = map (λ m. (path_at paths m.path, m.number)) ms
