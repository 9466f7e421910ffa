-- How many parts a template will have, and how deep it will be nested, by how many and how deep those have and are that are put
-- in for the first variables of its scope. Nothing is expanded for it. Source: this project's own.
use Rattle.std.specs.Prelude.{◌≡◌, ℕ, zero, suc, ◌+◌, ◌*◌, min, max, Option, Some, None, List, [], ◌∷◌, get_or, length}
use Rattle.ale_macro.specs.declared.tally.Tally.{Tally}
use Rattle.ale_macro.specs.declared.depth.Depth.{Depth}
use Rattle.ale_macro.specs.Templates.{TemplateData, TemplatesData, MacroData, macro_at, of_type, variable, at, all, any, differs, path_equation, call, cells, none, more}

-- numbers are told apart below the limit alone
abbrev pub Near : ℕ → ℕ → ℕ → Type 0
Near limit a b = min a limit ≡ min b limit

-- each cell of a list has a conjunction, a type and two features beside the member and the rest
abbrev pub list_parts : List ℕ → ℕ → ℕ
list_parts [] end = end
list_parts (x ∷ xs) end = 4 + (x + list_parts xs end)

-- the parts, where `calls` gives the parts of a call from those of its arguments
abbrev mutual
  pub parts_by : (ℕ → List ℕ → ℕ) → List ℕ → TemplateData → ℕ
  parts_by calls xs (of_type t) = 1
  parts_by calls xs (variable v) = get_or xs v 1
  parts_by calls xs (at f t) = suc (parts_by calls xs t)
  parts_by calls xs (all ts) = suc (total_parts calls xs ts)
  parts_by calls xs (any ts) = suc (total_parts calls xs ts)
  parts_by calls xs (differs t) = suc (parts_by calls xs t)
  parts_by calls xs (path_equation p q) = suc (length p + length q)
  parts_by calls xs (call k m ts) = calls m (each_parts calls xs ts)
  parts_by calls xs (cells ts t) = list_parts (each_parts calls xs ts) (parts_by calls xs t)

  pub total_parts : (ℕ → List ℕ → ℕ) → List ℕ → TemplatesData → ℕ
  total_parts calls xs none = 0
  total_parts calls xs (more t ts) = parts_by calls xs t + total_parts calls xs ts

  pub each_parts : (ℕ → List ℕ → ℕ) → List ℕ → TemplatesData → List ℕ
  each_parts calls xs none = []
  each_parts calls xs (more t ts) = parts_by calls xs t ∷ each_parts calls xs ts

-- so often each of these
abbrev pub weighted : List ℕ → List ℕ → ℕ
weighted [] xs = 0
weighted (c ∷ cs) [] = 0
weighted (c ∷ cs) (x ∷ xs) = c * x + weighted cs xs

-- the parts of a call, by those of its arguments
abbrev pub tallied : Tally → List ℕ → ℕ
tallied t xs = t.own + weighted t.uses.items xs

abbrev pub tallied_if : Option Tally → List ℕ → ℕ
tallied_if None xs = 1
tallied_if (Some t) xs = tallied t xs

abbrev pub tallied_by : List (Option Tally) → ℕ → List ℕ → ℕ
tallied_by table m = tallied_if (get_or table m None)

-- the template is counted so many times more
abbrev pub Counts : List (Option Tally) → TemplateData → ℕ → Tally → Tally → Type 0
Counts table t times old new =
    (xs : List ℕ) → length xs ≡ length old.uses.items → Near 100001 (tallied new xs) (tallied old xs + times * parts_by (tallied_by table) xs t)

-- the tally of a macro, beside a table of those of the macros that it calls
abbrev pub IsTally : List MacroData → ℕ → List (Option Tally) → Tally → Type 0
IsTally ms m table e =
    (length e.uses.items ≡ (macro_at ms m).parameters) ×
    ((xs : List ℕ) → length xs ≡ (macro_at ms m).parameters → Near 100001 (tallied e xs) (parts_by (tallied_by table) xs (macro_at ms m).body))

-- each cell of a list is two deep
abbrev pub list_nesting : List ℕ → ℕ → ℕ
list_nesting [] end = end
list_nesting (x ∷ xs) end = 2 + max x (list_nesting xs end)

-- the nesting, where `calls` gives that of a call from those of its arguments
abbrev mutual
  pub nesting_by : (ℕ → List ℕ → ℕ) → List ℕ → TemplateData → ℕ
  nesting_by calls xs (of_type t) = 0
  nesting_by calls xs (variable v) = get_or xs v 0
  nesting_by calls xs (at f t) = suc (nesting_by calls xs t)
  nesting_by calls xs (all ts) = suc (deepest calls xs ts)
  nesting_by calls xs (any ts) = suc (deepest calls xs ts)
  nesting_by calls xs (differs t) = suc (nesting_by calls xs t)
  nesting_by calls xs (path_equation p q) = 0
  nesting_by calls xs (call k m ts) = calls m (each_nesting calls xs ts)
  nesting_by calls xs (cells ts t) = list_nesting (each_nesting calls xs ts) (nesting_by calls xs t)

  pub deepest : (ℕ → List ℕ → ℕ) → List ℕ → TemplatesData → ℕ
  deepest calls xs none = 0
  deepest calls xs (more t ts) = max (nesting_by calls xs t) (deepest calls xs ts)

  pub each_nesting : (ℕ → List ℕ → ℕ) → List ℕ → TemplatesData → List ℕ
  each_nesting calls xs none = []
  each_nesting calls xs (more t ts) = nesting_by calls xs t ∷ each_nesting calls xs ts

-- the deepest of these, each below where it stands, if it does
abbrev pub below : List (Option ℕ) → List ℕ → ℕ
below [] xs = 0
below (p ∷ ps) [] = 0
below (None ∷ ps) (x ∷ xs) = below ps xs
below (Some d ∷ ps) (x ∷ xs) = max (d + x) (below ps xs)

-- a place that is so deep, or as deep as it was
abbrev pub lowered : Option ℕ → ℕ → ℕ
lowered None depth = depth
lowered (Some d) depth = max d depth

-- the nesting of a call, by those of its arguments
abbrev pub reached : Depth → List ℕ → ℕ
reached d xs = max d.own (below d.places.items xs)

abbrev pub reached_if : Option Depth → List ℕ → ℕ
reached_if None xs = 0
reached_if (Some d) xs = reached d xs

abbrev pub reached_by : List (Option Depth) → ℕ → List ℕ → ℕ
reached_by table m = reached_if (get_or table m None)

-- a place that stands below so many more, if it is one
abbrev pub NearPlace : Option ℕ → ℕ → Option ℕ → Type 0
NearPlace None above None = Unit {0}
NearPlace None above (Some d) = ⊥
NearPlace (Some n) above None = ⊥
NearPlace (Some n) above (Some d) = Near 4001 n (above + d)

-- the template stands below so many more, if it does at all
abbrev pub Reaches : List (Option Depth) → TemplateData → Option ℕ → Depth → Depth → Type 0
Reaches table t None old new = (xs : List ℕ) → length xs ≡ length old.places.items → Near 4001 (reached new xs) (reached old xs)
Reaches table t (Some above) old new =
    (xs : List ℕ) → length xs ≡ length old.places.items → Near 4001 (reached new xs) (max (reached old xs) (above + nesting_by (reached_by table) xs t))

-- the depth of a macro, beside a table of those of the macros that it calls
abbrev pub IsDepth : List MacroData → ℕ → List (Option Depth) → Depth → Type 0
IsDepth ms m table e =
    (length e.places.items ≡ (macro_at ms m).parameters) ×
    ((xs : List ℕ) → length xs ≡ (macro_at ms m).parameters → Near 4001 (reached e xs) (nesting_by (reached_by table) xs (macro_at ms m).body))
