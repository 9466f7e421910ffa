-- The types and features of lists in a signature, by their names.
-- Source: lists in the ALE 3.2 User's Guide.
use Rattle.std.specs.Prelude.{ℕ, Option, Some, None, List, codes, is_some, option_and_then, option_map, if◌then◌else◌}
use Rattle.ale_declared.specs.Declarations.{Declared}
use Rattle.ale_declared.specs.Names.{named}
use Rattle.ale_hierarchy.specs.Order.{approp}
use Rattle.ale_logic.specs.Programs.{ListTypes}

-- the feature, where it is appropriate to the type
abbrev pub if_appropriate : Declared → ℕ → ℕ → Option ℕ
if_appropriate d t f = if is_some (approp d f t) then Some f else None

-- the feature of this name, where it is appropriate to the type
abbrev pub feature_at : Declared → List ℕ → ℕ → Option ℕ
feature_at d name t = option_and_then (if_appropriate d t) (named d.features name)

-- with these types and this feature of the first member, and the feature `tl` of the list of the others
abbrev pub with_hd : Declared → ℕ → ℕ → ℕ → Option ListTypes
with_hd d e_list ne_list hd =
    option_map (λ tl. record { e_list = e_list; ne_list = ne_list; hd = hd; tl = tl }) (feature_at d (codes "tl") ne_list)

-- with these types, and the feature `hd` of the first member
abbrev pub with_ne_list : Declared → ℕ → ℕ → Option ListTypes
with_ne_list d e_list ne_list = option_and_then (with_hd d e_list ne_list) (feature_at d (codes "hd") ne_list)

-- with this type of the empty list, and the type `ne_list` of lists with members
abbrev pub with_e_list : Declared → ℕ → Option ListTypes
with_e_list d e_list = option_and_then (with_ne_list d e_list) (named d.types (codes "ne_list"))

-- with the type `e_list` of the empty list
abbrev pub lists_in : Declared → Option ListTypes
lists_in d = option_and_then (with_e_list d) (named d.types (codes "e_list"))

-- those of the signature; where it has none, no list stands for anything
abbrev pub or_none : Option ListTypes → ListTypes
or_none (Some l) = l
or_none None = record { e_list = 0; ne_list = 0; hd = 0; tl = 0 }

abbrev pub lists_or_none : Declared → ListTypes
lists_or_none d = or_none (lists_in d)
