-- The slots of variables: they are numbered in order of first occurrence, over all descriptions of a declaration.
-- Source: this project's own profile.
use Rattle.std.specs.Prelude.{ℕ, suc, Bool, true, false, ◌&&◌, nat_eq, if◌then◌else◌, List, [], ◌∷◌}
use Rattle.ale_logic.specs.Descriptions.{Description, Descriptions, of_type, slot, at, all, any, differs, path_equation, none, more}
use Rattle.ale_macro.specs.Expansions as expansion
use Rattle.ale_macro.specs.Expansions.{Origin, Expansion, Expansions}

abbrev pub same_path : List ℕ → List ℕ → Bool
same_path [] [] = true
same_path [] (b ∷ bs) = false
same_path (a ∷ rest) [] = false
same_path (a ∷ rest) (b ∷ bs) = nat_eq a b && same_path rest bs

abbrev pub same_origin : Origin → Origin → Bool
same_origin a b = same_path a.0 b.0 && nat_eq a.1 b.1

-- the place of a variable among those met so far, or their number where it is new
abbrev pub slot_of : List Origin → Origin → ℕ
slot_of [] v = 0
slot_of (u ∷ us) v = if same_origin v u then 0 else suc (slot_of us v)

-- it is put last where it is new
abbrev pub with_variable : List Origin → Origin → List Origin
with_variable [] v = v ∷ []
with_variable (u ∷ us) v = if same_origin v u then u ∷ us else u ∷ with_variable us v

-- the description with slots for its variables, after those met so far; and the variables met then
abbrev mutual
  pub numbered : List Origin → Expansion → Description × List Origin
  numbered vs (expansion.of_type t) = (of_type t, vs)
  numbered vs (expansion.variable v) = (slot (slot_of vs v), with_variable vs v)
  numbered vs (expansion.at f e) = (at f (numbered vs e).0, (numbered vs e).1)
  numbered vs (expansion.all es) = (all (all_numbered vs es).0, (all_numbered vs es).1)
  numbered vs (expansion.any es) = (any (all_numbered vs es).0, (all_numbered vs es).1)
  numbered vs (expansion.differs e) = (differs (numbered vs e).0, (numbered vs e).1)
  numbered vs (expansion.path_equation p q) = (path_equation p q, vs)

  pub all_numbered : List Origin → Expansions → Descriptions × List Origin
  all_numbered vs expansion.none = (none, vs)
  all_numbered vs (expansion.more e es) =
      (more (numbered vs e).0 (all_numbered (numbered vs e).1 es).0, (all_numbered (numbered vs e).1 es).1)
