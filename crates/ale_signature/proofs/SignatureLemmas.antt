-- What the calls of a signature say, from its tables.
use Rattle.std.proofs.Common.{◌≡◌, sym, ap, ◌∙◌, ℕ, ◌<◌, Bool, true, Option, Some, None, List, length, get_or}
use Rattle.std.specs.Prelude.{IfSome, IfNone, ◌↔◌}
use Rattle.ale_relation.specs.Has.{Has}
use Rattle.ale_declared.specs.Declarations.{Declared}
use Rattle.ale_declared.specs.declared.decl.Mention.{Mention}
use Rattle.ale_hierarchy.specs.Order.{IsAbove, IsJoin, Applies, IsRestriction, join, approp, is_ext}
use Rattle.ale_hierarchy.specs.Accepted.{IsAccepted}
use Rattle.ale_declared.specs.Numbering.{IsWellNumbered}
use Rattle.ale_hierarchy.specs.Stages.{tabulated}
use Rattle.ale_declared.proofs.ListLemmas.{is_among_has, is_among_from}
use Rattle.ale_hierarchy.proofs.OrderLemmas.{IsAbove_inside}
use Rattle.ale_hierarchy.proofs.JoinLemmas.{join_to, join_none}
use Rattle.ale_hierarchy.proofs.AppropLemmas.{approp_to, approp_nowhere}
use Rattle.ale_hierarchy.proofs.TabulatedLemmas.{length-tabulated, get_or-tabulated}

-- the least common subtype of two types, and that there is none
pub least_found : (d : Declared) (a b : ℕ) (r : Option ℕ) → IsWellNumbered d → r ≡ join d a b → IfSome r (λ j. IsJoin d a b j)
least_found d a b None w e = tt
least_found d a b (Some j) w e = (join_to d a b j w (sym e)).1

pub none_found : (d : Declared) (a b : ℕ) (r : Option ℕ) → IsWellNumbered d → IsAccepted d → a < length d.types → r ≡ join d a b → IfNone r ((c : ℕ) → IsAbove d a c → IsAbove d b c → ⊥)
none_found d a b None w accepted inside e = λ c left right. join_none d a b c w accepted.joins (sym e) (IsAbove_inside d a c w left inside) left right
none_found d a b (Some j) w accepted inside e = tt

-- the restriction that applies, and that there is none
pub restriction_found : (d : Declared) (f t : ℕ) (r : Option ℕ) → IsWellNumbered d → r ≡ approp d f t → IfSome r (λ r. IsRestriction d f t r)
restriction_found d f t None w e = tt
restriction_found d f t (Some r) w e = approp_to d f t r w (sym e)

pub no_restriction : (d : Declared) (f t : ℕ) (r : Option ℕ) → IsWellNumbered d → IsAccepted d → t < length d.types → r ≡ approp d f t → IfNone r ((m : Mention) → Applies d f t m → ⊥)
no_restriction d f t None w accepted inside e = λ m a. approp_nowhere d f t m w accepted.restrictions_join inside (sym e) a
no_restriction d f t (Some r) w accepted inside e = tt

-- a table that is tabulated, read at a number
pub table_length : {A : Type 0} (xs ys : List A) (f : ℕ → A) (n : ℕ) → xs ≡ ys → ys ≡ tabulated f n → length xs ≡ n
table_length xs ys f n e is = ap length (e ∙ is) ∙ length-tabulated f n

pub table_at : {A : Type 0} (xs ys : List A) (f : ℕ → A) (n k i : ℕ) (z : A) → xs ≡ ys → ys ≡ tabulated f n → i ≡ k → k < n → get_or xs i z ≡ f k
table_at xs ys f n k i z e is same below = rw (e, is, same) (get_or-tabulated f n k z below)

-- whether a type is extensional
pub ext_found : (d : Declared) (t : ℕ) (r : Bool) → r ≡ is_ext d t → (r ≡ true) ↔ Has d.ext t
ext_found d t r e = (λ h. is_among_has t d.ext (sym e ∙ h), λ h. e ∙ is_among_from t d.ext h)
