-- The names of list types and their features, what is there by a name, and that list types fit their signature.
use Rattle.std.proofs.Common.{◌≡◌, refl, sym, ap, subst, ◌∙◌, ℕ, ◌<◌, if◌then◌else◌, Option, Some, None, List, codes, length}
use Rattle.std.specs.Prelude.{is_some, option_and_then, option_map, IfSome}
use Rattle.std.specs.Str.{chars}
use Rattle.std.proofs.lemmas.Option.{slice_get_within}
use Rattle.ale_declared.specs.Declarations.{Declared}
use Rattle.ale_declared.specs.Names.{named}
use Rattle.ale_declared.proofs.NameLemmas.{named_at}
use Rattle.ale_hierarchy.specs.Hierarchy.{Above, IsLawful}
use Rattle.ale_hierarchy.specs.Order.{approp, hierarchy}
use Rattle.ale_logic.specs.Programs.{ListTypes}
use Rattle.ale_logic.specs.Fitting.{FitLists}
use Rattle.ale_list.specs.Lists.{if_appropriate, feature_at, with_hd, with_ne_list, with_e_list, lists_in}

pub e_list_name : chars (codes "e_list") ≡ codes "e_list"
unfolding chars
e_list_name = refl

pub ne_list_name : chars (codes "ne_list") ≡ codes "ne_list"
unfolding chars
ne_list_name = refl

pub hd_name : chars (codes "hd") ≡ codes "hd"
unfolding chars
hd_name = refl

pub tl_name : chars (codes "tl") ≡ codes "tl"
unfolding chars
tl_name = refl

-- a name that is there has a number below how many there are
pub named_below : (names : List (List ℕ)) (x : List ℕ) (n : ℕ) → named names x ≡ Some n → n < length names
named_below names x n e = slice_get_within names n x (named_at names x n e)

and_then_some : {A B : Type 0} (f : A → Option B) (o : Option A) (y : B) → option_and_then f o ≡ Some y → (x : A) × (o ≡ Some x) × (f x ≡ Some y)
and_then_some f None y e = absurd (cc)
and_then_some f (Some x) y e = (x, refl, e)

map_some : {A B : Type 0} (f : A → B) (o : Option A) (y : B) → option_map f o ≡ Some y → (x : A) × (o ≡ Some x) × (f x ≡ y)
map_some f None y e = absurd (cc)
map_some f (Some x) y e = (x, refl, cc)

appropriate_some : (o : Option ℕ) (f g : ℕ) → (if is_some o then Some f else None) ≡ Some g → (r : ℕ) × (o ≡ Some r) × (f ≡ g)
appropriate_some None f g e = absurd (cc)
appropriate_some (Some r) f g e = (r, refl, cc)

-- a feature that is found so is one of the signature, and introduced above the type
feature_fits : (d : Declared) (name : List ℕ) (t f : ℕ) → IsLawful (hierarchy d) → feature_at d name t ≡ Some f → (f < (hierarchy d).features) × Above (hierarchy d) ((hierarchy d).intro f) t
unfolding hierarchy
feature_fits d name t f w e =
    let a = and_then_some (if_appropriate d t) (named d.features name) f e in
    let b = appropriate_some (approp d a.0 t) a.0 f a.2 in
    let here : (hierarchy d).approp f t ≡ Some b.0 = ap (λ (g : ℕ). approp d g t) (sym b.2) ∙ b.1 in
    ((w.approp_inside f t b.0 here).0, w.approp_intro f t b.0 here)

-- types and features that are there are as the logic asks
fit_with : (d : Declared) (e n f g : ℕ) → IsLawful (hierarchy d) → named d.types (codes "e_list") ≡ Some e → named d.types (codes "ne_list") ≡ Some n → feature_at d (codes "hd") n ≡ Some f → feature_at d (codes "tl") n ≡ Some g → FitLists (hierarchy d) (record { e_list = e; ne_list = n; hd = f; tl = g })
unfolding hierarchy
fit_with d e n f g w a b c k = record {
  e_list = named_below d.types (codes "e_list") e a;
  ne_list = named_below d.types (codes "ne_list") n b;
  hd = feature_fits d (codes "hd") n f w c;
  tl = feature_fits d (codes "tl") n g w k;
}

-- list types that are there are as the logic asks
pub lists_fit : (d : Declared) (l : ListTypes) → IsLawful (hierarchy d) → lists_in d ≡ Some l → FitLists (hierarchy d) l
lists_fit d l w e =
    let a = and_then_some (with_e_list d) (named d.types (codes "e_list")) l e in
    let b = and_then_some (with_ne_list d a.0) (named d.types (codes "ne_list")) l a.2 in
    let c = and_then_some (with_hd d a.0 b.0) (feature_at d (codes "hd") b.0) l b.2 in
    let g = map_some (λ (tl : ℕ). record { e_list = a.0; ne_list = b.0; hd = c.0; tl = tl }) (feature_at d (codes "tl") b.0) l c.2 in
    subst (λ (k : ListTypes). FitLists (hierarchy d) k) g.2 (fit_with d a.0 b.0 c.0 g.0 w a.1 b.1 c.1 g.1)

pub found_fit : (d : Declared) (o : Option ListTypes) → IsLawful (hierarchy d) → o ≡ lists_in d → IfSome o (λ l. FitLists (hierarchy d) l)
found_fit d None w e = tt
found_fit d (Some l) w e = lists_fit d l w (sym e)

pub ruleset list_names = (e_list_name, ne_list_name, hd_name, tl_name)
