-- Each test of what can be wrong decides the fault that it is about.
use Rattle.std.proofs.Common.{◌≡◌, sym, ◌∙◌, subst, refl, ℕ, ◌<◌, Bool, true, false, Option, Some, None, [], ◌∷◌, length, inl, inr, eqb}
use Rattle.std.specs.Prelude.{◌&&◌, not, is_none}
use Rattle.std.specs.Bool.{Decides}
use Rattle.std.proofs.lemmas.Bool.{and_parts, and_from, not-true, not_from_false, not_from_true, false_from_ne_true, true≢false, ltb-true, lt-ltb, eqb-true, eq-eqb}
use Rattle.ale_relation.specs.Paths.{Leads}
use Rattle.ale_declared.specs.Lists.{first, every}
use Rattle.ale_declared.specs.Declarations.{Declared}
use Rattle.ale_declared.specs.Numbering.{IsWellNumbered}
use Rattle.ale_hierarchy.specs.Limits.{most_nodes}
use Rattle.ale_hierarchy.specs.Order.{IsAbove, is_above, all_types, is_common, join, restrictions, approp, mentioning, is_ext, size}
use Rattle.ale_hierarchy.specs.Accepted.{restriction_edges}
use Rattle.ale_hierarchy.specs.Faults.{some, has_any, is_cyclic, lacks_join, lacks_intro, clashes, loops, is_not_maximal, is_too_large}
use Rattle.ale_hierarchy.specs.Refusals.{LacksJoin, LacksIntro, Clashes, IsNotMaximal, IsTooLarge}
use Rattle.ale_declared.proofs.ListLemmas.{upto_has, upto_below, is_among_has, is_among_from}
use Rattle.ale_hierarchy.proofs.PathLemmas.{HasNoCycle, leads_through-Decides}
use Rattle.ale_hierarchy.proofs.OrderLemmas.{IsAbove_inside, IsAbove_from_inside, is_above_to, is_above_from}
use Rattle.ale_hierarchy.proofs.JoinLemmas.{HasJoins, is_common_to, join_to, join_from, none_from}
use Rattle.ale_hierarchy.proofs.AppropLemmas.{HasRestrictions, restrictions_has, Has-restrictions, approp_to, approp_from, first_introduces, first_introduces_none}
use Rattle.ale_hierarchy.proofs.AcceptedLemmas.{HasJoins-from, HasRestrictions-from, EndsBelow-restriction_edges}
use Rattle.ale_hierarchy.proofs.Acceptance.{some_from, some_at, has_any_from, has_any_at, none_at, joins_test, restrictions_test}

-- what is decided not to hold
pub refuted : {P : Type 0} (b : Bool) → Decides b P → b ≡ false → P → ⊥
refuted b decides e p = both b e (decides.1 p)
  where
    both : (b : Bool) → b ≡ false → b ≡ true → ⊥
    both b e h = true≢false (sym h ∙ e)

pub refuting : {P : Type 0} (b : Bool) → Decides b P → (P → ⊥) → b ≡ false
refuting b decides free = false_from_ne_true b (λ h. free (decides.0 h))

none_of : (o : Option ℕ) → o ≡ None → is_none o ≡ true
none_of o e = rw e refl

pub cycle_decides : (d : Declared) (t : ℕ) → IsWellNumbered d → Decides (is_cyclic d t) (Leads d.edges t t)
cycle_decides d t w = leads_through-Decides d.edges (length d.types) t t w.edges

pub loop_decides : (d : Declared) (t : ℕ) → IsWellNumbered d → Decides (loops d t) (Leads (restriction_edges d) t t)
loop_decides d t w = leads_through-Decides (restriction_edges d) (length d.types) t t (EndsBelow-restriction_edges d w)

-- ---- joins

LacksJoin-from : (d : Declared) (a b : ℕ) → IsWellNumbered d → HasNoCycle d.edges → lacks_join d a b ≡ true → LacksJoin d a b
LacksJoin-from d a b w free h =
    let parts = and_parts (some (is_common d (a ∷ b ∷ [])) (all_types d)) (is_none (join d a b)) h in
    let found = some_at (is_common d (a ∷ b ∷ [])) (all_types d) parts.0 in
    let above = is_common_to d (a ∷ b ∷ []) found.0 found.2 in
    let inside = upto_below (length d.types) found.0 found.1 in
    record {
      common = found.0;
      left = above a (inl refl);
      right = above b (inr (inl refl));
      inside = inside;
      none = λ j is. not_both (join d a b) j (none_at (join d a b) parts.1)
          (join_from d a b j w free (is_inside d a found.0 j w (above a (inl refl)) inside is.left) is);
    }
  where
    not_both : (o : Option ℕ) (x : ℕ) → o ≡ None → o ≡ Some x → ⊥
    not_both o x p q = absurd cc

    is_inside : (d : Declared) (a c j : ℕ) → IsWellNumbered d → IsAbove d a c → c < length d.types → IsAbove d a j → j < length d.types
    is_inside d a c j w down inside left = IsAbove_inside d a j w left (IsAbove_from_inside d a c w down inside)

LacksJoin_to : (d : Declared) (a b : ℕ) → IsWellNumbered d → LacksJoin d a b → lacks_join d a b ≡ true
LacksJoin_to d a b w l =
    and_from (some (is_common d (a ∷ b ∷ [])) (all_types d)) (is_none (join d a b))
    (some_from (is_common d (a ∷ b ∷ [])) (all_types d) l.common (upto_has (length d.types) l.common l.inside)
    (and_from (is_above d a l.common) (is_above d b l.common && true) (is_above_from d a l.common w l.left)
    (and_from (is_above d b l.common) true (is_above_from d b l.common w l.right) refl)))
    (none_of (join d a b) (none_from (join d a b) (λ j e. l.none j (join_to d a b j w e).1)))

pub join_decides : (d : Declared) (a b : ℕ) → IsWellNumbered d → HasNoCycle d.edges → Decides (lacks_join d a b) (LacksJoin d a b)
join_decides d a b w free = (LacksJoin-from d a b w free, LacksJoin_to d a b w)

-- where no two types lack a join, all have one that can
pub HasJoins-tested : (d : Declared) → IsWellNumbered d → ((a b : ℕ) → a < length d.types → b < length d.types → lacks_join d a b ≡ false) → HasJoins d
HasJoins-tested d w none = HasJoins-from d w (λ x y c p q r left right. joins_test d x y c w (none x y p q) r left right)

pub HasJoins-lacking : (d : Declared) → IsWellNumbered d → HasNoCycle d.edges → ((a b : ℕ) → LacksJoin d a b → ⊥) → HasJoins d
HasJoins-lacking d w free none = HasJoins-tested d w (λ a b p q. refuting (lacks_join d a b) (join_decides d a b w free) (none a b))

-- ---- the type that introduces a feature

pub intro_decides : (d : Declared) (f : ℕ) → IsWellNumbered d → f < length d.features → Decides (lacks_intro d f) (LacksIntro d f)
intro_decides d f w listed = (
  λ h. record {
    inside = listed;
    none = λ t is. first_introduces_none d f t w (none_at (first (λ t. every (λ u. is_above d t u) (mentioning d f)) (mentioning d f)) h) is;
  },
  λ l. none_of (first (λ t. every (λ u. is_above d t u) (mentioning d f)) (mentioning d f))
      (none_from (first (λ t. every (λ u. is_above d t u) (mentioning d f)) (mentioning d f)) (λ t e. l.none t (first_introduces d f t e))),
)

-- ---- restrictions

Clashes-from : (d : Declared) (t f : ℕ) → IsWellNumbered d → HasNoCycle d.edges → clashes d t f ≡ true → Clashes d t f
Clashes-from d t f w free h =
    let parts = and_parts (has_any (restrictions d f t)) (is_none (approp d f t)) h in
    let one = has_any_at (restrictions d f t) parts.0 in
    let m = restrictions_has d f t one.0 one.1 in
    record {
      mention = m.0;
      applies = m.1;
      none = λ r is. not_both (approp d f t) r (none_at (approp d f t) parts.1) (approp_from d f t r w free is);
    }
  where
    not_both : (o : Option ℕ) (x : ℕ) → o ≡ None → o ≡ Some x → ⊥
    not_both o x p q = absurd cc

Clashes_to : (d : Declared) (t f : ℕ) → IsWellNumbered d → Clashes d t f → clashes d t f ≡ true
Clashes_to d t f w c =
    and_from (has_any (restrictions d f t)) (is_none (approp d f t))
    (has_any_from (restrictions d f t) c.mention.restriction (Has-restrictions d f t c.mention w c.applies))
    (none_of (approp d f t) (none_from (approp d f t) (λ r e. c.none r (approp_to d f t r w e))))

pub clash_decides : (d : Declared) (t f : ℕ) → IsWellNumbered d → HasNoCycle d.edges → Decides (clashes d t f) (Clashes d t f)
clash_decides d t f w free = (Clashes-from d t f w free, Clashes_to d t f w)

-- where they clash, they are of a type and a feature
pub Clashes_inside : (d : Declared) (t f : ℕ) → IsWellNumbered d → Clashes d t f → (t < length d.types) × (f < length d.features)
Clashes_inside d t f w c =
    let ends = w.mentions c.mention c.applies.mentioned in
    (IsAbove_inside d c.mention.at t w c.applies.above ends.0, subst (λ z. z < length d.features) c.applies.feature ends.1)

pub HasRestrictions-tested : (d : Declared) → IsWellNumbered d → ((t f : ℕ) → t < length d.types → f < length d.features → clashes d t f ≡ false) → HasRestrictions d
HasRestrictions-tested d w none = HasRestrictions-from d w (λ f t m p q applies. restrictions_test d f t m w (none t f q p) applies)

-- ---- extensional types

IsNotMaximal-from : (d : Declared) (t : ℕ) → is_not_maximal d t ≡ true → IsNotMaximal d t
IsNotMaximal-from d t h =
    let parts = and_parts (is_ext d t) (some (λ u. not (eqb t u) && is_above d t u) (all_types d)) h in
    let other = some_at (λ u. not (eqb t u) && is_above d t u) (all_types d) parts.1 in
    let both = and_parts (not (eqb t other.0)) (is_above d t other.0) other.2 in
    record {
      listed = is_among_has t d.ext parts.0;
      other = other.0;
      above = is_above_to d t other.0 both.1;
      apart = λ same. true≢false (sym (eq-eqb t other.0 same) ∙ not-true (eqb t other.0) both.0);
    }

IsNotMaximal_to : (d : Declared) (t : ℕ) → IsWellNumbered d → IsNotMaximal d t → is_not_maximal d t ≡ true
IsNotMaximal_to d t w n =
    and_from (is_ext d t) (some (λ u. not (eqb t u) && is_above d t u) (all_types d)) (is_among_from t d.ext n.listed)
    (some_from (λ u. not (eqb t u) && is_above d t u) (all_types d) n.other
    (upto_has (length d.types) n.other (IsAbove_inside d t n.other w n.above (w.ext t n.listed)))
    (and_from (not (eqb t n.other)) (is_above d t n.other)
    (not_from_false (eqb t n.other) (false_from_ne_true (eqb t n.other) (λ e. n.apart (eqb-true t n.other e))))
    (is_above_from d t n.other w n.above)))

pub ext_decides : (d : Declared) (t : ℕ) → IsWellNumbered d → Decides (is_not_maximal d t) (IsNotMaximal d t)
ext_decides d t w = (IsNotMaximal-from d t, IsNotMaximal_to d t w)

-- ---- sizes

pub fill_decides : (d : Declared) (t : ℕ) → t < length d.types → Decides (is_too_large d t) (IsTooLarge d t)
fill_decides d t below = (
  λ h. record { inside = below; large = ltb-true most_nodes (size d t) h },
  λ l. lt-ltb most_nodes (size d t) l.large,
)

-- another type below t is found, and is not where there is none
pub some_other : (d : Declared) (t u : ℕ) → u < length d.types → (t ≡ u → ⊥) → is_above d t u ≡ true → false ≡ not (some (λ u. not (eqb t u) && is_above d t u) (all_types d))
some_other d t u low apart above =
    sym (not_from_true (some (λ u. not (eqb t u) && is_above d t u) (all_types d))
    (some_from (λ u. not (eqb t u) && is_above d t u) (all_types d) u (upto_has (length d.types) u low)
    (and_from (not (eqb t u)) (is_above d t u) (not_from_false (eqb t u) (false_from_ne_true (eqb t u) (λ e. apart (eqb-true t u e)))) above)))

pub none_other : (d : Declared) (t : ℕ) → ((u : ℕ) → u < length d.types → (not (eqb t u) && is_above d t u) ≡ false) → true ≡ not (some (λ u. not (eqb t u) && is_above d t u) (all_types d))
none_other d t none =
    sym (not_from_false (some (λ u. not (eqb t u) && is_above d t u) (all_types d))
    (false_from_ne_true (some (λ u. not (eqb t u) && is_above d t u) (all_types d)) (λ h.
    let at = some_at (λ u. not (eqb t u) && is_above d t u) (all_types d) h in
    true≢false (sym at.2 ∙ none at.0 (upto_below (length d.types) at.0 at.1)))))
