-- The tests of `accepts` find all that can be wrong: a signature passes exactly where it is accepted.
use Rattle.std.proofs.Common.{◌≡◌, subst, refl, ℕ, ◌<◌, ◌≤◌, Bool, true, false, Option, Some, None, List, [], ◌∷◌, length, inl, inr, eqb, leb}
use Rattle.std.specs.Prelude.{◌&&◌, not, is_none, ◌↔◌}
use Rattle.std.proofs.lemmas.Bool.{both_ways, cases_Bool, and_parts, and_from, or_cases, or_left, or_right, and_cases, not-true, not_from_false, false_from_ne_true, false≢true, true≢false, ltb-false, le-ltb, leb-true, le-leb, eqb-true, eq-eqb}
use Rattle.ale_relation.specs.Has.{Has}
use Rattle.ale_relation.specs.Paths.{Leads}
use Rattle.ale_declared.specs.Lists.{first, every}
use Rattle.ale_declared.specs.Declarations.{Declared}
use Rattle.ale_declared.specs.declared.decl.Mention.{Mention}
use Rattle.ale_hierarchy.specs.Order.{Applies, is_above, leads_through, all_types, all_features, is_common, join, restrictions, approp, mentioning, is_ext, size}
use Rattle.ale_hierarchy.specs.Limits.{most_types, most_features, most_nodes}
use Rattle.ale_hierarchy.specs.Accepted.{IsAccepted, restriction_edges}
use Rattle.ale_declared.specs.Numbering.{IsWellNumbered}
use Rattle.ale_hierarchy.specs.Faults.{some, has_any, is_cyclic, lacks_join, lacks_intro, clashes, loops, is_not_maximal, is_too_large, accepts}
use Rattle.ale_declared.proofs.ListLemmas.{upto_has, upto_below, every_upto, every_upto-at, is_among_has, is_among_from}
use Rattle.ale_hierarchy.proofs.PathLemmas.{leads_through_to, Leads_through}
use Rattle.ale_hierarchy.proofs.OrderLemmas.{is_above_to}
use Rattle.ale_hierarchy.proofs.JoinLemmas.{is_common_to, join_there}
use Rattle.ale_hierarchy.proofs.AppropLemmas.{restrictions_has, Has-restrictions, approp_there, first_introduces, first_introduces_none}
use Rattle.ale_hierarchy.proofs.AcceptedLemmas.{HasNoCycle-from, HasJoins-from, HasRestrictions-from, EndsBelow-restriction_edges, ext_last-from}

-- where an element passes, `some` holds
pub some_from : {A : Type 0} (test : A → Bool) (xs : List A) (x : A) → Has xs x → test x ≡ true → some test xs ≡ true
some_from test [] x h e = absurd h
some_from test (y ∷ ys) x (inl same) e = or_left (test y) (some test ys) (subst (λ z. test z ≡ true) same e)
some_from test (y ∷ ys) x (inr there) e = or_right (test y) (some test ys) (some_from test ys x there e)

-- where `some` holds, an element passes
pub some_at : {A : Type 0} (test : A → Bool) (xs : List A) → some test xs ≡ true → (x : A) × Has xs x × (test x ≡ true)
some_at test [] h = absurd (false≢true h)
some_at test (y ∷ ys) h =
    elim (or_cases (test y) (some test ys) h) [
      | inl e ↦ (y, inl refl, e)
      | inr e ↦ let rest = some_at test ys e in (rest.0, inr rest.1, rest.2)
    ]

pub has_any_from : {A : Type 0} (xs : List A) (x : A) → Has xs x → has_any xs ≡ true
has_any_from [] x h = absurd h
has_any_from (y ∷ ys) x h = refl

pub has_any_at : {A : Type 0} (xs : List A) → has_any xs ≡ true → (x : A) × Has xs x
has_any_at [] h = absurd (false≢true h)
has_any_at (y ∷ ys) h = (y, inl refl)

-- what is there, of a test
pub there_from : (o : Option ℕ) → is_none o ≡ false → (x : ℕ) × (o ≡ Some x)
there_from None h = absurd (true≢false h)
there_from (Some x) h = (x, refl)

pub none_at : (o : Option ℕ) → is_none o ≡ true → o ≡ None
none_at None h = refl
none_at (Some x) h = absurd (false≢true h)

-- of two tests of which the first holds, the second fails where both together do
pub second_fails : (s t : Bool) → (s && t) ≡ false → s ≡ true → t ≡ false
second_fails s t h e = elim (and_cases s t h) [ inl no_s ↦ absurd (both_ways s no_s e) | inr no_t ↦ no_t ]

-- ---- from the tests

pub joins_test : (d : Declared) (a b c : ℕ) → IsWellNumbered d → lacks_join d a b ≡ false → c < length d.types → is_above d a c ≡ true → is_above d b c ≡ true → (j : ℕ) × (join d a b ≡ Some j)
joins_test d a b c w h below left right =
    there_from (join d a b) (second_fails (some (is_common d (a ∷ b ∷ [])) (all_types d)) (is_none (join d a b)) h
    (some_from (is_common d (a ∷ b ∷ [])) (all_types d) c (upto_has (length d.types) c below)
    (and_from (is_above d a c) (is_above d b c && true) left (and_from (is_above d b c) true right refl))))

pub restrictions_test : (d : Declared) (f t : ℕ) (m : Mention) → IsWellNumbered d → clashes d t f ≡ false → Applies d f t m → (r : ℕ) × (approp d f t ≡ Some r)
restrictions_test d f t m w h a =
    there_from (approp d f t) (second_fails (has_any (restrictions d f t)) (is_none (approp d f t)) h
    (has_any_from (restrictions d f t) m.restriction (Has-restrictions d f t m w a)))

pub ext_test : (d : Declared) (t u : ℕ) → is_not_maximal d t ≡ false → Has d.ext t → u < length d.types → is_above d t u ≡ true → t ≡ u
ext_test d t u h listed below above =
    elim (cases_Bool (eqb t u)) [
      | inl e ↦ eqb-true t u e
      | inr e ↦
          absurd (both_ways (some (λ u. not (eqb t u) && is_above d t u) (all_types d))
          (second_fails (is_ext d t) (some (λ u. not (eqb t u) && is_above d t u) (all_types d)) h (is_among_from t d.ext listed))
          (some_from (λ u. not (eqb t u) && is_above d t u) (all_types d) u (upto_has (length d.types) u below)
          (and_from (not (eqb t u)) (is_above d t u) (not_from_false (eqb t u) e) above)))
    ]

pub size_test : (d : Declared) (t : ℕ) → is_too_large d t ≡ false → size d t ≤ most_nodes
size_test d t h = ltb-false most_nodes (size d t) h

pub accepts_to : (d : Declared) → IsWellNumbered d → accepts d ≡ true → IsAccepted d
unfolding accepts
accepts_to d w h =
    let n = length d.types in
    let a = and_parts (leb (length d.types) most_types) _ h in
    let b = and_parts (leb (length d.features) most_features) _ a.1 in
    let cycles = and_parts (every (λ t. not (is_cyclic d t)) (all_types d)) _ b.1 in
    let joins = and_parts (every (λ a. every (λ b. not (lacks_join d a b)) (all_types d)) (all_types d)) _ cycles.1 in
    let intros = and_parts (every (λ f. not (lacks_intro d f)) (all_features d)) _ joins.1 in
    let clash = and_parts (every (λ t. every (λ f. not (clashes d t f)) (all_features d)) (all_types d)) _ intros.1 in
    let loop = and_parts (every (λ t. not (loops d t)) (all_types d)) _ clash.1 in
    let last = and_parts (every (λ t. not (is_not_maximal d t)) (all_types d)) (every (λ t. not (is_too_large d t)) (all_types d)) loop.1 in
    record {
      few_types = leb-true (length d.types) most_types a.0;
      few_features = leb-true (length d.features) most_features b.0;
      no_cycle = HasNoCycle-from d.edges n w.edges (λ t below. not-true (is_cyclic d t) (every_upto-at (λ t. not (is_cyclic d t)) n t cycles.0 below));
      joins = HasJoins-from d w (λ x y c p q r left right.
          joins_test d x y c w
          (not-true (lacks_join d x y) (every_upto-at (λ b. not (lacks_join d x b)) n y (every_upto-at (λ a. every (λ b. not (lacks_join d a b)) (all_types d)) n x joins.0 p) q))
          r left right);
      one_intro = λ f listed.
          let found = there_from (first (λ t. every (λ u. is_above d t u) (mentioning d f)) (mentioning d f))
          (not-true (lacks_intro d f) (every_upto-at (λ f. not (lacks_intro d f)) (length d.features) f intros.0 listed)) in
          (found.0, first_introduces d f found.0 found.1);
      restrictions_join = HasRestrictions-from d w (λ f t m p q applies.
          restrictions_test d f t m w
          (not-true (clashes d t f) (every_upto-at (λ f. not (clashes d t f)) (length d.features) f (every_upto-at (λ t. every (λ f. not (clashes d t f)) (all_features d)) n t clash.0 q) p))
          applies);
      no_loop = HasNoCycle-from (restriction_edges d) n (EndsBelow-restriction_edges d w) (λ t below. not-true (loops d t) (every_upto-at (λ t. not (loops d t)) n t loop.0 below));
      ext_last = ext_last-from d w (λ t u listed below above.
          ext_test d t u (not-true (is_not_maximal d t) (every_upto-at (λ t. not (is_not_maximal d t)) n t last.0 (w.ext t listed))) listed below above);
      small = λ t below. size_test d t (not-true (is_too_large d t) (every_upto-at (λ t. not (is_too_large d t)) n t last.1 below));
    }

-- ---- to the tests

pub acyclic : (edges : List (ℕ × ℕ)) (n t : ℕ) → (Leads edges t t → ⊥) → leads_through edges n t t ≡ false
acyclic edges n t free = false_from_ne_true (leads_through edges n t t) (λ h. free (Leads_through edges n t t (leads_through_to edges n t t h)))

pub has_join : (d : Declared) (a b : ℕ) → IsWellNumbered d → IsAccepted d → lacks_join d a b ≡ false
has_join d a b w accepted = false_from_ne_true (lacks_join d a b) (λ h.
    let parts = and_parts (some (is_common d (a ∷ b ∷ [])) (all_types d)) (is_none (join d a b)) h in
    let common = some_at (is_common d (a ∷ b ∷ [])) (all_types d) parts.0 in
    let below = upto_below (length d.types) common.0 common.1 in
    let above = is_common_to d (a ∷ b ∷ []) common.0 common.2 in
    let found = join_there d a b common.0 w accepted.no_cycle accepted.joins below (above a (inl refl)) (above b (inr (inl refl))) in
    not_both (join d a b) found.0 (none_at (join d a b) parts.1) found.1)
  where
    not_both : (o : Option ℕ) (x : ℕ) → o ≡ None → o ≡ Some x → ⊥
    not_both o x p q = absurd cc

pub has_intro : (d : Declared) (f : ℕ) → IsWellNumbered d → IsAccepted d → f < length d.features → lacks_intro d f ≡ false
has_intro d f w accepted listed = false_from_ne_true (lacks_intro d f) (λ h.
    let one = accepted.one_intro f listed in
    first_introduces_none d f one.0 w (none_at (first (λ t. every (λ u. is_above d t u) (mentioning d f)) (mentioning d f)) h) one.1)

pub has_no_clash : (d : Declared) (t f : ℕ) → IsWellNumbered d → IsAccepted d → t < length d.types → clashes d t f ≡ false
has_no_clash d t f w accepted below = false_from_ne_true (clashes d t f) (λ h.
    let parts = and_parts (has_any (restrictions d f t)) (is_none (approp d f t)) h in
    let one = has_any_at (restrictions d f t) parts.0 in
    let m = restrictions_has d f t one.0 one.1 in
    let found = approp_there d f t m.0 w accepted.no_cycle accepted.restrictions_join below m.1 in
    not_both (approp d f t) found.0 (none_at (approp d f t) parts.1) found.1)
  where
    not_both : (o : Option ℕ) (x : ℕ) → o ≡ None → o ≡ Some x → ⊥
    not_both o x p q = absurd cc

pub is_maximal : (d : Declared) (t : ℕ) → IsAccepted d → is_not_maximal d t ≡ false
is_maximal d t accepted = false_from_ne_true (is_not_maximal d t) (λ h.
    let parts = and_parts (is_ext d t) (some (λ u. not (eqb t u) && is_above d t u) (all_types d)) h in
    let other = some_at (λ u. not (eqb t u) && is_above d t u) (all_types d) parts.1 in
    let both = and_parts (not (eqb t other.0)) (is_above d t other.0) other.2 in
    let same = accepted.ext_last t other.0 (is_among_has t d.ext parts.0) (is_above_to d t other.0 both.1) in
    both_ways (eqb t other.0) (not-true (eqb t other.0) both.0) (eq-eqb t other.0 same))

pub is_small : (d : Declared) (t : ℕ) → size d t ≤ most_nodes → is_too_large d t ≡ false
is_small d t small = le-ltb most_nodes (size d t) small

pub accepts_from : (d : Declared) → IsWellNumbered d → IsAccepted d → accepts d ≡ true
unfolding accepts
accepts_from d w a =
    let n = length d.types in
    and_from (leb (length d.types) most_types) _ (le-leb (length d.types) most_types a.few_types)
    (and_from (leb (length d.features) most_features) _ (le-leb (length d.features) most_features a.few_features)
    (and_from (every (λ t. not (is_cyclic d t)) (all_types d)) _ (every_upto (λ t. not (is_cyclic d t)) n (λ t below. not_from_false (is_cyclic d t) (acyclic d.edges n t (a.no_cycle t))))
    (and_from (every (λ a. every (λ b. not (lacks_join d a b)) (all_types d)) (all_types d)) _ (every_upto (λ a. every (λ b. not (lacks_join d a b)) (all_types d)) n (λ x p. every_upto (λ b. not (lacks_join d x b)) n (λ y q. not_from_false (lacks_join d x y) (has_join d x y w a))))
    (and_from (every (λ f. not (lacks_intro d f)) (all_features d)) _ (every_upto (λ f. not (lacks_intro d f)) (length d.features) (λ f listed. not_from_false (lacks_intro d f) (has_intro d f w a listed)))
    (and_from (every (λ t. every (λ f. not (clashes d t f)) (all_features d)) (all_types d)) _ (every_upto (λ t. every (λ f. not (clashes d t f)) (all_features d)) n (λ t below. every_upto (λ f. not (clashes d t f)) (length d.features) (λ f listed. not_from_false (clashes d t f) (has_no_clash d t f w a below))))
    (and_from (every (λ t. not (loops d t)) (all_types d)) _ (every_upto (λ t. not (loops d t)) n (λ t below. not_from_false (loops d t) (acyclic (restriction_edges d) n t (a.no_loop t))))
    (and_from (every (λ t. not (is_not_maximal d t)) (all_types d)) (every (λ t. not (is_too_large d t)) (all_types d)) (every_upto (λ t. not (is_not_maximal d t)) n (λ t below. not_from_false (is_not_maximal d t) (is_maximal d t a)))
    (every_upto (λ t. not (is_too_large d t)) n (λ t below. not_from_false (is_too_large d t) (is_small d t (a.small t below)))))))))))

-- a declared signature passes the tests exactly where it is accepted
pub accepts_is : (d : Declared) → IsWellNumbered d → (accepts d ≡ true) ↔ IsAccepted d
accepts_is d w = (accepts_to d w, accepts_from d w)
