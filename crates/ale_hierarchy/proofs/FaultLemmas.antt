-- Each part of `fault_of` finds nothing exactly where the part has no fault, and else the first that shows it.
use Rattle.std.proofs.Common.{◌≡◌, sym, ◌∙◌, subst, refl, ℕ, ◌<◌, ◌≤◌, Bool, true, Some, None, [], ◌∷◌, length, get_or, inl, inr, arith}
use Rattle.std.specs.Prelude.{◌&&◌, ◌⊎◌, nat_lt}
use Rattle.std.specs.Bool.{Decides}
use Rattle.std.proofs.lemmas.Bool.{cases_Bool, and_from, ltb-false, le-ltb, ltb-true, lt-ltb}
use Rattle.ale_relation.specs.Paths.{Leads}
use Rattle.ale_declared.specs.Lists.{Has, upto, first, every, is_among}
use Rattle.ale_declared.specs.Declarations.{Declared}
use Rattle.ale_declared.specs.Numbering.{IsWellNumbered}
use Rattle.ale_hierarchy.specs.Limits.{most_types, most_features}
use Rattle.ale_hierarchy.specs.Order.{IsAbove, is_above, all_types, is_common, mentioning}
use Rattle.ale_hierarchy.specs.Accepted.{restriction_edges}
use Rattle.ale_hierarchy.specs.Faults.{when, first_answer, is_cyclic, lacks_join, lacks_intro, clashes, loops, is_not_maximal, is_too_large, tops, common_subtypes, mentioners, no_join, two_intros, limit_fault, cycle_fault, join_fault, intro_fault, clash_fault, loop_fault, ext_fault, fill_fault}
use Rattle.ale_hierarchy.specs.Refusals.{IsFirst, IsFirstPair, AreFirstTwo, LacksJoin, IsMostGeneralCommon, Mentions, LacksIntro, IsMostGeneralMention, Clashes, IsNotMaximal, IsTooLarge, KeepsLimits}
use Rattle.ale_hierarchy.specs.declared.fault.Fault.{Fault}
use Rattle.ale_hierarchy.specs.declared.fault.Fault.TheVariants.{TooManyTypes, TooManyFeatures, SubCycle, ValueClash, Loop, ExtNotMaximal, FillTooLarge}
use Rattle.ale_declared.proofs.ListLemmas.{upto_has, Has-filter, filter_has, every_at, first_none_from, is_among_has, is_among_from}
use Rattle.ale_hierarchy.proofs.PathLemmas.{HasNoCycle}
use Rattle.ale_hierarchy.proofs.OrderLemmas.{IsAbove_inside, IsAbove_from_inside, is_above_to, is_above_from}
use Rattle.ale_hierarchy.proofs.JoinLemmas.{is_common_to}
use Rattle.ale_hierarchy.proofs.AppropLemmas.{mentioning_has, Has-mentioning}
use Rattle.ale_hierarchy.proofs.AcceptedLemmas.{HasNoCycle-from, EndsBelow-restriction_edges}
use Rattle.ale_hierarchy.proofs.AnswerLemmas.{or_after, or_first, or_found, or_nothing, when_found, when_nothing, when_true, when_false, test_clear, test_first, test_none_at, test_at, PassesFirst, first_pair, pairs_clear, pairs_none_at, pairs_first, pairs_at, PairPasses}
use Rattle.ale_hierarchy.proofs.FaultTests.{refuted, refuting, cycle_decides, loop_decides, join_decides, intro_decides, clash_decides, Clashes_inside, ext_decides, fill_decides}
use Rattle.ale_hierarchy.proofs.FirstTwo.{IsHighest, passing, two_tops, AreFirstTwo-as}

-- ---- first by number

-- what passes first is the first of what the test decides
IsFirst-from : {B : Type 0} (P : ℕ → Type 0) (test : ℕ → Bool) (make : ℕ → B) (n : ℕ) (y : B) → ((t : ℕ) → t < n → Decides (test t) (P t)) → (g : PassesFirst test make n y) → IsFirst P g.number
IsFirst-from P test make n y decides g =
    let low = g.below in
    record {
      holds = (decides g.number g.below).0 g.passes;
      none_before = λ m less p. refuted (test m) (decides m (omega arith)) (g.none_before m less) p;
    }

IsFirst_to : {B : Type 0} (P : ℕ → Type 0) (test : ℕ → Bool) (make : ℕ → B) (n t : ℕ) → ((t : ℕ) → t < n → Decides (test t) (P t)) → t < n → IsFirst P t → first_answer (λ t. when (test t) (make t)) (upto n) ≡ Some (make t)
IsFirst_to P test make n t decides low first_t =
    test_first test make n t low ((decides t low).1 first_t.holds) (λ i less. refuting (test i) (decides i (omega arith)) (first_t.none_before i less))

IsFirstPair-from : {B : Type 0} (P : ℕ → ℕ → Type 0) (test : ℕ → ℕ → Bool) (make : ℕ → ℕ → B) (n m : ℕ) (y : B) → ((a b : ℕ) → Decides (test a b) (P a b)) → ((a b : ℕ) → P a b → (a < n) × (b < m)) → (g : PairPasses test make n m y) → IsFirstPair P g.one g.other
IsFirstPair-from P test make n m y decides inside g = record {
  holds = (decides g.one g.other).0 g.passes;
  none_before = λ u v before p. refuted (test u v) (decides u v) (g.none_before u v (inside u v p).1 before) p;
}

IsFirstPair_to : {B : Type 0} (P : ℕ → ℕ → Type 0) (test : ℕ → ℕ → Bool) (make : ℕ → ℕ → B) (n m a b : ℕ) → ((a b : ℕ) → Decides (test a b) (P a b)) → ((a b : ℕ) → P a b → (a < n) × (b < m)) → IsFirstPair P a b → first_pair test make n m ≡ Some (make a b)
IsFirstPair_to P test make n m a b decides inside pair =
    let low = inside a b pair.holds in
    pairs_first test make n m a b low.0 low.1 ((decides a b).1 pair.holds) (λ x y p q before. refuting (test x y) (decides x y) (pair.none_before x y before))

-- ---- the limits

pub limit_none : (d : Declared) → limit_fault d ≡ None → KeepsLimits d
unfolding limit_fault
limit_none d h =
    let parts = or_nothing (when (nat_lt most_types (length d.types)) TooManyTypes) (when (nat_lt most_features (length d.features)) TooManyFeatures) h in
    record {
      few_types = ltb-false most_types (length d.types) (when_nothing (nat_lt most_types (length d.types)) TooManyTypes parts.0);
      few_features = ltb-false most_features (length d.features) (when_nothing (nat_lt most_features (length d.features)) TooManyFeatures parts.1);
    }

pub limit_clear : (d : Declared) → KeepsLimits d → limit_fault d ≡ None
unfolding limit_fault
limit_clear d k =
    or_after (when (nat_lt most_types (length d.types)) TooManyTypes) (when (nat_lt most_features (length d.features)) TooManyFeatures)
    (when_false (nat_lt most_types (length d.types)) TooManyTypes (le-ltb most_types (length d.types) k.few_types))
    ∙ when_false (nat_lt most_features (length d.features)) TooManyFeatures (le-ltb most_features (length d.features) k.few_features)

pub limit_types : (d : Declared) → most_types < length d.types → limit_fault d ≡ Some TooManyTypes
unfolding limit_fault
limit_types d many =
    or_first (when (nat_lt most_types (length d.types)) TooManyTypes) (when (nat_lt most_features (length d.features)) TooManyFeatures) TooManyTypes
    (when_true (nat_lt most_types (length d.types)) TooManyTypes (lt-ltb most_types (length d.types) many))

pub limit_features : (d : Declared) → length d.types ≤ most_types → most_features < length d.features → limit_fault d ≡ Some TooManyFeatures
unfolding limit_fault
limit_features d few many =
    or_after (when (nat_lt most_types (length d.types)) TooManyTypes) (when (nat_lt most_features (length d.features)) TooManyFeatures)
    (when_false (nat_lt most_types (length d.types)) TooManyTypes (le-ltb most_types (length d.types) few))
    ∙ when_true (nat_lt most_features (length d.features)) TooManyFeatures (lt-ltb most_features (length d.features) many)

-- which of the limits is past
pub limit_some : (d : Declared) (y : Fault) → limit_fault d ≡ Some y → ((y ≡ TooManyTypes) × (most_types < length d.types)) ⊎ ((y ≡ TooManyFeatures) × (length d.types ≤ most_types) × (most_features < length d.features))
unfolding limit_fault
limit_some d y h =
    elim (or_found (when (nat_lt most_types (length d.types)) TooManyTypes) (when (nat_lt most_features (length d.features)) TooManyFeatures) y h) [
      | inl found ↦
          let is = when_found (nat_lt most_types (length d.types)) TooManyTypes y found in
          inl (sym is.1, ltb-true most_types (length d.types) is.0)
      | inr found ↦
          let is = when_found (nat_lt most_features (length d.features)) TooManyFeatures y found.1 in
          inr (sym is.1, ltb-false most_types (length d.types) (when_nothing (nat_lt most_types (length d.types)) TooManyTypes found.0), ltb-true most_features (length d.features) is.0)
    ]

-- ---- cycles

pub cycle_none : (d : Declared) → IsWellNumbered d → cycle_fault d ≡ None → (t : ℕ) → Leads d.edges t t → ⊥
unfolding cycle_fault
cycle_none d w h = HasNoCycle-from d.edges (length d.types) w.edges (λ t low. test_none_at (λ t. is_cyclic d t) SubCycle (length d.types) t h low)

pub cycle_clear : (d : Declared) → IsWellNumbered d → ((t : ℕ) → Leads d.edges t t → ⊥) → cycle_fault d ≡ None
unfolding cycle_fault
cycle_clear d w free = test_clear (λ t. is_cyclic d t) SubCycle (length d.types) (λ t low. refuting (is_cyclic d t) (cycle_decides d t w) (free t))

pub cycle_some : (d : Declared) (y : Fault) → IsWellNumbered d → cycle_fault d ≡ Some y → (t : ℕ) × (SubCycle t ≡ y) × IsFirst (λ t. Leads d.edges t t) t
unfolding cycle_fault
cycle_some d y w h =
    let g = test_at (λ t. is_cyclic d t) SubCycle (length d.types) y h in
    (g.number, g.made, IsFirst-from (λ t. Leads d.edges t t) (λ t. is_cyclic d t) SubCycle (length d.types) y (λ t low. cycle_decides d t w) g)

pub cycle_from : (d : Declared) (t : ℕ) → IsWellNumbered d → IsFirst (λ t. Leads d.edges t t) t → cycle_fault d ≡ Some (SubCycle t)
unfolding cycle_fault
cycle_from d t w h =
    IsFirst_to (λ t. Leads d.edges t t) (λ t. is_cyclic d t) SubCycle (length d.types) t (λ t low. cycle_decides d t w) (w.edges t h.holds.0 h.holds.1).0 h

-- ---- joins

LacksJoin_inside : (d : Declared) (a b : ℕ) → IsWellNumbered d → LacksJoin d a b → (a < length d.types) × (b < length d.types)
LacksJoin_inside d a b w l = (IsAbove_from_inside d a l.common w l.left l.inside, IsAbove_from_inside d b l.common w l.right l.inside)

pub join_none_lacks : (d : Declared) → IsWellNumbered d → HasNoCycle d.edges → join_fault d ≡ None → (a b : ℕ) → LacksJoin d a b → ⊥
unfolding join_fault
join_none_lacks d w free h a b l =
    let low = LacksJoin_inside d a b w l in
    refuted (lacks_join d a b) (join_decides d a b w free) (pairs_none_at (lacks_join d) (no_join d) (length d.types) (length d.types) a b h low.0 low.1) l

pub join_clear : (d : Declared) → IsWellNumbered d → HasNoCycle d.edges → ((a b : ℕ) → LacksJoin d a b → ⊥) → join_fault d ≡ None
unfolding join_fault
join_clear d w free none =
    pairs_clear (lacks_join d) (no_join d) (length d.types) (length d.types) (λ a b p q. refuting (lacks_join d a b) (join_decides d a b w free) (none a b))

-- a type below two others is a common subtype
is_common_pair : (d : Declared) (a b c : ℕ) → IsWellNumbered d → IsAbove d a c → IsAbove d b c → is_common d (a ∷ b ∷ []) c ≡ true
is_common_pair d a b c w left right =
    and_from (is_above d a c) (is_above d b c && true) (is_above_from d a c w left) (and_from (is_above d b c) true (is_above_from d b c w right) refl)

-- the most general common subtypes are the highest of those
MostGeneralCommon-from : (d : Declared) (a b t : ℕ) → IsWellNumbered d → IsHighest d (is_common d (a ∷ b ∷ [])) t → IsMostGeneralCommon d a b t
MostGeneralCommon-from d a b t w h =
    let above = is_common_to d (a ∷ b ∷ []) t h.passes in
    record {
      left = above a (inl refl);
      right = above b (inr (inl refl));
      inside = h.below;
      most_general = λ e left right up. h.highest e (IsAbove_from_inside d e t w up h.below) (is_common_pair d a b e w left right) (is_above_from d e t w up);
    }

MostGeneralCommon_to : (d : Declared) (a b t : ℕ) → IsWellNumbered d → IsMostGeneralCommon d a b t → IsHighest d (is_common d (a ∷ b ∷ [])) t
MostGeneralCommon_to d a b t w h = record {
  below = h.inside;
  passes = is_common_pair d a b t w h.left h.right;
  highest = λ u low is up.
      let above = is_common_to d (a ∷ b ∷ []) u is in
      h.most_general u (above a (inl refl)) (above b (inr (inl refl))) (is_above_to d u t up);
}

-- without a least common subtype none of the common subtypes is above all
none_least : (d : Declared) (a b : ℕ) → IsWellNumbered d → LacksJoin d a b → first (λ t. every (λ u. is_above d t u) (passing d (is_common d (a ∷ b ∷ [])))) (passing d (is_common d (a ∷ b ∷ []))) ≡ None
none_least d a b w l =
    first_none_from (λ t. every (λ u. is_above d t u) (passing d (is_common d (a ∷ b ∷ [])))) (passing d (is_common d (a ∷ b ∷ []))) (λ x k.
    elim (cases_Bool (every (λ u. is_above d x u) (passing d (is_common d (a ∷ b ∷ []))))) [
      | inr e ↦ e
      | inl e ↦
          let at = filter_has (is_common d (a ∷ b ∷ [])) (all_types d) x k in
          let above = is_common_to d (a ∷ b ∷ []) x at.1 in
          let low = LacksJoin_inside d a b w l in
          absurd (l.none x (record {
            left = above a (inl refl);
            right = above b (inr (inl refl));
            least = λ c left right.
                is_above_to d x c (every_at (λ u. is_above d x u) (passing d (is_common d (a ∷ b ∷ []))) c e
                (Has-filter (is_common d (a ∷ b ∷ [])) (all_types d) c (upto_has (length d.types) c (IsAbove_inside d a c w left low.0)) (is_common_pair d a b c w left right)));
          }))
    ])

pub join_tops : (d : Declared) (a b : ℕ) → IsWellNumbered d → HasNoCycle d.edges → LacksJoin d a b → AreFirstTwo (IsMostGeneralCommon d a b) (get_or (tops d (common_subtypes d a b)) 0 0) (get_or (tops d (common_subtypes d a b)) 1 0)
join_tops d a b w free l =
    AreFirstTwo-as (IsHighest d (is_common d (a ∷ b ∷ []))) (IsMostGeneralCommon d a b) (get_or (tops d (common_subtypes d a b)) 0 0) (get_or (tops d (common_subtypes d a b)) 1 0)
    (λ x h. MostGeneralCommon-from d a b x w h) (λ x h. MostGeneralCommon_to d a b x w h)
    (two_tops d (is_common d (a ∷ b ∷ [])) l.common w free l.inside (is_common_pair d a b l.common w l.left l.right) (none_least d a b w l))

pub join_some : (d : Declared) (y : Fault) → IsWellNumbered d → HasNoCycle d.edges → join_fault d ≡ Some y → (a b : ℕ) × (no_join d a b ≡ y) × IsFirstPair (LacksJoin d) a b
unfolding join_fault
join_some d y w free h =
    let g = pairs_at (lacks_join d) (no_join d) (length d.types) (length d.types) y h in
    (g.one, g.other, g.made, IsFirstPair-from (LacksJoin d) (lacks_join d) (no_join d) (length d.types) (length d.types) y (λ a b. join_decides d a b w free) (λ a b l. LacksJoin_inside d a b w l) g)

pub join_from_pair : (d : Declared) (a b : ℕ) → IsWellNumbered d → HasNoCycle d.edges → IsFirstPair (LacksJoin d) a b → join_fault d ≡ Some (no_join d a b)
unfolding join_fault
join_from_pair d a b w free h =
    IsFirstPair_to (LacksJoin d) (lacks_join d) (no_join d) (length d.types) (length d.types) a b (λ a b. join_decides d a b w free) (λ a b l. LacksJoin_inside d a b w l) h

-- ---- the types that introduce features

pub intro_none : (d : Declared) → IsWellNumbered d → intro_fault d ≡ None → (f : ℕ) → LacksIntro d f → ⊥
unfolding intro_fault
intro_none d w h f l = refuted (lacks_intro d f) (intro_decides d f w l.inside) (test_none_at (lacks_intro d) (two_intros d) (length d.features) f h l.inside) l

pub intro_clear : (d : Declared) → IsWellNumbered d → ((f : ℕ) → LacksIntro d f → ⊥) → intro_fault d ≡ None
unfolding intro_fault
intro_clear d w none = test_clear (lacks_intro d) (two_intros d) (length d.features) (λ f low. refuting (lacks_intro d f) (intro_decides d f w low) (none f))

Mentions-among : (d : Declared) (f t : ℕ) → is_among t (mentioning d f) ≡ true → Mentions d f t
Mentions-among d f t h =
    let m = mentioning_has d f t (is_among_has t (mentioning d f) h) in
    record { mention = m.0; listed = m.1; feature = m.2; at = sym m.3 }

among_Mentions : (d : Declared) (f t : ℕ) → Mentions d f t → is_among t (mentioning d f) ≡ true
among_Mentions d f t m = is_among_from t (mentioning d f) (subst (λ z. Has (mentioning d f) z) m.at (Has-mentioning d f m.mention m.listed m.feature))

Mentions_inside : (d : Declared) (f t : ℕ) → IsWellNumbered d → Mentions d f t → t < length d.types
Mentions_inside d f t w m = subst (λ z. z < length d.types) m.at (w.mentions m.mention m.listed).0

MostGeneralMention-from : (d : Declared) (f t : ℕ) → IsWellNumbered d → IsHighest d (λ u. is_among u (mentioning d f)) t → IsMostGeneralMention d f t
MostGeneralMention-from d f t w h = record {
  mentions = Mentions-among d f t h.passes;
  most_general = λ u m up. h.highest u (Mentions_inside d f u w m) (among_Mentions d f u m) (is_above_from d u t w up);
}

MostGeneralMention_to : (d : Declared) (f t : ℕ) → IsWellNumbered d → IsMostGeneralMention d f t → IsHighest d (λ u. is_among u (mentioning d f)) t
MostGeneralMention_to d f t w h = record {
  below = Mentions_inside d f t w h.mentions;
  passes = among_Mentions d f t h.mentions;
  highest = λ u low is up. h.most_general u (Mentions-among d f u is) (is_above_to d u t up);
}

none_introduces : (d : Declared) (f : ℕ) → IsWellNumbered d → LacksIntro d f → first (λ t. every (λ u. is_above d t u) (passing d (λ u. is_among u (mentioning d f)))) (passing d (λ u. is_among u (mentioning d f))) ≡ None
none_introduces d f w l =
    first_none_from (λ t. every (λ u. is_above d t u) (passing d (λ u. is_among u (mentioning d f)))) (passing d (λ u. is_among u (mentioning d f))) (λ x k.
    elim (cases_Bool (every (λ u. is_above d x u) (passing d (λ u. is_among u (mentioning d f))))) [
      | inr e ↦ e
      | inl e ↦
          let at = filter_has (λ u. is_among u (mentioning d f)) (all_types d) x k in
          let m = Mentions-among d f x at.1 in
          absurd (l.none x (record {
            mention = m.mention;
            mentions = m.listed;
            feature = m.feature;
            at = m.at;
            most_general = λ n listed of_f.
                is_above_to d x n.at (every_at (λ u. is_above d x u) (passing d (λ u. is_among u (mentioning d f))) n.at e
                (Has-filter (λ u. is_among u (mentioning d f)) (all_types d) n.at (upto_has (length d.types) n.at (w.mentions n listed).0)
                (is_among_from n.at (mentioning d f) (Has-mentioning d f n listed of_f))));
          }))
    ])

pub intro_tops : (d : Declared) (f : ℕ) → IsWellNumbered d → HasNoCycle d.edges → LacksIntro d f → AreFirstTwo (IsMostGeneralMention d f) (get_or (tops d (mentioners d f)) 0 0) (get_or (tops d (mentioners d f)) 1 0)
intro_tops d f w free l =
    let m = w.mentioned f l.inside in
    AreFirstTwo-as (IsHighest d (λ u. is_among u (mentioning d f))) (IsMostGeneralMention d f) (get_or (tops d (mentioners d f)) 0 0) (get_or (tops d (mentioners d f)) 1 0)
    (λ x h. MostGeneralMention-from d f x w h) (λ x h. MostGeneralMention_to d f x w h)
    (two_tops d (λ u. is_among u (mentioning d f)) m.0.at w free (w.mentions m.0 m.1).0 (is_among_from m.0.at (mentioning d f) (Has-mentioning d f m.0 m.1 m.2)) (none_introduces d f w l))

pub intro_some : (d : Declared) (y : Fault) → IsWellNumbered d → intro_fault d ≡ Some y → (f : ℕ) × (two_intros d f ≡ y) × IsFirst (LacksIntro d) f
unfolding intro_fault
intro_some d y w h =
    let g = test_at (lacks_intro d) (two_intros d) (length d.features) y h in
    (g.number, g.made, IsFirst-from (LacksIntro d) (lacks_intro d) (two_intros d) (length d.features) y (λ f low. intro_decides d f w low) g)

pub intro_from : (d : Declared) (f : ℕ) → IsWellNumbered d → IsFirst (LacksIntro d) f → intro_fault d ≡ Some (two_intros d f)
unfolding intro_fault
intro_from d f w h = IsFirst_to (LacksIntro d) (lacks_intro d) (two_intros d) (length d.features) f (λ f low. intro_decides d f w low) h.holds.inside h

-- ---- restrictions

pub clash_none : (d : Declared) → IsWellNumbered d → HasNoCycle d.edges → clash_fault d ≡ None → (t f : ℕ) → Clashes d t f → ⊥
unfolding clash_fault
clash_none d w free h t f c =
    let low = Clashes_inside d t f w c in
    refuted (clashes d t f) (clash_decides d t f w free) (pairs_none_at (clashes d) ValueClash (length d.types) (length d.features) t f h low.0 low.1) c

pub clash_clear : (d : Declared) → IsWellNumbered d → HasNoCycle d.edges → ((t f : ℕ) → Clashes d t f → ⊥) → clash_fault d ≡ None
unfolding clash_fault
clash_clear d w free none =
    pairs_clear (clashes d) ValueClash (length d.types) (length d.features) (λ t f p q. refuting (clashes d t f) (clash_decides d t f w free) (none t f))

pub clash_some : (d : Declared) (y : Fault) → IsWellNumbered d → HasNoCycle d.edges → clash_fault d ≡ Some y → (t f : ℕ) × (ValueClash t f ≡ y) × IsFirstPair (Clashes d) t f
unfolding clash_fault
clash_some d y w free h =
    let g = pairs_at (clashes d) ValueClash (length d.types) (length d.features) y h in
    (g.one, g.other, g.made, IsFirstPair-from (Clashes d) (clashes d) ValueClash (length d.types) (length d.features) y (λ t f. clash_decides d t f w free) (λ t f c. Clashes_inside d t f w c) g)

pub clash_from : (d : Declared) (t f : ℕ) → IsWellNumbered d → HasNoCycle d.edges → IsFirstPair (Clashes d) t f → clash_fault d ≡ Some (ValueClash t f)
unfolding clash_fault
clash_from d t f w free h =
    IsFirstPair_to (Clashes d) (clashes d) ValueClash (length d.types) (length d.features) t f (λ t f. clash_decides d t f w free) (λ t f c. Clashes_inside d t f w c) h

-- ---- loops

pub loop_none : (d : Declared) → IsWellNumbered d → loop_fault d ≡ None → (t : ℕ) → Leads (restriction_edges d) t t → ⊥
unfolding loop_fault
loop_none d w h = HasNoCycle-from (restriction_edges d) (length d.types) (EndsBelow-restriction_edges d w) (λ t low. test_none_at (λ t. loops d t) Loop (length d.types) t h low)

pub loop_clear : (d : Declared) → IsWellNumbered d → ((t : ℕ) → Leads (restriction_edges d) t t → ⊥) → loop_fault d ≡ None
unfolding loop_fault
loop_clear d w free = test_clear (λ t. loops d t) Loop (length d.types) (λ t low. refuting (loops d t) (loop_decides d t w) (free t))

pub loop_some : (d : Declared) (y : Fault) → IsWellNumbered d → loop_fault d ≡ Some y → (t : ℕ) × (Loop t ≡ y) × IsFirst (λ t. Leads (restriction_edges d) t t) t
unfolding loop_fault
loop_some d y w h =
    let g = test_at (λ t. loops d t) Loop (length d.types) y h in
    (g.number, g.made, IsFirst-from (λ t. Leads (restriction_edges d) t t) (λ t. loops d t) Loop (length d.types) y (λ t low. loop_decides d t w) g)

pub loop_from : (d : Declared) (t : ℕ) → IsWellNumbered d → IsFirst (λ t. Leads (restriction_edges d) t t) t → loop_fault d ≡ Some (Loop t)
unfolding loop_fault
loop_from d t w h =
    IsFirst_to (λ t. Leads (restriction_edges d) t t) (λ t. loops d t) Loop (length d.types) t (λ t low. loop_decides d t w) (EndsBelow-restriction_edges d w t h.holds.0 h.holds.1).0 h

-- ---- extensional types

pub ext_none : (d : Declared) → IsWellNumbered d → ext_fault d ≡ None → (t : ℕ) → IsNotMaximal d t → ⊥
unfolding ext_fault
ext_none d w h t n = refuted (is_not_maximal d t) (ext_decides d t w) (test_none_at (is_not_maximal d) ExtNotMaximal (length d.types) t h (w.ext t n.listed)) n

pub ext_clear : (d : Declared) → IsWellNumbered d → ((t : ℕ) → IsNotMaximal d t → ⊥) → ext_fault d ≡ None
unfolding ext_fault
ext_clear d w none = test_clear (is_not_maximal d) ExtNotMaximal (length d.types) (λ t low. refuting (is_not_maximal d t) (ext_decides d t w) (none t))

pub ext_some : (d : Declared) (y : Fault) → IsWellNumbered d → ext_fault d ≡ Some y → (t : ℕ) × (ExtNotMaximal t ≡ y) × IsFirst (IsNotMaximal d) t
unfolding ext_fault
ext_some d y w h =
    let g = test_at (is_not_maximal d) ExtNotMaximal (length d.types) y h in
    (g.number, g.made, IsFirst-from (IsNotMaximal d) (is_not_maximal d) ExtNotMaximal (length d.types) y (λ t low. ext_decides d t w) g)

pub ext_from : (d : Declared) (t : ℕ) → IsWellNumbered d → IsFirst (IsNotMaximal d) t → ext_fault d ≡ Some (ExtNotMaximal t)
unfolding ext_fault
ext_from d t w h = IsFirst_to (IsNotMaximal d) (is_not_maximal d) ExtNotMaximal (length d.types) t (λ t low. ext_decides d t w) (w.ext t h.holds.listed) h

-- ---- sizes

pub fill_none : (d : Declared) → fill_fault d ≡ None → (t : ℕ) → IsTooLarge d t → ⊥
unfolding fill_fault
fill_none d h t l = refuted (is_too_large d t) (fill_decides d t l.inside) (test_none_at (is_too_large d) FillTooLarge (length d.types) t h l.inside) l

pub fill_clear : (d : Declared) → ((t : ℕ) → IsTooLarge d t → ⊥) → fill_fault d ≡ None
unfolding fill_fault
fill_clear d none = test_clear (is_too_large d) FillTooLarge (length d.types) (λ t low. refuting (is_too_large d t) (fill_decides d t low) (none t))

pub fill_some : (d : Declared) (y : Fault) → fill_fault d ≡ Some y → (t : ℕ) × (FillTooLarge t ≡ y) × IsFirst (IsTooLarge d) t
unfolding fill_fault
fill_some d y h =
    let g = test_at (is_too_large d) FillTooLarge (length d.types) y h in
    (g.number, g.made, IsFirst-from (IsTooLarge d) (is_too_large d) FillTooLarge (length d.types) y (λ t low. fill_decides d t low) g)

pub fill_from : (d : Declared) (t : ℕ) → IsFirst (IsTooLarge d) t → fill_fault d ≡ Some (FillTooLarge t)
unfolding fill_fault
fill_from d t h = IsFirst_to (IsTooLarge d) (is_too_large d) FillTooLarge (length d.types) t (λ t low. fill_decides d t low) h.holds.inside h
