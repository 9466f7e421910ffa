-- `fault_of` finds the fault that a signature has, and nothing exactly where the signature is accepted.
use Rattle.std.proofs.Common.{◌≡◌, sym, ap, ◌∙◌, subst, ℕ, Option, Some, None, get_or, inl, inr, eqb, arith}
use Rattle.std.specs.Option.{option_or}
use Rattle.std.proofs.lemmas.Bool.{cases_Bool, both_ways, eqb-true, eq-eqb}
use Rattle.ale_declared.specs.Lists.{first, every}
use Rattle.ale_declared.specs.Declarations.{Declared}
use Rattle.ale_declared.specs.Numbering.{IsWellNumbered}
use Rattle.ale_hierarchy.specs.Order.{is_above, mentioning}
use Rattle.ale_hierarchy.specs.Accepted.{IsAccepted}
use Rattle.ale_hierarchy.specs.Faults.{lacks_intro, clashes, is_too_large, tops, common_subtypes, mentioners, limit_fault, cycle_fault, join_fault, intro_fault, clash_fault, loop_fault, ext_fault, fill_fault, filling_fault, fault_of, no_join, two_intros}
use Rattle.ale_hierarchy.specs.Refusals.{IsFirst, IsFirstPair, AreFirstTwo, LacksJoin, IsMostGeneralCommon, LacksIntro, IsMostGeneralMention, IsTooLarge, KeepsLimits, IsAcyclic, IsJoined, IsIntroduced, IsRestricted, IsLoopless, IsExtLast, IsFault}
use Rattle.ale_hierarchy.specs.declared.fault.Fault.{Fault}
use Rattle.ale_hierarchy.specs.declared.fault.Fault.TheVariants.{TooManyTypes, TooManyFeatures, SubCycle, NoJoin, TwoIntros, ValueClash, Loop, ExtNotMaximal, FillTooLarge}
use Rattle.ale_signature.specs.Deciding.{FindsFault}
use Rattle.ale_hierarchy.proofs.AppropLemmas.{first_introduces}
use Rattle.ale_hierarchy.proofs.Acceptance.{there_from, size_test}
use Rattle.ale_hierarchy.proofs.AnswerLemmas.{or_after, or_first, or_found, or_nothing}
use Rattle.ale_hierarchy.proofs.FirstTwo.{AreFirstTwo-one}
use Rattle.ale_hierarchy.proofs.FaultTests.{refuting, intro_decides, clash_decides, Clashes_inside, fill_decides, HasJoins-lacking, HasRestrictions-tested}
use Rattle.ale_hierarchy.proofs.FaultLemmas.{limit_none, limit_clear, limit_types, limit_features, limit_some, cycle_none, cycle_clear, cycle_some, cycle_from, join_none_lacks, join_clear, join_tops, join_some, join_from_pair, intro_none, intro_clear, intro_tops, intro_some, intro_from, clash_none, clash_clear, clash_some, clash_from, loop_none, loop_clear, loop_some, loop_from, ext_none, ext_clear, ext_some, ext_from, fill_none, fill_clear, fill_some, fill_from}

-- ---- without a fault

-- a signature without a fault is accepted
pub accepted_without : (d : Declared) → IsWellNumbered d → IsExtLast d → ((t : ℕ) → IsTooLarge d t → ⊥) → IsAccepted d
accepted_without d w e small =
    let r : IsRestricted d = e.loopless.restricted in
    let i : IsIntroduced d = r.introduced in
    let j : IsJoined d = i.joined in
    let free = j.acyclic.no_cycle in
    record {
      few_types = j.acyclic.limits.few_types;
      few_features = j.acyclic.limits.few_features;
      no_cycle = free;
      joins = HasJoins-lacking d w free j.joins;
      one_intro = λ f listed.
          let found = there_from (first (λ t. every (λ u. is_above d t u) (mentioning d f)) (mentioning d f)) (refuting (lacks_intro d f) (intro_decides d f w listed) (i.intros f)) in
          (found.0, first_introduces d f found.0 found.1);
      restrictions_join = HasRestrictions-tested d w (λ t f p q. refuting (clashes d t f) (clash_decides d t f w free) (r.no_clash t f));
      no_loop = e.loopless.no_loop;
      ext_last = λ t u listed above.
          elim (cases_Bool (eqb t u)) [
            | inl same ↦ eqb-true t u same
            | inr apart ↦ absurd (e.ext_last t (record { listed = listed; other = u; above = above; apart = λ same. both_ways (eqb t u) apart (eq-eqb t u same) }))
          ];
      small = λ t low. size_test d t (refuting (is_too_large d t) (fill_decides d t low) (small t));
    }

-- an accepted signature has no fault
pub without_accepted : (d : Declared) → IsWellNumbered d → IsAccepted d → IsExtLast d × ((t : ℕ) → IsTooLarge d t → ⊥)
without_accepted d w a = (
  record {
    loopless = record {
      restricted = record {
        introduced = record {
          joined = record {
            acyclic = record {
              limits = record { few_types = a.few_types; few_features = a.few_features };
              no_cycle = a.no_cycle;
            };
            joins = λ x y l. let j = a.joins x y l.common l.inside l.left l.right in l.none j.0 j.1;
          };
          intros = λ f l. let t = a.one_intro f l.inside in l.none t.0 t.1;
        };
        no_clash = λ t f c. let r = a.restrictions_join f t c.mention (Clashes_inside d t f w c).0 c.applies in c.none r.0 r.1;
      };
      no_loop = a.no_loop;
    };
    ext_last = λ t n. n.apart (a.ext_last t n.other n.listed n.above);
  },
  λ t l. let small = a.small t l.inside in let large = l.large in absurd (omega arith),
)

-- ---- nothing is found

pub nothing_found : (d : Declared) → IsWellNumbered d → IsExtLast d → ((t : ℕ) → IsTooLarge d t → ⊥) → fault_of d ≡ None
unfolding fault_of filling_fault
nothing_found d w e small =
    let r : IsRestricted d = e.loopless.restricted in
    let i : IsIntroduced d = r.introduced in
    let j : IsJoined d = i.joined in
    let free = j.acyclic.no_cycle in
    or_after (limit_fault d) _ (limit_clear d j.acyclic.limits)
    ∙ or_after (cycle_fault d) _ (cycle_clear d w free)
    ∙ or_after (join_fault d) _ (join_clear d w free j.joins)
    ∙ or_after (intro_fault d) _ (intro_clear d w i.intros)
    ∙ or_after (clash_fault d) _ (clash_clear d w free r.no_clash)
    ∙ or_after (loop_fault d) _ (loop_clear d w e.loopless.no_loop)
    ∙ or_after (ext_fault d) _ (ext_clear d w e.ext_last)
    ∙ fill_clear d small

-- the parts up to the one that finds something
acyclic_of : (d : Declared) → IsWellNumbered d → limit_fault d ≡ None → cycle_fault d ≡ None → IsAcyclic d
acyclic_of d w l c = record { limits = limit_none d l; no_cycle = cycle_none d w c }

joined_of : (d : Declared) → IsWellNumbered d → IsAcyclic d → join_fault d ≡ None → IsJoined d
joined_of d w a h = record { acyclic = a; joins = join_none_lacks d w a.no_cycle h }

introduced_of : (d : Declared) → IsWellNumbered d → IsJoined d → intro_fault d ≡ None → IsIntroduced d
introduced_of d w j h = record { joined = j; intros = intro_none d w h }

restricted_of : (d : Declared) → IsWellNumbered d → IsIntroduced d → clash_fault d ≡ None → IsRestricted d
restricted_of d w i h = record { introduced = i; no_clash = clash_none d w i.joined.acyclic.no_cycle h }

loopless_of : (d : Declared) → IsWellNumbered d → IsRestricted d → loop_fault d ≡ None → IsLoopless d
loopless_of d w r h = record { restricted = r; no_loop = loop_none d w h }

ext_last_of : (d : Declared) → IsWellNumbered d → IsLoopless d → ext_fault d ≡ None → IsExtLast d
ext_last_of d w l h = record { loopless = l; ext_last = ext_none d w h }

pub found_nothing : (d : Declared) → IsWellNumbered d → fault_of d ≡ None → IsExtLast d × ((t : ℕ) → IsTooLarge d t → ⊥)
unfolding fault_of filling_fault
found_nothing d w h =
    let a = or_nothing (limit_fault d) _ h in
    let b = or_nothing (cycle_fault d) _ a.1 in
    let c = or_nothing (join_fault d) _ b.1 in
    let e = or_nothing (intro_fault d) _ c.1 in
    let f = or_nothing (clash_fault d) _ e.1 in
    let g = or_nothing (loop_fault d) _ f.1 in
    let k = or_nothing (ext_fault d) (fill_fault d) g.1 in
    let j = joined_of d w (acyclic_of d w a.0 b.0) c.0 in
    let r = restricted_of d w (introduced_of d w j e.0) f.0 in
    (ext_last_of d w (loopless_of d w r g.0) k.0, fill_none d k.1)

-- ---- what is found is the fault

fault_limit : (d : Declared) (y : Fault) → limit_fault d ≡ Some y → IsFault d y
fault_limit d y h =
    elim (limit_some d y h) [
      | inl types ↦ subst (λ (z : Fault). IsFault d z) (sym types.0) types.1
      | inr features ↦ subst (λ (z : Fault). IsFault d z) (sym features.0) (features.1, features.2)
    ]

fault_cycle : (d : Declared) (y : Fault) → IsWellNumbered d → KeepsLimits d → cycle_fault d ≡ Some y → IsFault d y
fault_cycle d y w k h = let s = cycle_some d y w h in subst (λ (z : Fault). IsFault d z) s.1 (k, s.2)

fault_join : (d : Declared) (y : Fault) → IsWellNumbered d → IsAcyclic d → join_fault d ≡ Some y → IsFault d y
fault_join d y w a h =
    let s = join_some d y w a.no_cycle h in
    let pair : IsFirstPair (LacksJoin d) s.0 s.1 = s.3 in
    subst (λ (z : Fault). IsFault d z) s.2 (a, pair, join_tops d s.0 s.1 w a.no_cycle pair.holds)

fault_intro : (d : Declared) (y : Fault) → IsWellNumbered d → IsJoined d → intro_fault d ≡ Some y → IsFault d y
fault_intro d y w j h =
    let s = intro_some d y w h in
    let one : IsFirst (LacksIntro d) s.0 = s.2 in
    subst (λ (z : Fault). IsFault d z) s.1 (j, one, intro_tops d s.0 w j.acyclic.no_cycle one.holds)

fault_clash : (d : Declared) (y : Fault) → IsWellNumbered d → IsIntroduced d → clash_fault d ≡ Some y → IsFault d y
fault_clash d y w i h = let s = clash_some d y w i.joined.acyclic.no_cycle h in subst (λ (z : Fault). IsFault d z) s.2 (i, s.3)

fault_loop : (d : Declared) (y : Fault) → IsWellNumbered d → IsRestricted d → loop_fault d ≡ Some y → IsFault d y
fault_loop d y w r h = let s = loop_some d y w h in subst (λ (z : Fault). IsFault d z) s.1 (r, s.2)

fault_ext : (d : Declared) (y : Fault) → IsWellNumbered d → IsLoopless d → ext_fault d ≡ Some y → IsFault d y
fault_ext d y w l h = let s = ext_some d y w h in subst (λ (z : Fault). IsFault d z) s.1 (l, s.2)

fault_fill : (d : Declared) (y : Fault) → IsExtLast d → fill_fault d ≡ Some y → IsFault d y
fault_fill d y e h = let s = fill_some d y h in subst (λ (z : Fault). IsFault d z) s.1 (e, s.2)

fault_filling : (d : Declared) (y : Fault) → IsWellNumbered d → IsRestricted d → filling_fault d ≡ Some y → IsFault d y
unfolding filling_fault
fault_filling d y w r h =
    elim (or_found (loop_fault d) _ y h) [
      | inl loop ↦ fault_loop d y w r loop
      | inr no_loop ↦
          let l = loopless_of d w r no_loop.0 in
          elim (or_found (ext_fault d) (fill_fault d) y no_loop.1) [
            | inl ext ↦ fault_ext d y w l ext
            | inr no_ext ↦ fault_fill d y (ext_last_of d w l no_ext.0) no_ext.1
          ]
    ]

pub found : (d : Declared) (y : Fault) → IsWellNumbered d → fault_of d ≡ Some y → IsFault d y
unfolding fault_of
found d y w h =
    elim (or_found (limit_fault d) _ y h) [
      | inl limit ↦ fault_limit d y limit
      | inr no_limit ↦
          elim (or_found (cycle_fault d) _ y no_limit.1) [
            | inl cycle ↦ fault_cycle d y w (limit_none d no_limit.0) cycle
            | inr no_cycle ↦
                let a = acyclic_of d w no_limit.0 no_cycle.0 in
                elim (or_found (join_fault d) _ y no_cycle.1) [
                  | inl join ↦ fault_join d y w a join
                  | inr all_join ↦
                      let j = joined_of d w a all_join.0 in
                      elim (or_found (intro_fault d) _ y all_join.1) [
                        | inl intro ↦ fault_intro d y w j intro
                        | inr all_intro ↦
                            let i = introduced_of d w j all_intro.0 in
                            elim (or_found (clash_fault d) (filling_fault d) y all_intro.1) [
                              | inl clash ↦ fault_clash d y w i clash
                              | inr no_clash ↦ fault_filling d y w (restricted_of d w i no_clash.0) no_clash.1
                            ]
                      ]
                ]
          ]
    ]

-- ---- the fault is found

after_limits : (d : Declared) (o : Option Fault) → KeepsLimits d → option_or (limit_fault d) o ≡ o
after_limits d o k = or_after (limit_fault d) o (limit_clear d k)

after_cycles : (d : Declared) (o : Option Fault) → IsWellNumbered d → IsAcyclic d → option_or (limit_fault d) (option_or (cycle_fault d) o) ≡ o
after_cycles d o w a = after_limits d (option_or (cycle_fault d) o) a.limits ∙ or_after (cycle_fault d) o (cycle_clear d w a.no_cycle)

after_joins : (d : Declared) (o : Option Fault) → IsWellNumbered d → IsJoined d → option_or (limit_fault d) (option_or (cycle_fault d) (option_or (join_fault d) o)) ≡ o
after_joins d o w j = after_cycles d (option_or (join_fault d) o) w j.acyclic ∙ or_after (join_fault d) o (join_clear d w j.acyclic.no_cycle j.joins)

after_intros : (d : Declared) (o : Option Fault) → IsWellNumbered d → IsIntroduced d → option_or (limit_fault d) (option_or (cycle_fault d) (option_or (join_fault d) (option_or (intro_fault d) o))) ≡ o
after_intros d o w i = after_joins d (option_or (intro_fault d) o) w i.joined ∙ or_after (intro_fault d) o (intro_clear d w i.intros)

after_clashes : (d : Declared) → IsWellNumbered d → IsRestricted d → fault_of d ≡ filling_fault d
unfolding fault_of
after_clashes d w r =
    after_intros d (option_or (clash_fault d) (filling_fault d)) w r.introduced
    ∙ or_after (clash_fault d) (filling_fault d) (clash_clear d w r.introduced.joined.acyclic.no_cycle r.no_clash)

found_limit : (d : Declared) (y : Fault) → limit_fault d ≡ Some y → fault_of d ≡ Some y
unfolding fault_of
found_limit d y h = or_first (limit_fault d) _ y h

found_cycle : (d : Declared) (y : Fault) → KeepsLimits d → cycle_fault d ≡ Some y → fault_of d ≡ Some y
unfolding fault_of
found_cycle d y k h = after_limits d _ k ∙ or_first (cycle_fault d) _ y h

found_join : (d : Declared) (y : Fault) → IsWellNumbered d → IsAcyclic d → join_fault d ≡ Some y → fault_of d ≡ Some y
unfolding fault_of
found_join d y w a h = after_cycles d _ w a ∙ or_first (join_fault d) _ y h

found_intro : (d : Declared) (y : Fault) → IsWellNumbered d → IsJoined d → intro_fault d ≡ Some y → fault_of d ≡ Some y
unfolding fault_of
found_intro d y w j h = after_joins d _ w j ∙ or_first (intro_fault d) _ y h

found_clash : (d : Declared) (y : Fault) → IsWellNumbered d → IsIntroduced d → clash_fault d ≡ Some y → fault_of d ≡ Some y
unfolding fault_of
found_clash d y w i h = after_intros d _ w i ∙ or_first (clash_fault d) _ y h

found_loop : (d : Declared) (y : Fault) → IsWellNumbered d → IsRestricted d → loop_fault d ≡ Some y → fault_of d ≡ Some y
unfolding filling_fault
found_loop d y w r h = after_clashes d w r ∙ or_first (loop_fault d) _ y h

found_ext : (d : Declared) (y : Fault) → IsWellNumbered d → IsLoopless d → ext_fault d ≡ Some y → fault_of d ≡ Some y
unfolding filling_fault
found_ext d y w l h = after_clashes d w l.restricted ∙ or_after (loop_fault d) _ (loop_clear d w l.no_loop) ∙ or_first (ext_fault d) (fill_fault d) y h

found_fill : (d : Declared) (y : Fault) → IsWellNumbered d → IsExtLast d → fill_fault d ≡ Some y → fault_of d ≡ Some y
unfolding filling_fault
found_fill d y w e h =
    after_clashes d w e.loopless.restricted
    ∙ or_after (loop_fault d) _ (loop_clear d w e.loopless.no_loop)
    ∙ or_after (ext_fault d) (fill_fault d) (ext_clear d w e.ext_last)
    ∙ h

-- the two lowest are those of the list
same_join : (d : Declared) (a b c e : ℕ) → IsWellNumbered d → IsAcyclic d → LacksJoin d a b → AreFirstTwo (IsMostGeneralCommon d a b) c e → no_join d a b ≡ NoJoin a b c e
same_join d a b c e w f l two =
    let same = AreFirstTwo-one (IsMostGeneralCommon d a b) (get_or (tops d (common_subtypes d a b)) 0 0) (get_or (tops d (common_subtypes d a b)) 1 0) c e (join_tops d a b w f.no_cycle l) two in
    ap (λ z. NoJoin a b z (get_or (tops d (common_subtypes d a b)) 1 0)) same.0 ∙ ap (λ z. NoJoin a b c z) same.1

same_intros : (d : Declared) (f a b : ℕ) → IsWellNumbered d → IsAcyclic d → LacksIntro d f → AreFirstTwo (IsMostGeneralMention d f) a b → two_intros d f ≡ TwoIntros f a b
same_intros d f a b w free l two =
    let same = AreFirstTwo-one (IsMostGeneralMention d f) (get_or (tops d (mentioners d f)) 0 0) (get_or (tops d (mentioners d f)) 1 0) a b (intro_tops d f w free.no_cycle l) two in
    ap (λ z. TwoIntros f z (get_or (tops d (mentioners d f)) 1 0)) same.0 ∙ ap (λ z. TwoIntros f a z) same.1

pub finding : (d : Declared) (y : Fault) → IsWellNumbered d → IsFault d y → fault_of d ≡ Some y
finding d TooManyTypes w h = found_limit d TooManyTypes (limit_types d h)
finding d TooManyFeatures w h = found_limit d TooManyFeatures (limit_features d h.0 h.1)
finding d (SubCycle t) w h = found_cycle d (SubCycle t) h.0 (cycle_from d t w h.1)
finding d (NoJoin a b c e) w h =
    let acyclic : IsAcyclic d = h.0 in
    let pair : IsFirstPair (LacksJoin d) a b = h.1 in
    found_join d (NoJoin a b c e) w acyclic (join_from_pair d a b w acyclic.no_cycle pair ∙ ap Some (same_join d a b c e w acyclic pair.holds h.2))
finding d (TwoIntros f a b) w h =
    let joined : IsJoined d = h.0 in
    let one : IsFirst (LacksIntro d) f = h.1 in
    found_intro d (TwoIntros f a b) w joined (intro_from d f w one ∙ ap Some (same_intros d f a b w joined.acyclic one.holds h.2))
finding d (ValueClash t f) w h =
    let i : IsIntroduced d = h.0 in
    found_clash d (ValueClash t f) w i (clash_from d t f w i.joined.acyclic.no_cycle h.1)
finding d (Loop t) w h = found_loop d (Loop t) w h.0 (loop_from d t w h.1)
finding d (ExtNotMaximal t) w h = found_ext d (ExtNotMaximal t) w h.0 (ext_from d t w h.1)
finding d (FillTooLarge t) w h = found_fill d (FillTooLarge t) w h.0 (fill_from d t h.1)

-- ---- all of it together

pub accepted_where : (d : Declared) → IsWellNumbered d → fault_of d ≡ None → IsAccepted d
accepted_where d w h = let e = found_nothing d w h in accepted_without d w e.0 e.1

pub finds_fault : (d : Declared) → IsWellNumbered d → FindsFault d
finds_fault d w = record {
  none = (accepted_where d w, λ a. let e = without_accepted d w a in nothing_found d w e.0 e.1);
  some = λ f. (found d f w, finding d f w);
  one = λ f g p q. some_same f g (sym (finding d f w p) ∙ finding d g w q);
}
  where
    some_same : (f g : Fault) → Some f ≡ Some g → f ≡ g
    some_same f g h = cc
