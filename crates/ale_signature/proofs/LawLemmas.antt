-- Each accepted signature obeys the laws of a hierarchy.
use Rattle.std.proofs.Common.{sym, ap, ◌∙◌, subst, ℕ, suc, ◌<◌, length}
use Rattle.ale_relation.specs.Paths.{here}
use Rattle.ale_declared.specs.Declarations.{Declared}
use Rattle.ale_hierarchy.specs.Hierarchy.{IsLawful, size_at}
use Rattle.ale_hierarchy.specs.Order.{Introduces, approp, intro, size, if_there, all_features, hierarchy}
use Rattle.ale_hierarchy.specs.Accepted.{IsAccepted}
use Rattle.ale_declared.specs.Numbering.{IsWellNumbered}
use Rattle.ale_declared.proofs.ListLemmas.{is_among_has, sum_over_same}
use Rattle.ale_hierarchy.proofs.OrderLemmas.{IsAbove-trans, IsAbove_inside, is_above_to, is_above_from, above_all, rank-less}
use Rattle.ale_hierarchy.proofs.JoinLemmas.{join_to, join_there}
use Rattle.ale_hierarchy.proofs.AppropLemmas.{IsRestriction_inside, approp_to, approp_there, approp-along, intro_is, Introduces-above, Introduces_inside, Applies-introduces}
use Rattle.ale_signature.proofs.SizeLemmas.{size_is, size_at-is}

-- `intro` introduces the feature
pub Introduces-intro : (d : Declared) (f : ℕ) → IsWellNumbered d → IsAccepted d → f < length d.features → Introduces d f (intro d f)
Introduces-intro d f w a h =
    let one = a.one_intro f h in
    let t : Introduces d f one.0 = one.1 in
    subst (λ z. Introduces d f z) (sym (intro_is d f one.0 w a.no_cycle t)) t

-- an accepted signature is lawful
pub lawful : (d : Declared) → IsWellNumbered d → IsAccepted d → IsLawful (hierarchy d)
unfolding hierarchy
lawful d w a = record {
  along_self = λ x. is_above_from d x x w (here x);
  along = λ x y z p q. is_above_from d x z w (IsAbove-trans d x y z (is_above_to d x y p) (is_above_to d y z q));
  inside = λ x y p h. IsAbove_inside d x y w (is_above_to d x y p) h;
  bottom = λ x h. is_above_from d 0 x w (above_all d x w a.no_cycle h);
  some_type = w.some_type;
  join_inside = λ x y z h. (join_to d x y z w h).0;
  join_left = λ x y z h. is_above_from d x z w (join_to d x y z w h).1.left;
  join_right = λ x y z h. is_above_from d y z w (join_to d x y z w h).1.right;
  join_least = λ x y z c h below p q.
      is_above_from d z c w ((join_to d x y z w h).1.least c (is_above_to d x c p) (is_above_to d y c q));
  join_there = λ x y c below p q.
      join_there d x y c w a.no_cycle a.joins below (is_above_to d x c p) (is_above_to d y c q);
  approp_inside = λ f t r h. let ends = IsRestriction_inside d f t r w (approp_to d f t r w h) in (ends.0, ends.2);
  approp_along = λ f t u r below p h.
      let found = approp-along d f t u r w a.no_cycle a.restrictions_join below (is_above_to d t u p) h in
      (found.0, found.1, is_above_from d r found.0 w found.2);
  approp_intro = λ f t r h.
      let here_r = approp_to d f t r w h in
      is_above_from d (intro d f) t w
      (Introduces-above d f t (intro d f) r (Introduces-intro d f w a (IsRestriction_inside d f t r w here_r).0) here_r);
  intro_inside = λ f h. Introduces_inside d f (intro d f) w (Introduces-intro d f w a h);
  intro_there = λ f t h below p.
      let i = Introduces-intro d f w a h in
      approp_there d f t i.mention w a.no_cycle a.restrictions_join below
      (Applies-introduces d f t (intro d f) i (is_above_to d (intro d f) t p));
  rank_less = λ x y p apart. rank-less d x y w a.no_cycle (is_above_to d x y p) apart;
  size_is = λ t h.
      size_is d t (a.small t h)
      ∙ ap suc (sum_over_same (λ f. if_there (size d) (approp d f t)) (λ f. size_at (hierarchy d) (approp d f t)) (all_features d) (λ f there. sym (size_at-is d (approp d f t))));
  size_small = λ t h. a.small t h;
  ext_last = λ x y h p. a.ext_last x y (is_among_has x d.ext h) (is_above_to d x y p);
}
