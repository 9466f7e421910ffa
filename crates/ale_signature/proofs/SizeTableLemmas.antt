-- Sizes as the code finds them: one after another, from those of the restrictions.
use Rattle.std.proofs.Common.{◌≡◌, sym, ap, ◌∙◌, subst, refl, ℕ, zero, suc, ◌+◌, ◌<◌, ◌≤◌, Bool, false, Option, Some, None, List, [], ◌∷◌, length, drop, get_or, set, replicate, inl, inr, arith}
use Rattle.std.specs.Prelude.{is_some}
use Rattle.std.specs.List.{filter}
use Rattle.std.proofs.lemmas.Bool.{cases_Bool, true≢false, cases_eq}
use Rattle.std.proofs.lemmas.List.{get_or-set_same, get_or-set_other}
use Rattle.ale_relation.specs.Has.{Has}
use Rattle.ale_relation.specs.Paths.{Reaches, here, along, Leads}
use Rattle.ale_declared.specs.Lists.{sum_over}
use Rattle.ale_declared.specs.Declarations.{Declared}
use Rattle.ale_hierarchy.specs.Order.{all_features, features, approp, if_there, size}
use Rattle.ale_hierarchy.specs.Limits.{most_nodes}
use Rattle.ale_hierarchy.specs.Accepted.{restriction_edges}
use Rattle.ale_declared.specs.Numbering.{IsWellNumbered}
use Rattle.ale_hierarchy.specs.Stages.{IsOrdered, TellsSizes, KnowsTo, IsUnknown}
use Rattle.ale_declared.proofs.ListLemmas.{upto_below, filter_has}
use Rattle.ale_hierarchy.proofs.AppropLemmas.{IsRestriction_inside, approp_to}
use Rattle.ale_hierarchy.proofs.AcceptedLemmas.{restriction_edges_has}
use Rattle.ale_signature.proofs.SizeLemmas.{size_is, size_from, size-less}

-- a sum over a filter, where the others count nothing
sum_over-filter : {A : Type 0} (f : A → ℕ) (test : A → Bool) (xs : List A) → ((x : A) → test x ≡ false → f x ≡ 0) → sum_over f (filter test xs) ≡ sum_over f xs
sum_over-filter f test [] h = refl
sum_over-filter f test (y ∷ ys) h =
    let rest : sum_over f (filter test ys) ≡ sum_over f ys = sum_over-filter f test ys h in
    elim (cases_Bool (test y)) [
      | inl e ↦ rw e (ap (λ n. f y + n) rest)
      | inr e ↦ let none : f y ≡ 0 = h y e in rw e (omega arith)
    ]

-- a measure that adds up over the features of a type adds up over all features
pub sum_over-features : (d : Declared) (t : ℕ) (g : ℕ → ℕ) → sum_over (λ f. if_there g (approp d f t)) (features d t) ≡ sum_over (λ f. if_there g (approp d f t)) (all_features d)
sum_over-features d t g =
    sum_over-filter (λ f. if_there g (approp d f t)) (λ f. is_some (approp d f t)) (all_features d) (λ f h. nothing (approp d f t) h)
  where
    nothing : (o : Option ℕ) → is_some o ≡ false → if_there g o ≡ 0
    nothing None h = refl
    nothing (Some r) h = absurd (true≢false h)

-- a size that was counted within the limit
pub size_counted : (d : Declared) (t total : ℕ) → total ≡ suc (sum_over (λ f. if_there (size d) (approp d f t)) (features d t)) → total ≤ most_nodes → size d t ≡ total
size_counted d t total is small =
    let whole : total ≡ suc (sum_over (λ f. if_there (size d) (approp d f t)) (all_features d)) = is ∙ ap suc (sum_over-features d t (size d)) in
    size_from d t (subst (λ n. n ≤ most_nodes) whole small) ∙ sym whole

-- what is counted past the limit is past it
pub size_large : (d : Declared) (t total rest : ℕ) → total + rest ≡ suc (sum_over (λ f. if_there (size d) (approp d f t)) (features d t)) → most_nodes < total → size d t ≤ most_nodes → ⊥
size_large d t total rest is large small =
    let whole : total + rest ≡ suc (sum_over (λ f. if_there (size d) (approp d f t)) (all_features d)) = is ∙ ap suc (sum_over-features d t (size d)) in
    let all : size d t ≡ suc (sum_over (λ f. if_there (size d) (approp d f t)) (all_features d)) = size_is d t small in
    let same : size d t ≡ total + rest = all ∙ sym whole in
    absurd (omega arith)

-- each type counts itself
pub size_positive : (d : Declared) (t : ℕ) → 0 < size d t
unfolding size
size_positive d t = omega arith

-- a feature of a type is a feature
pub features-below : (d : Declared) (t f : ℕ) → Has (features d t) f → f < length d.features
features-below d t f h = upto_below (length d.features) f (filter_has (λ f. is_some (approp d f t)) (all_features d) f h).0

-- sizes after one is written
pub TellsSizes-set : (d : Declared) (sizes : List ℕ) (t s : ℕ) → t < length sizes → TellsSizes d sizes → (0 < s → (size d t ≡ s) × (s ≤ most_nodes)) → TellsSizes d (set sizes t s)
TellsSizes-set d sizes t s inside tells one u below known =
    elim (cases_eq u t) [
      | inl same ↦
          let at : get_or (set sizes t s) u 0 ≡ s = rw same (get_or-set_same sizes t s 0 inside) in
          let is = one (subst (λ n. 0 < n) at known) in
          (subst (λ z. size d z ≡ s) (sym same) is.0 ∙ sym at, subst (λ n. n ≤ most_nodes) (sym at) is.1)
      | inr apart ↦
          let at : get_or (set sizes t s) u 0 ≡ get_or sizes u 0 = get_or-set_other sizes t u s 0 apart in
          let is = tells u below (subst (λ n. 0 < n) at known) in
          (is.0 ∙ sym at, subst (λ n. n ≤ most_nodes) (sym at) is.1)
    ]

-- where the sizes up to k are known, one of at most k + 1 is found
pub size_found : (d : Declared) (sizes : List ℕ) (k t s : ℕ) → IsOrdered d → t < length d.types → KnowsTo d k sizes → (s ≡ 0 → size d t ≤ most_nodes → (f : ℕ) × (f < length d.features) × IsUnknown d t sizes f) → size d t ≤ k + 1 → size d t ≤ most_nodes → 0 < s
size_found d sizes k t s o below knows unknown less small =
    elim (cases_eq s 0) [
      | inl none ↦
          let f = unknown none small in
          let r : ℕ = f.2.restriction in
          let smaller : size d r < size d t = size-less d f.0 t r f.1 f.2.there small in
          let inside = (IsRestriction_inside d f.0 t r o.numbered (approp_to d f.0 t r o.numbered f.2.there)).2 in
          let known : 0 < get_or sizes r 0 = knows r inside (omega arith) (omega arith) in
          let not_known : get_or sizes r 0 ≡ 0 = f.2.unknown in
          absurd (omega arith)
      | inr apart ↦ omega arith
    ]

-- the sizes that are known after one is written
pub KnowsTo-set : (d : Declared) (sizes : List ℕ) (k t s : ℕ) → t < length sizes → KnowsTo d k sizes → (size d t ≤ k → size d t ≤ most_nodes → 0 < s) → KnowsTo d k (set sizes t s)
KnowsTo-set d sizes k t s inside knows one u below less small =
    elim (cases_eq u t) [
      | inl same ↦ rw (same, get_or-set_same sizes t s 0 inside) (one (subst (λ z. size d z ≤ k) same less) (subst (λ z. size d z ≤ most_nodes) same small))
      | inr apart ↦ rw (get_or-set_other sizes t u s 0 apart) (knows u below less small)
    ]

-- those up to t, likewise
pub known_next : (d : Declared) (sizes : List ℕ) (k t s : ℕ) → t < length sizes → ((u : ℕ) → u < t → size d u ≤ k + 1 → size d u ≤ most_nodes → 0 < get_or sizes u 0) → (size d t ≤ k + 1 → size d t ≤ most_nodes → 0 < s) → (u : ℕ) → u < t + 1 → size d u ≤ k + 1 → size d u ≤ most_nodes → 0 < get_or (set sizes t s) u 0
known_next d sizes k t s inside before one u below less small =
    elim (cases_eq u t) [
      | inl same ↦ rw (same, get_or-set_same sizes t s 0 inside) (one (subst (λ z. size d z ≤ k + 1) same less) (subst (λ z. size d z ≤ most_nodes) same small))
      | inr apart ↦ rw (get_or-set_other sizes t u s 0 apart) (before u (omega arith) less small)
    ]

-- before any is known
pub TellsSizes-none : (d : Declared) (sizes : List ℕ) (n : ℕ) → sizes ≡ replicate n 0 → TellsSizes d sizes
TellsSizes-none d sizes n is t below known = absurd (zeros n t (subst (λ xs. 0 < get_or xs t 0) is known))
  where
    zeros : (n t : ℕ) → 0 < get_or (replicate n 0) t 0 → ⊥
    zeros zero t h = omega arith
    zeros (suc n) zero h = omega arith
    zeros (suc n) (suc t) h = zeros n t h

pub KnowsTo-none : (d : Declared) (sizes : List ℕ) → KnowsTo d 0 sizes
KnowsTo-none d sizes t below less small = let some : 0 < size d t = size_positive d t in absurd (omega arith)

-- sizes fall along restrictions, so none lead back
pub no_loop-from : (d : Declared) → IsWellNumbered d → ((t : ℕ) → t < length d.types → size d t ≤ most_nodes) → (t : ℕ) → Leads (restriction_edges d) t t → ⊥
no_loop-from d w small t path =
    let first_edge = restriction_edges_has d t path.0 path.1 in
    let less : size d path.0 < size d t = size-less d first_edge.0 t path.0 first_edge.1 first_edge.3 (small t first_edge.2) in
    let rest : size d t ≤ size d path.0 = falls path.0 t path.2 in
    absurd (omega arith)
  where
    falls : (a b : ℕ) → Reaches (restriction_edges d) a b → size d b ≤ size d a
    falls a b (here _) = omega arith
    falls a b (along _ m _ e r) =
        let edge = restriction_edges_has d a m e in
        let less : size d m < size d a = size-less d edge.0 a m edge.1 edge.3 (small a edge.2) in
        let more : size d b ≤ size d m = falls m b r in
        omega arith

-- while sizes are added up: past the limit
pub size_past : (d : Declared) (t : ℕ) (fs rest : List ℕ) (i f total part : ℕ) → fs ≡ features d t → drop i fs ≡ f ∷ rest → total + sum_over (λ f. if_there (size d) (approp d f t)) (drop i fs) ≡ suc (sum_over (λ f. if_there (size d) (approp d f t)) fs) → part ≡ if_there (size d) (approp d f t) → most_nodes < total + part → size d t ≤ most_nodes → ⊥
size_past d t fs rest i f total part is cons sum known large small =
    let left : total + (if_there (size d) (approp d f t) + sum_over (λ f. if_there (size d) (approp d f t)) rest) ≡ suc (sum_over (λ f. if_there (size d) (approp d f t)) fs) =
    subst (λ (xs : List ℕ). total + sum_over (λ f. if_there (size d) (approp d f t)) xs ≡ suc (sum_over (λ f. if_there (size d) (approp d f t)) fs)) cons sum in
    let whole : (total + part) + sum_over (λ f. if_there (size d) (approp d f t)) rest ≡ suc (sum_over (λ f. if_there (size d) (approp d f t)) fs) = omega arith in
    size_large d t (total + part) (sum_over (λ f. if_there (size d) (approp d f t)) rest)
    (subst (λ (xs : List ℕ). (total + part) + sum_over (λ f. if_there (size d) (approp d f t)) rest ≡ suc (sum_over (λ f. if_there (size d) (approp d f t)) xs)) is whole)
    large small

-- and at the end
pub size_all : (d : Declared) (t : ℕ) (fs : List ℕ) (i total : ℕ) → fs ≡ features d t → drop i fs ≡ [] → total + sum_over (λ f. if_there (size d) (approp d f t)) (drop i fs) ≡ suc (sum_over (λ f. if_there (size d) (approp d f t)) fs) → total ≤ most_nodes → (size d t ≡ total) × (total ≤ most_nodes)
size_all d t fs i total is none sum small =
    let left : total + 0 ≡ suc (sum_over (λ f. if_there (size d) (approp d f t)) fs) =
    subst (λ (xs : List ℕ). total + sum_over (λ f. if_there (size d) (approp d f t)) xs ≡ suc (sum_over (λ f. if_there (size d) (approp d f t)) fs)) none sum in
    let whole : total ≡ suc (sum_over (λ f. if_there (size d) (approp d f t)) fs) = omega arith in
    (size_counted d t total (subst (λ (xs : List ℕ). total ≡ suc (sum_over (λ f. if_there (size d) (approp d f t)) xs)) is whole) small, small)
