-- The law of the closure's first step: it gives the least classes and types, which are determined by the
-- facts, and nothing exactly where two types without a join are asked.
use Rattle.std.proofs.Common.{◌≡◌, ℕ, List, ◌⊎◌, inl, inr, refl, sym, ◌∙◌, arith, Option, Some, None}
use Rattle.ale_hierarchy.specs.Hierarchy.{Hierarchy, Above, IsLawful}
use Rattle.ale_graph.specs.declared.fact.Fact.{Fact}
use Rattle.ale_graph.specs.Least.{MustBe, Clashes}
use Rattle.ale_graph.specs.Classes.{classes}
use Rattle.ale_graph.specs.Types.{least_types}
use Rattle.ale_graph.specs.FirstStep.{IsFirstStep, StepsTo, FirstStepLaws}
use Rattle.ale_graph.proofs.Lists.{none_some}
use Rattle.ale_graph.proofs.Classes.{IsClasses, classes_are, same_from, own_class}
use Rattle.ale_graph.proofs.Types.{IsTypes, types_are, types_none}

-- two types above each other are one
pub above_both : (h : Hierarchy) → IsLawful h → (t u : ℕ) → Above h t u → Above h u t → t ≡ u
above_both h law t u up down = go (grind arith)
  where
    go : (t ≡ u) ⊎ (t ≡ u → ⊥) → t ≡ u
    go (inl e) = e
    go (inr n) =
        let a = law.rank_less t u up n in
        let b = law.rank_less u t down (λ e. n (sym e)) in
        absurd (omega arith)

-- where there are types, no two that are asked lack a join
pub no_clash : (h : Hierarchy) (facts : List Fact) (cs ty : ℕ → ℕ) → IsLawful h → IsTypes h facts cs ty → Clashes h facts → ⊥
no_clash h facts cs ty law is c =
    let j = law.join_there c.one c.other (ty (cs c.node)) (is.inside (cs c.node)) (is.bound c.node c.one c.must_one) (is.bound c.node c.other c.must_other) in
    none_some (sym c.missing ∙ j.1)

pub first_from : (h : Hierarchy) (facts : List Fact) (next : ℕ) (cs ty : ℕ → ℕ) → IsClasses facts next cs → IsTypes h facts cs ty → IsFirstStep h facts cs ty
first_from h facts next cs ty c t = record {
  same = λ a b. (same_from facts cs c.kept a b, c.one a b);
  own = own_class facts next cs c;
  least = c.least;
  types = λ a u. (λ up. MustBe.general a u (ty (cs a)) up (t.forced a), t.bound a u);
}

determined : (h : Hierarchy) → IsLawful h → (facts : List Fact) (c t d u : ℕ → ℕ) → IsFirstStep h facts c t → IsFirstStep h facts d u → (a : ℕ) → (c a ≡ d a) × (t (c a) ≡ u (d a))
determined h law facts c t d u f g a = (
  (let up : c (d a) ≡ c a = (f.same (d a) a).1 ((g.same (d a) a).0 (g.own a)) in
      let down : d (c a) ≡ d a = (g.same (c a) a).1 ((f.same (c a) a).0 (f.own a)) in
      let l = f.least (d a) in
      let m = g.least (c a) in
      omega arith),
  above_both h law (t (c a)) (u (d a)) ((g.types a (t (c a))).1 ((f.types a (t (c a))).0 (law.along_self (t (c a))))) ((f.types a (u (d a))).1 ((g.types a (u (d a))).0 (law.along_self (u (d a))))),
)

pub first_step_laws : FirstStepLaws
first_step_laws h facts next law fits = record { steps = go (least_types h facts next (classes facts next)) refl; determined = determined h law facts }
  where
    is : IsClasses facts next (classes facts next)
    is = classes_are h facts next fits

    go : (o : Option (ℕ → ℕ)) → least_types h facts next (classes facts next) ≡ o → StepsTo h facts (classes facts next) o
    go None e = types_none h facts next (classes facts next) law fits is e
    go (Some ty) e =
        let t = types_are h facts next (classes facts next) law fits is ty e in
        (first_from h facts next (classes facts next) ty is t, no_clash h facts (classes facts next) ty law t)
