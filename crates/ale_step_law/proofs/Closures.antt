-- What a closure gives: the facts that it was made from; and of each value that it tells, that it is a node, that it
-- holds wherever the facts do, and that it is there where the node was told to have the feature.
use Rattle.std.proofs.Common.{◌≡◌, ℕ, ◌<◌, Bool, true, false, ◌&&◌, eqb, cond, List, refl, sym, ap, ◌∙◌, subst, arith, Some, None}
use Rattle.std.proofs.lemmas.Bool.{and_parts, eqb-true}
use Rattle.ale_declared.specs.Lists.{Has}
use Rattle.ale_hierarchy.specs.Hierarchy.{Hierarchy, Above, IsLawful}
use Rattle.ale_graph.specs.declared.fact.Fact.{Fact}
use Rattle.ale_graph.specs.declared.fact.Fact.TheVariants.{OfType, Value, Same, Differ}
use Rattle.ale_graph.specs.declared.closed.Closed.{Closed}
use Rattle.ale_graph.specs.Structures.{Structure, count, type_of, value_of}
use Rattle.ale_graph.specs.Facts.{Holds, Fulfils, FitsFact}
use Rattle.ale_graph.specs.Least.{MustBe}
use Rattle.ale_graph.specs.Least.MustBe.{declared}
use Rattle.ale_graph.specs.Filling.{class_value, value_told}
use Rattle.ale_graph.specs.Closure.{class_of, node_of}
use Rattle.ale_graph.specs.Universal.{IsClosure}
use Rattle.ale_graph.proofs.Lists.{has_left, some_one}
use Rattle.ale_graph.proofs.Settled.{some_found}
use Rattle.ale_graph.proofs.Least.{same_holds}

-- a fact tells that class c has the value m by f
record Told (class : ℕ → ℕ) (facts : List Fact) (c f m : ℕ) : Type 0 where
  pub node : ℕ
  pub value : ℕ
  pub fact : Has facts (Value node f value)
  pub node_is : class node ≡ c
  pub value_is : m ≡ class value

told_by : (class : ℕ → ℕ) (facts : List Fact) (c f m : ℕ) → class_value class facts c f ≡ Some m → Told class facts c f m
told_by class facts c f m e = let r = some_found (value_told class c f) facts m e in go r.0 r.1 r.2
  where
    from : (n g v : ℕ) → Has facts (Value n g v) → (b : Bool) → (eqb (class n) c && eqb g f) ≡ b → cond b (Some (class v)) None ≡ Some m → Told class facts c f m
    from n g v h true e s =
        let p = and_parts (eqb (class n) c) (eqb g f) e in
        let same : g ≡ f = eqb-true g f p.1 in
        record { node = n; value = v; fact = subst (λ z. Has facts (Value n z v)) same h; node_is = eqb-true (class n) c p.0; value_is = sym (some_one s) }
    from n g v h false e s = absurd cc

    go : (x : Fact) → Has facts x → value_told class c f x ≡ Some m → Told class facts c f m
    go (Value n g v) h e = from n g v h (eqb (class n) c && eqb g f) refl e
    go (OfType n t) h e = absurd cc
    go (Same a b) h e = absurd cc
    go (Differ a b) h e = absurd cc

module _ (h : Hierarchy) (given : List Fact) (before : ℕ) (c : Closed) (k : IsClosure h given before c) where
  pub given_has : (x : Fact) → Has given x → Has c.facts x
  given_has x e = subst (λ z. Has z x) (sym k.front.1) (has_left given k.front.0 x e)

  pub fulfils_given : (s : Structure) (to : ℕ → ℕ) → Fulfils h s to c.facts c.next → Fulfils h s to given before
  fulfils_given s to ful = record {
    into = λ a low. let longer = k.longer in ful.into a (omega arith);
    holds = λ x p. ful.holds x (given_has x p);
  }

  pub value_below : (a f m : ℕ) → class_value (class_of c) c.facts a f ≡ Some m → m < c.next
  value_below a f m e =
      let t = told_by (class_of c) c.facts a f m e in
      let fit : FitsFact h c.next (Value t.node f t.value) = k.fits (Value t.node f t.value) t.fact in
      let low = k.least t.value in
      let is = t.value_is in
      omega (arith, fit.2)

  pub value_holds : (s : Structure) (to : ℕ → ℕ) → Holds h s to c.facts → (n f m : ℕ) → class_value (class_of c) c.facts (class_of c n) f ≡ Some m → value_of s (to n) f ≡ Some (to m)
  value_holds s to hold n f m e =
      let t = told_by (class_of c) c.facts (class_of c n) f m e in
      let fact : value_of s (to t.node) f ≡ Some (to t.value) = hold (Value t.node f t.value) t.fact in
      let one : to t.node ≡ to n = same_holds h s to c.facts hold t.node n ((k.same t.node n).0 t.node_is) in
      let class : class_of c m ≡ class_of c t.value = ap (class_of c) t.value_is ∙ k.own t.value in
      let two : to m ≡ to t.value = same_holds h s to c.facts hold m t.value ((k.same m t.value).0 class) in
      ap (λ z. value_of s z f) (sym one) ∙ fact ∙ ap Some (sym two)

  -- a node that was told to be of a type which has the feature has a value
  pub value_there : IsLawful h → (n f t : ℕ) → n < c.next → f < h.features → Has c.facts (OfType n t) → Above h (h.intro f) t → (m : ℕ) × (class_value (class_of c) c.facts (class_of c n) f ≡ Some m)
  value_there law n f t inside known has above =
      let must : MustBe h c.facts n t = declared n t has in
      let type : Above h t (type_of c.graph (node_of c n)) = (k.types n t inside).1 must in
      let up : Above h (h.intro f) (type_of c.graph (node_of c n)) = law.along (h.intro f) t (type_of c.graph (node_of c n)) above type in
      let node : node_of c n < count c.graph = k.fulfils.into n inside in
      let r = law.intro_there f (type_of c.graph (node_of c n)) known (k.structure.total.types (node_of c n) node) up in
      let v = k.structure.total.there (node_of c n) f r.0 node r.1 in
      let t = k.told n f v.0 inside v.1 in
      (t.0, t.1)
