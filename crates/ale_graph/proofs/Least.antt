-- The families of least classes and types: more facts say more, and a structure that fulfils the facts
-- keeps each class together and has at least each type that a node must be.
use Rattle.std.proofs.Common.{◌≡◌, ℕ, zero, suc, ◌<◌, ◌≤◌, List, [], ◌∷◌, get_or, length, ◌⊎◌, inl, inr, refl, sym, ap, ◌∙◌, subst, arith, Some, None}
use Rattle.ale_declared.specs.Lists.{Has}
use Rattle.ale_hierarchy.specs.Hierarchy.{Hierarchy, Above, IsLawful}
use Rattle.ale_graph.specs.declared.fact.Fact.{Fact}
use Rattle.ale_graph.specs.declared.fact.Fact.TheVariants.{OfType, Value, Same}
use Rattle.ale_graph.specs.declared.node.Node.{Node}
use Rattle.ale_graph.proofs.Lists.{some_one}
use Rattle.ale_graph.specs.Structures.{Structure, IsTotal, count, type_of, value_of}
use Rattle.ale_graph.specs.Facts.{Holds}
use Rattle.ale_graph.specs.Least.{SameClass, MustBe, Clashes}
use Rattle.ale_graph.specs.Least.SameClass.{itself, turned, joined, told, alike}
use Rattle.ale_graph.specs.Least.MustBe.{bottom, declared, introduced, restricted, carried, general, both}

abbrev pub Within : List Fact → List Fact → Type 0
Within xs ys = (x : Fact) → Has xs x → Has ys x

pub same_more : (xs ys : List Fact) → Within xs ys → (a b : ℕ) → SameClass xs a b → SameClass ys a b
same_more xs ys w a b (itself _) = itself a
same_more xs ys w a b (turned _ _ h) = turned b a (same_more xs ys w b a h)
same_more xs ys w a b (joined _ c _ h k) = joined a c b (same_more xs ys w a c h) (same_more xs ys w c b k)
same_more xs ys w a b (told _ _ h) = told a b (w (Same a b) h)
same_more xs ys w x y (alike f a b _ _ h k s) = alike f a b x y (w (Value a f x) h) (w (Value b f y) k) (same_more xs ys w a b s)

pub must_more : (h : Hierarchy) (xs ys : List Fact) → Within xs ys → (a t : ℕ) → MustBe h xs a t → MustBe h ys a t
must_more h xs ys w a t (bottom _) = bottom a
must_more h xs ys w a t (declared _ _ p) = declared a t (w (OfType a t) p)
must_more h xs ys w a t (introduced _ f x p) = introduced a f x (w (Value a f x) p)
must_more h xs ys w x r (restricted a f _ t _ p m e) = restricted a f x t r (w (Value a f x) p) (must_more h xs ys w a t m) e
must_more h xs ys w b t (carried a _ _ s m) = carried a b t (same_more xs ys w a b s) (must_more h xs ys w a t m)
must_more h xs ys w a t (general _ _ u up m) = general a t u up (must_more h xs ys w a u m)
must_more h xs ys w a v (both _ t u _ m n e) = both a t u v (must_more h xs ys w a t m) (must_more h xs ys w a u n) e

-- past its last node a structure has none but the most general type
type_past : (s : Structure) (n : ℕ) → count s ≤ n → type_of s n ≡ 0
type_past s n le = ap (λ (x : Node). x.of) (past s.nodes n le)
  where
    past : (xs : List Node) (n : ℕ) → length xs ≤ n → get_or xs n (record { of = 0; values = [] }) ≡ record { of = 0; values = [] }
    past [] n le = refl
    past (x ∷ xs) zero le = absurd (omega arith)
    past (x ∷ xs) (suc n) le = past xs n (omega arith)

pub type_inside : (h : Hierarchy) (s : Structure) → IsLawful h → IsTotal h s → (n : ℕ) → type_of s n < h.types
type_inside h s law total n = go (grind arith)
  where
    go : (n < count s) ⊎ (count s ≤ n) → type_of s n < h.types
    go (inl l) = total.types n l
    go (inr g) = rw (type_past s n g) law.some_type

pub same_holds : (h : Hierarchy) (s : Structure) (at : ℕ → ℕ) (facts : List Fact) → Holds h s at facts → (a b : ℕ) → SameClass facts a b → at a ≡ at b
same_holds h s at facts all a b (itself _) = refl
same_holds h s at facts all a b (turned _ _ k) = sym (same_holds h s at facts all b a k)
same_holds h s at facts all a b (joined _ c _ k l) = same_holds h s at facts all a c k ∙ same_holds h s at facts all c b l
same_holds h s at facts all a b (told _ _ k) = all (Same a b) k
same_holds h s at facts all x y (alike f a b _ _ k l r) =
    let e = same_holds h s at facts all a b r in
    let one = all (Value a f x) k in
    let other = all (Value b f y) l in
    let both : Some (at x) ≡ Some (at y) = sym one ∙ ap (λ n. value_of s n f) e ∙ other in
    cc

pub must_holds : (h : Hierarchy) (s : Structure) (at : ℕ → ℕ) (facts : List Fact) → IsLawful h → IsTotal h s → Holds h s at facts → (a t : ℕ) → MustBe h facts a t → Above h t (type_of s (at a))
must_holds h s at facts law total all a t (bottom _) = law.bottom (type_of s (at a)) (type_inside h s law total (at a))
must_holds h s at facts law total all a t (declared _ _ p) = all (OfType a t) p
must_holds h s at facts law total all a t (introduced _ f x p) =
    let r = total.only (at a) f (at x) (all (Value a f x) p) in
    law.approp_intro f (type_of s (at a)) r.0 r.1
must_holds h s at facts law total all x r (restricted a f _ t _ p m e) =
    let up = must_holds h s at facts law total all a t m in
    let q = law.approp_along f t (type_of s (at a)) r (type_inside h s law total (at a)) up e in
    let o = total.only (at a) f (at x) (all (Value a f x) p) in
    let one : o.0 ≡ q.0 = some_one (sym o.1 ∙ q.1) in
    law.along r q.0 (type_of s (at x)) q.2 (subst (λ z. Above h z (type_of s (at x))) one o.2)
must_holds h s at facts law total all b t (carried a _ _ k m) =
    subst (λ z. Above h t (type_of s z)) (same_holds h s at facts all a b k) (must_holds h s at facts law total all a t m)
must_holds h s at facts law total all a t (general _ _ u up m) =
    law.along t u (type_of s (at a)) up (must_holds h s at facts law total all a u m)
must_holds h s at facts law total all a v (both _ t u _ m n e) =
    law.join_least t u v (type_of s (at a)) e (type_inside h s law total (at a)) (must_holds h s at facts law total all a t m) (must_holds h s at facts law total all a u n)

-- where two types without a join are asked, no structure fulfils the facts
pub clash_none : (h : Hierarchy) (s : Structure) (at : ℕ → ℕ) (facts : List Fact) → IsLawful h → IsTotal h s → Holds h s at facts → Clashes h facts → ⊥
clash_none h s at facts law total all c =
    let one = must_holds h s at facts law total all c.node c.one c.must_one in
    let other = must_holds h s at facts law total all c.node c.other c.must_other in
    let j = law.join_there c.one c.other (type_of s (at c.node)) (type_inside h s law total (at c.node)) one other in
    let e : None ≡ Some j.0 = sym c.missing ∙ j.1 in
    absurd cc
