-- The invariant of filling and merging: classes and types are the least ones of the facts so far, and each
-- map under which the given facts hold goes on, in one way, to a map under which the facts so far hold.
use Rattle.std.proofs.Common.{◌≡◌, ℕ, ◌≤◌, Bool, true, false, ◌&&◌, eqb, List, [], ◌++◌, refl, sym, ap, ◌∙◌, subst, subst₂, le_refl, append-nil, arith, Option, Some, None, if◌then◌else◌}
use Rattle.std.proofs.lemmas.Bool.{and_parts, and_from, eqb-true, eq-eqb}
use Rattle.ale_declared.specs.Lists.{Has}
use Rattle.ale_hierarchy.specs.Hierarchy.{Hierarchy}
use Rattle.ale_graph.specs.declared.fact.Fact.{Fact}
use Rattle.ale_graph.specs.declared.fact.Fact.TheVariants.{OfType, Value, Same, Differ}
use Rattle.ale_graph.specs.Structures.{Structure, IsStructure, value_of}
use Rattle.ale_graph.specs.Facts.{HoldsFact, Holds, Fulfils, FitsFact, Fits}
use Rattle.ale_graph.specs.Least.{SameClass}
use Rattle.ale_graph.specs.Filling.{Filled, value_told, class_value}
use Rattle.ale_graph.specs.Universal.{Agree, HasExtension}
use Rattle.ale_graph.proofs.Lists.{some_one, none_some}
use Rattle.ale_graph.proofs.Least.{same_holds}
use Rattle.ale_graph.proofs.Settled.{some_found, some_none}
use Rattle.ale_graph.proofs.Classes.{IsClasses, same_from}
use Rattle.ale_graph.proofs.Types.{IsTypes}

pub record IsClosing (h : Hierarchy) (given : List Fact) (before : ℕ) (st : Filled) : Type 0 where
  pub classes : IsClasses st.facts st.next st.class
  pub types : IsTypes h st.facts st.class st.types
  pub fits : Fits h st.facts st.next
  pub longer : before ≤ st.next
  pub front : (more : List Fact) × (st.facts ≡ given ++ more)
  pub extends : (s : Structure) (at : ℕ → ℕ) → IsStructure h s → Fulfils h s at given before → HasExtension h s at before st.facts st.next

-- facts speak of the nodes below next alone
pub holds_agree : (h : Hierarchy) (s : Structure) (next : ℕ) (f g : ℕ → ℕ) → Agree next f g → (x : Fact) → FitsFact h next x → HoldsFact h s f x → HoldsFact h s g x
holds_agree h s next f g agree (OfType n t) fit k = subst (λ z. HoldsFact h s (λ _. z) (OfType n t)) (agree n fit.0) k
holds_agree h s next f g agree (Value n p m) fit k =
    subst₂ (λ y z. value_of s y p ≡ Some z) (agree n fit.0) (agree m fit.2) k
holds_agree h s next f g agree (Same a b) fit k = sym (agree a fit.0) ∙ k ∙ agree b fit.1
holds_agree h s next f g agree (Differ a b) fit k = λ e. k (agree a fit.0 ∙ e ∙ sym (agree b fit.1))

pub fits_more : (h : Hierarchy) (next more : ℕ) → next ≤ more → (x : Fact) → FitsFact h next x → FitsFact h more x
fits_more h next more le (OfType n t) fit = let l = fit.0 in (omega arith, fit.1)
fits_more h next more le (Value n f m) fit = let l = fit.0 in let r = fit.2 in (omega arith, fit.1, omega arith)
fits_more h next more le (Same a b) fit = let l = fit.0 in let r = fit.1 in (omega arith, omega arith)
fits_more h next more le (Differ a b) fit = let l = fit.0 in let r = fit.1 in (omega arith, omega arith)

-- the fact from which the value of a class comes
pub record HasValue (facts : List Fact) (cs : ℕ → ℕ) (c f m : ℕ) : Type 0 where
  pub node : ℕ
  pub value : ℕ
  pub has : Has facts (Value node f value)
  pub of : cs node ≡ c
  pub is : cs value ≡ m

pub told_found : (facts : List Fact) (cs : ℕ → ℕ) (c f m : ℕ) (x : Fact) → Has facts x → value_told cs c f x ≡ Some m → HasValue facts cs c f m
told_found facts cs c f m (OfType n t) hx e = absurd (none_some e)
told_found facts cs c f m (Same a b) hx e = absurd (none_some e)
told_found facts cs c f m (Differ a b) hx e = absurd (none_some e)
told_found facts cs c f m (Value n g v) hx e = go (eqb (cs n) c && eqb g f) refl e
  where
    go : (t : Bool) → (eqb (cs n) c && eqb g f) ≡ t → (if t then Some (cs v) else None) ≡ Some m → HasValue facts cs c f m
    go false is e = absurd (none_some e)
    go true is e =
        let both = and_parts (eqb (cs n) c) (eqb g f) is in
        record { node = n; value = v; has = subst (λ z. Has facts (Value n z v)) (eqb-true g f both.1) hx; of = eqb-true (cs n) c both.0; is = some_one e }

pub value_found : (facts : List Fact) (cs : ℕ → ℕ) (c f m : ℕ) → class_value cs facts c f ≡ Some m → HasValue facts cs c f m
value_found facts cs c f m e = let r = some_found (value_told cs c f) facts m e in told_found facts cs c f m r.0 r.1 r.2

pub told_here : (cs : ℕ → ℕ) (c f n v : ℕ) → cs n ≡ c → value_told cs c f (Value n f v) ≡ Some (cs v)
told_here cs c f n v e =
    let t : (eqb (cs n) c && eqb f f) ≡ true = and_from (eqb (cs n) c) (eqb f f) (eq-eqb (cs n) c e) (eq-eqb f f refl) in
    subst (λ z. (if z then Some (cs v) else None) ≡ Some (cs v)) (sym t) refl

-- a class has the value that a fact about a node of it tells
pub value_there : (facts : List Fact) (next : ℕ) (cs : ℕ → ℕ) → IsClasses facts next cs → (c f n v : ℕ) → Has facts (Value n f v) → cs n ≡ c → class_value cs facts c f ≡ Some (cs v)
value_there facts next cs is c f n v k e = go (class_value cs facts c f) refl
  where
    go : (o : Option ℕ) → class_value cs facts c f ≡ o → class_value cs facts c f ≡ Some (cs v)
    go None q = absurd (none_some (sym (some_none (value_told cs c f) facts (Value n f v) q k) ∙ told_here cs c f n v e))
    go (Some m) q =
        let r = value_found facts cs c f m q in
        let one : SameClass facts r.node n = same_from facts cs is.kept r.node n (r.of ∙ sym e) in
        let same : cs r.value ≡ cs v = is.one r.value v (SameClass.alike f r.node n r.value v r.has k one) in
        q ∙ ap (λ (z : ℕ). Some z) (sym r.is ∙ same)

-- in a structure that fulfils the facts, the value of a class is where its value goes
pub value_holds : (h : Hierarchy) (s : Structure) (at : ℕ → ℕ) (facts : List Fact) (cs : ℕ → ℕ) → ((a : ℕ) → SameClass facts a (cs a)) → Holds h s at facts → (c f m : ℕ) → class_value cs facts c f ≡ Some m → value_of s (at c) f ≡ Some (at m)
value_holds h s at facts cs kept all c f m e =
    let r = value_found facts cs c f m e in
    let from : at r.node ≡ at c = same_holds h s at facts all r.node (cs r.node) (kept r.node) ∙ ap at r.of in
    let to : at r.value ≡ at m = same_holds h s at facts all r.value (cs r.value) (kept r.value) ∙ ap at r.is in
    subst₂ (λ y z. value_of s y f ≡ Some z) from to (all (Value r.node f r.value) r.has)

-- the facts with which filling starts
pub closing_starts : (h : Hierarchy) (given : List Fact) (before : ℕ) (cs ty : ℕ → ℕ) → Fits h given before → IsClasses given before cs → IsTypes h given cs ty → IsClosing h given before (record { facts = given; next = before; class = cs; types = ty })
closing_starts h given before cs ty fits classes types = record {
  classes = classes;
  types = types;
  fits = fits;
  longer = le_refl before;
  front = ([], sym (append-nil given));
  extends = λ s at is ok. record { new = at; agrees = λ a lt. refl; fulfils = ok; only = λ g agree _. agree };
}
