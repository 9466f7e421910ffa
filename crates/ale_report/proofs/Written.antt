-- What is written of the answers to a description are its most general satisfiers, and the text of each fixes it.
use Rattle.std.proofs.Common.{◌≡◌, ℕ, zero, suc, ◌<◌, ◌≤◌, ◌^◌, Bool, true, false, Option, Some, None, List, [], ◌∷◌, ◌++◌, length, length-append, map, option_map, ◌⊎◌, inl, inr, refl, sym, ap, ◌∙◌, subst, arith, IsTrue, get_or}
use Rattle.std.specs.Prelude.{if◌then◌else◌}
use Rattle.ale_declared.specs.Lists.{Has}
use Rattle.ale_hierarchy.specs.Hierarchy.{Hierarchy, Above, IsLawful}
use Rattle.ale_hierarchy.specs.Order.{hierarchy}
use Rattle.ale_graph.specs.Structures.{Structure, IsStructure, count, type_of, value_of, root_at}
use Rattle.ale_graph.specs.Morphisms.{IsMorphism, IsMorphismAside, Subsumes}
use Rattle.ale_graph.specs.Closure.{node_of}
use Rattle.ale_graph.proofs.Lists.{some_one, none_some}
use Rattle.ale_morphism.specs.Visible.{Visible, root, value, is_visible, visible_below, renumbered, origin, visible}
use Rattle.ale_morphism.specs.VisibleLaws.{IsPart}
use Rattle.ale_morphism.proofs.MorphismLaws.{identity}
use Rattle.ale_morphism.proofs.ReachSteps.{total}
use Rattle.ale_morphism.proofs.VisibleLaws.{visible_reached, is_part, kept_to_visible}
use Rattle.ale_logic.specs.declared.answer.Answer.{Answer}
use Rattle.ale_logic.specs.Descriptions.{Description, HoldsAt}
use Rattle.ale_logic.specs.Inequations.{HasNoInequation}
use Rattle.ale_search.specs.Solutions.{IsSolution, IsAnswer, AnswersAreSolutions, SolutionsAreAnswered, SubsumesSolution, SearchLaws}
use Rattle.ale_search.specs.Views.{empty_program}
use Rattle.ale_search.proofs.Bare.{model_of}
use Rattle.ale_print.proofs.Telling.{texts_tell}
use Rattle.ale_report.specs.Parts.{rooted, written}
use Rattle.ale_report.specs.Printing.{IsPrinted}
use Rattle.ale_report.specs.Written.{IsSatisfier, WrittenAreSatisfiers, SatisfiersAreWritten, SubsumedAreSatisfiers, WrittenLaws, TextsLaw}
use Rattle.ale_report.proofs.Printed.{printed}
use Rattle.ale_report.proofs.Seen.{held, visible_structure}

one_root : (s : Structure) (n m i : ℕ) → s.roots ≡ Some n ∷ [] → root_at s i ≡ Some m → m ≡ n
one_root s n m i is e = go i (ap (λ (z : List (Option ℕ)). get_or z i None) (sym is) ∙ e)
  where
    go : (i : ℕ) → get_or (Some n ∷ []) i None ≡ Some m → m ≡ n
    go zero e = sym (some_one e)
    go (suc i) e = absurd (none_some e)

module _ (h : Hierarchy) (law : IsLawful h) (d : Description) (c : Answer) (is : IsAnswer h empty_program d c) where
  structure : IsStructure h (rooted c.closed)
  structure = (printed h d c is).structure

  part : IsPart (rooted c.closed) (visible (rooted c.closed))
  part = is_part (rooted c.closed) structure.formed

  seen_root : Visible (rooted c.closed) (node_of c.closed 0)
  seen_root = root 0 (node_of c.closed 0) refl

  -- the structure that is written subsumes what the answer's graph does, root to root
  pub written_subsumes : (s : Structure) (to : ℕ → ℕ) (n : ℕ) → IsMorphismAside h c.closed.graph s to → to (node_of c.closed 0) ≡ n → s.roots ≡ Some n ∷ [] → Subsumes h (written c) s
  written_subsumes s to n aside root_to roots = record {
    map = λ k. to (origin (rooted c.closed) k);
    is = kept_to_visible (rooted c.closed) structure.formed h s to (record {
      aside = record { into = aside.into; types = aside.types; values = aside.values; differs = aside.differs };
      roots = λ i m e. at i m e;
    });
  }
    where
      there : root_at s 0 ≡ Some n
      there = ap (λ (z : List (Option ℕ)). get_or z 0 None) roots

      at : (i m : ℕ) → root_at (rooted c.closed) i ≡ Some m → root_at s i ≡ Some (to m)
      at zero m e = there ∙ ap (λ (z : ℕ). Some z) (sym root_to ∙ ap to (some_one e))
      at (suc i) m e = absurd (none_some e)

  -- what it subsumes is a satisfier
  module _ (plain : HasNoInequation d) (s : Structure) (n : ℕ) (is_s : IsStructure h s) (roots : s.roots ≡ Some n ∷ []) (sub : Subsumes h (written c) s) where
    to : ℕ → ℕ
    to a = sub.map (renumbered (rooted c.closed) a)

    new : ℕ → ℕ
    new v = if is_visible (rooted c.closed) (is.assign v) then sub.map (renumbered (rooted c.closed) (is.assign v)) else n

    into : (a : ℕ) → Visible (rooted c.closed) a → to a < count s
    unfolding to
    into a v = sub.is.aside.into (renumbered (rooted c.closed) a) (part.onto a v)

    root_to : to (node_of c.closed 0) ≡ n
    unfolding to
    root_to = one_root s n (sub.map (renumbered (rooted c.closed) (node_of c.closed 0))) 0 roots
        (sub.is.roots 0 (renumbered (rooted c.closed) (node_of c.closed 0)) (ap (λ (z : List (Option ℕ)). get_or z 0 None) part.roots))

    root_low : n < count s
    root_low = subst (λ z. z < count s) root_to (into (node_of c.closed 0) seen_root)

    new_low : (v : ℕ) → new v < count s
    unfolding new
    new_low v = go (is_visible (rooted c.closed) (is.assign v)) refl
      where
        go : (b : Bool) → is_visible (rooted c.closed) (is.assign v) ≡ b → (if b then sub.map (renumbered (rooted c.closed) (is.assign v)) else n) < count s
        go true e = sub.is.aside.into (renumbered (rooted c.closed) (is.assign v)) (part.onto (is.assign v) ((part.tested (is.assign v) (is.is.nodes v)).0 e))
        go false e = root_low

    new_is : (v : ℕ) → Visible (rooted c.closed) (is.assign v) → new v ≡ to (is.assign v)
    unfolding new to
    new_is v seen =
        ap (λ (b : Bool). if b then sub.map (renumbered (rooted c.closed) (is.assign v)) else n) (visible_reached (rooted c.closed) structure.formed (is.assign v) seen).1

    types : (a : ℕ) → Visible (rooted c.closed) a → Above h (type_of (rooted c.closed) a) (type_of s (to a))
    unfolding to
    types a v =
        let k = renumbered (rooted c.closed) a in
        subst (λ z. Above h z (type_of s (sub.map k))) (part.types k (part.onto a v) ∙ ap (type_of (rooted c.closed)) (part.back a v)) (sub.is.aside.types k (part.onto a v))

    values : (a f b : ℕ) → Visible (rooted c.closed) a → value_of (rooted c.closed) a f ≡ Some b → value_of s (to a) f ≡ Some (to b)
    unfolding to
    values a f b v e =
        let k = renumbered (rooted c.closed) a in
        sub.is.aside.values k f (renumbered (rooted c.closed) b)
        (part.values k f (part.onto a v) ∙ ap (λ (z : ℕ). option_map (renumbered (rooted c.closed)) (value_of (rooted c.closed) z f)) (part.back a v)
        ∙ ap (option_map (renumbered (rooted c.closed))) e)

    pub subsumed_satisfier : IsSatisfier h d s
    subsumed_satisfier = record {
      root = n;
      root_is = roots;
      assign = new;
      solves = record {
        model = model_of h s is_s (let low = root_low in omega arith);
        node = root_low;
        nodes = new_low;
        holds = subst (λ z. HoldsAt h s new d z) root_to
            (held h law c.closed.graph s (Visible (rooted c.closed)) to (λ a f b v e. value a f b v e) types values is.assign new new_is d plain (node_of c.closed 0) seen_root is.is.holds);
      };
    }

  -- it is one itself
  pub written_structure : IsStructure h (written c)
  written_structure = visible_structure h (rooted c.closed) structure

  pub written_satisfier : HasNoInequation d → IsSatisfier h d (written c)
  written_satisfier plain =
      subsumed_satisfier plain (written c) (renumbered (rooted c.closed) (node_of c.closed 0)) written_structure part.roots
      (record { map = λ k. k; is = identity h (written c) law written_structure.apart })

pub written_laws : SearchLaws → WrittenLaws
written_laws searches h slots d budget lawful fits plain =
    let law = searches h slots d budget lawful fits in
    record {
      sound = λ c has. written_satisfier h lawful d c (law.sound c has) plain;
      complete = λ finished s sat.
          let r = law.complete finished s sat.root sat.assign sat.solves in
          (r.0, r.1, written_subsumes h lawful d r.0 (law.sound r.0 r.1) s r.2.subsumes.map sat.root r.2.subsumes.is r.2.subsumes.root_to sat.root_is);
      subsumed = λ c has s n is_s roots sub. subsumed_satisfier h lawful d c (law.sound c has) plain s n is_s roots sub;
    }

-- there are no more visible nodes than nodes
few_below : (s : Structure) (n : ℕ) → length (visible_below s n) ≤ n
few_below s zero = omega arith
few_below s (suc n) = go (is_visible s n) (few_below s n)
  where
    go : (b : Bool) → length (visible_below s n) ≤ n → length (if b then visible_below s n ++ n ∷ [] else visible_below s n) ≤ suc n
    go true l = let e = length-append (visible_below s n) (n ∷ []) in omega arith
    go false l = omega arith

pub texts_law : TextsLaw
texts_law d desc cs lawful distinct are countable c has t is_t low same =
    let is = are c has in
    let s = rooted c.closed in
    let few = few_below s (count s) in
    let formed = (printed (hierarchy d) desc c is).structure.formed in
    let size = total s formed in
    let small : count (written c) < 2 ^ 64 = (let l = countable c has in omega arith) in
    texts_tell d [] (written c) t lawful distinct (written_structure (hierarchy d) lawful desc c is) is_t (inr refl) (inr refl) small low (sym same)
