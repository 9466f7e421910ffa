-- Where nothing else is said of types, what is visible of a structure at whose root a description holds is a satisfier
-- itself, and so is each structure that it subsumes, root to root.
use Rattle.std.proofs.Common.{◌≡◌, ℕ, zero, suc, ◌<◌, Bool, true, false, Option, Some, None, List, [], ◌∷◌, map, option_map, refl, sym, ap, ◌∙◌, subst, arith, get_or}
use Rattle.std.specs.Prelude.{if◌then◌else◌}
use Rattle.ale_hierarchy.specs.Hierarchy.{Hierarchy, Above, IsLawful}
use Rattle.ale_graph.specs.Structures.{Structure, IsStructure, count, type_of, value_of, root_at}
use Rattle.ale_graph.specs.Morphisms.{Subsumes}
use Rattle.ale_graph.proofs.Lists.{some_one, none_some}
use Rattle.ale_morphism.specs.Visible.{Visible, root, value, is_visible, renumbered, visible}
use Rattle.ale_morphism.specs.VisibleLaws.{IsPart}
use Rattle.ale_morphism.proofs.MorphismLaws.{identity}
use Rattle.ale_morphism.proofs.VisibleLaws.{visible_reached, is_part}
use Rattle.ale_logic.specs.Descriptions.{Description, HoldsAt, Describes}
use Rattle.ale_logic.specs.Growing.{rooted}
use Rattle.ale_logic.specs.Models.{IsModel}
use Rattle.ale_logic.specs.Programs.{Constraint, Program}
use Rattle.ale_task.specs.Satisfiers.{IsSatisfier, IsBare}
use Rattle.ale_task.proofs.Seen.{held, visible_structure}

one_root : (s : Structure) (n m i : ℕ) → s.roots ≡ Some n ∷ [] → root_at s i ≡ Some m → m ≡ n
one_root s n m i is e = go i (ap (λ (z : List (Option ℕ)). get_or z i None) (sym is) ∙ e)
  where
    go : (i : ℕ) → get_or (Some n ∷ []) i None ≡ Some m → m ≡ n
    go zero e = sym (some_one e)
    go (suc i) e = absurd (none_some e)

-- without constraints each structure with a node is a model
model_of : (h : Hierarchy) (program : Program) → program.constraints ≡ [] → (s : Structure) → IsStructure h s → 0 < count s → IsModel h program s
model_of h program none s is some = record {
  structure = is;
  some_node = some;
  meets = λ n k c low e above. absurd (past k c (ap (λ (cs : List Constraint). get_or (map Some cs) k None) (sym none) ∙ e));
}
  where
    past : (k : ℕ) (c : Constraint) → get_or {A = Option Constraint} [] k None ≡ Some c → ⊥
    past zero c e = none_some e
    past (suc k) c e = none_some e

module _ (h : Hierarchy) (program : Program) (law : IsLawful h) (d : Description) (bare : IsBare program d)
    (g : Structure) (r : ℕ) (structure : IsStructure h (rooted g (Some r ∷ []))) (is : Describes h g d r) where
  abbrev s : Structure
  s = rooted g (Some r ∷ [])

  part : IsPart s (visible s)
  part = is_part s structure.formed

  seen_root : Visible s r
  seen_root = root 0 r refl

  module _ (t : Structure) (n : ℕ) (is_t : IsStructure h t) (roots_t : t.roots ≡ Some n ∷ []) (sub : Subsumes h (visible s) t) where
    to : ℕ → ℕ
    to a = sub.map (renumbered s a)

    new : ℕ → ℕ
    new v = if is_visible s (is.assign v) then sub.map (renumbered s (is.assign v)) else n

    into : (a : ℕ) → Visible s a → to a < count t
    unfolding to
    into a v = sub.is.aside.into (renumbered s a) (part.onto a v)

    root_to : to r ≡ n
    unfolding to
    root_to = one_root t n (sub.map (renumbered s r)) 0 roots_t (sub.is.roots 0 (renumbered s r) (ap (λ (z : List (Option ℕ)). get_or z 0 None) part.roots))

    root_low : n < count t
    root_low = subst (λ z. z < count t) root_to (into r seen_root)

    new_low : (v : ℕ) → new v < count t
    unfolding new
    new_low v = go (is_visible s (is.assign v)) refl
      where
        go : (b : Bool) → is_visible s (is.assign v) ≡ b → (if b then sub.map (renumbered s (is.assign v)) else n) < count t
        go true e = sub.is.aside.into (renumbered s (is.assign v)) (part.onto (is.assign v) ((part.tested (is.assign v) (is.nodes v)).0 e))
        go false e = root_low

    new_is : (v : ℕ) → Visible s (is.assign v) → new v ≡ to (is.assign v)
    unfolding new to
    new_is v seen = ap (λ (b : Bool). if b then sub.map (renumbered s (is.assign v)) else n) (visible_reached s structure.formed (is.assign v) seen).1

    types : (a : ℕ) → Visible s a → Above h (type_of s a) (type_of t (to a))
    unfolding to
    types a v =
        let k = renumbered s a in
        subst (λ z. Above h z (type_of t (sub.map k))) (part.types k (part.onto a v) ∙ ap (type_of s) (part.back a v)) (sub.is.aside.types k (part.onto a v))

    values : (a f b : ℕ) → Visible s a → value_of s a f ≡ Some b → value_of t (to a) f ≡ Some (to b)
    unfolding to
    values a f b v e =
        let k = renumbered s a in
        sub.is.aside.values k f (renumbered s b)
        (part.values k f (part.onto a v) ∙ ap (λ (z : ℕ). option_map (renumbered s) (value_of s z f)) (part.back a v) ∙ ap (option_map (renumbered s)) e)

    pub subsumed_satisfier : IsSatisfier h program d t
    subsumed_satisfier = record {
      root = n;
      root_is = roots_t;
      solves = (
        record { model = model_of h program bare.constraints t is_t (let low = root_low in omega arith); node = root_low },
        record {
          assign = new;
          nodes = new_low;
          holds = subst (λ z. HoldsAt h t new d z) root_to
              (held h law g t (Visible s) to (λ a f b v e. value a f b v e) types values is.assign new new_is d bare.inequations r seen_root is.holds);
        },
      );
    }

  pub visible_satisfier : IsSatisfier h program d (visible s)
  visible_satisfier =
      let whole = visible_structure h s structure in
      subsumed_satisfier (visible s) (renumbered s r) whole part.roots (record { map = λ k. k; is = identity h (visible s) law whole.apart })
