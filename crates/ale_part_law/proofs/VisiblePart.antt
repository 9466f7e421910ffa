-- The visible part of an answer is a part of it, to which what was cut off can be added again.
use Rattle.std.proofs.Common.{◌≡◌, ◌↔◌, ℕ, zero, suc, ◌<◌, ◌≤◌, true, ◌&&◌, ltb, IsTrue, List, [], ◌∷◌, map, length, option_map, ◌⊎◌, inl, inr, refl, sym, ap, ◌∙◌, subst, Option, Some, None}
use Rattle.std.proofs.lemmas.Bool.{and_parts, and_from, cases_lt, lt-ltb}
use Rattle.std.proofs.lemmas.List.{get_or_past}
use Rattle.ale_declared.specs.Lists.{Has, every}
use Rattle.ale_hierarchy.specs.Hierarchy.{Hierarchy, Above, IsLawful}
use Rattle.ale_graph.specs.Structures.{Structure, IsStructure, IsTotal, IsExtensional, IsApart, count, type_of, value_of, is_node, is_root, is_formed}
use Rattle.ale_graph.specs.Morphisms.{IsMorphismAside}
use Rattle.ale_graph.proofs.Lists.{has_map, every_from, none_some, some_one}
use Rattle.ale_graph.proofs.Structures.{get_has, value_from, value_inside}
use Rattle.ale_engine.proofs.Lists.{in_map}
use Rattle.ale_morphism.specs.Visible.{Visible, is_visible, renumbered, origin, visible}
use Rattle.ale_morphism.specs.VisibleLaws as seen_laws
use Rattle.ale_morphism.proofs.ReachSteps.{pair_inside, visible_formed}
use Rattle.ale_logic.specs.Programs.{Element, cat, cats, derived, sem_head, member, tail}
use Rattle.ale_logic.specs.Words.{Environment, bound_in}
use Rattle.ale_logic.specs.Growing.{rooted}
use Rattle.ale_logic.specs.Parts.{renamed, placed}
use Rattle.ale_logic.specs.PartLaws.{IsElementBelow}
use Rattle.ale_part_law.specs.VisibleParts.{named}
use Rattle.ale_part_law.proofs.Adding.{option_of}
use Rattle.ale_part_law.proofs.Attaching.{Glued}

-- variables of a renamed environment
pub placed_bound : (to : ℕ → ℕ) (env : Environment) (v n : ℕ) → bound_in (map (placed to) env) v ≡ Some n → (m : ℕ) × (bound_in env v ≡ Some m) × (n ≡ to m)
placed_bound to [] v n e = absurd (none_some e)
placed_bound to (None ∷ env) zero n e = absurd (none_some e)
placed_bound to (Some m ∷ env) zero n e = (m, refl, sym (some_one e))
placed_bound to (o ∷ env) (suc v) n e = placed_bound to env v n e

pub bound_placed : (to : ℕ → ℕ) (env : Environment) (v m : ℕ) → bound_in env v ≡ Some m → bound_in (map (placed to) env) v ≡ Some (to m)
bound_placed to [] v m e = absurd (none_some e)
bound_placed to (None ∷ env) zero m e = absurd (none_some e)
bound_placed to (Some n ∷ env) zero m e = ap Some (ap to (some_one e))
bound_placed to (o ∷ env) (suc v) m e = bound_placed to env v m e

pub bound_has : (env : Environment) (v n : ℕ) → bound_in env v ≡ Some n → Has env (Some n)
bound_has env v n e = go (cases_lt v (length env))
  where
    go : (v < length env) ⊎ (length env ≤ v) → Has env (Some n)
    go (inl low) = subst (Has env) e (get_has env v None low)
    go (inr far) = absurd (none_some (sym (get_or_past env v None far) ∙ e))

pub has_bound : (env : Environment) (n : ℕ) → Has env (Some n) → (v : ℕ) × (bound_in env v ≡ Some n)
has_bound [] n has = absurd has
has_bound (o ∷ env) n (inl e) = (0, sym e)
has_bound (o ∷ env) n (inr has) = let r = has_bound env n has in (suc r.0, r.1)

-- elements whose nodes a map takes back
pub renamed_back : (f g : ℕ → ℕ) (es : List Element) → ((e : Element) (n : ℕ) → Has es e → named e ≡ Some n → g (f n) ≡ n) → map (renamed g) (map (renamed f) es) ≡ es
renamed_back f g [] back = refl
renamed_back f g (cat d ∷ es) back = ap (λ z. cat d ∷ z) (renamed_back f g es (λ e n has. back e n (inr has)))
renamed_back f g (cats d ∷ es) back = ap (λ z. cats d ∷ z) (renamed_back f g es (λ e n has. back e n (inr has)))
renamed_back f g (sem_head d ∷ es) back = ap (λ z. sem_head d ∷ z) (renamed_back f g es (λ e n has. back e n (inr has)))
renamed_back f g (derived goal ∷ es) back = ap (λ z. derived goal ∷ z) (renamed_back f g es (λ e n has. back e n (inr has)))
renamed_back f g (member n ∷ es) back = ap (λ z. member z ∷ map (renamed g) (map (renamed f) es)) (back (member n) n (inl refl) refl) ∙ ap (λ z. member n ∷ z) (renamed_back f g es (λ e n has. back e n (inr has)))
renamed_back f g (tail n ∷ es) back = ap (λ z. tail z ∷ map (renamed g) (map (renamed f) es)) (back (tail n) n (inl refl) refl) ∙ ap (λ z. tail n ∷ z) (renamed_back f g es (λ e n has. back e n (inr has)))

pub named_below : (n k : ℕ) (e : Element) → IsElementBelow n e → named e ≡ Some k → k < n
named_below n k (member m) low e = subst (λ z. z < n) (some_one e) low
named_below n k (tail m) low e = subst (λ z. z < n) (some_one e) low
named_below n k (cat d) low e = absurd (none_some e)
named_below n k (cats d) low e = absurd (none_some e)
named_below n k (sem_head d) low e = absurd (none_some e)
named_below n k (derived g) low e = absurd (none_some e)

pub below_renamed : (f : ℕ → ℕ) (n : ℕ) (e : Element) → ((k : ℕ) → named e ≡ Some k → f k < n) → IsElementBelow n (renamed f e)
below_renamed f n (member m) low = low m refl
below_renamed f n (tail m) low = low m refl
below_renamed f n (cat d) low = tt
below_renamed f n (cats d) low = tt
below_renamed f n (sem_head d) low = tt
below_renamed f n (derived g) low = tt

-- a structure with other roots, which are nodes of it
pub rooted_formed : (s : Structure) (roots : List (Option ℕ)) → IsTrue (is_formed s) → ((n : ℕ) → Has roots (Some n) → n < count s) → IsTrue (is_formed (rooted s roots))
rooted_formed s roots formed low =
    and_from (every (is_node (count s)) s.nodes) (every (λ (p : ℕ × ℕ). ltb p.0 (count s) && ltb p.1 (count s)) s.differ && every (is_root (count s)) roots) parts.0
    (and_from (every (λ (p : ℕ × ℕ). ltb p.0 (count s) && ltb p.1 (count s)) s.differ) (every (is_root (count s)) roots) others.0 (every_from (is_root (count s)) roots (λ o has. root o has)))
  where
    parts : (every (is_node (count s)) s.nodes ≡ true) × ((every (λ (p : ℕ × ℕ). ltb p.0 (count s) && ltb p.1 (count s)) s.differ && every (is_root (count s)) s.roots) ≡ true)
    parts = and_parts (every (is_node (count s)) s.nodes) (every (λ (p : ℕ × ℕ). ltb p.0 (count s) && ltb p.1 (count s)) s.differ && every (is_root (count s)) s.roots) formed

    others : (every (λ (p : ℕ × ℕ). ltb p.0 (count s) && ltb p.1 (count s)) s.differ ≡ true) × (every (is_root (count s)) s.roots ≡ true)
    others = and_parts (every (λ (p : ℕ × ℕ). ltb p.0 (count s) && ltb p.1 (count s)) s.differ) (every (is_root (count s)) s.roots) parts.1

    root : (o : Option ℕ) → Has roots o → is_root (count s) o ≡ true
    root None has = refl
    root (Some n) has = lt-ltb n (count s) (low n has)

-- The visible part of a structure, total and extensional as it is: g is the structure with its roots.
module _ (law : seen_laws.VisibleLaw) (h : Hierarchy) (lawful : IsLawful h) (g : Structure) (formed : IsTrue (is_formed g)) (total : IsTotal h g) (extensional : IsExtensional h g) (apart : IsApart g) where
  abbrev pub kept : Structure
  kept = rooted (visible g) []

  v : seen_laws.IsPart g (visible g)
  v = law g formed

  pub back_of : (n : ℕ) → Visible g n → origin g (renumbered g n) ≡ n
  back_of n vis = v.back n vis

  pub number_of : (k : ℕ) → k < count kept → renumbered g (origin g k) ≡ k
  number_of k low = v.number k low

  pub inside_of : (k : ℕ) → k < count kept → origin g k < count g
  inside_of k low = v.inside k low

  pub onto_of : (n : ℕ) → Visible g n → renumbered g n < count kept
  onto_of n vis = v.onto n vis

  pub from_of : (k : ℕ) → k < count kept → Visible g (origin g k)
  from_of k low = v.from k low

  pub type_is : (k : ℕ) → k < count kept → type_of kept k ≡ type_of g (origin g k)
  type_is k low = v.types k low

  pub value_is : (k f : ℕ) → k < count kept → value_of kept k f ≡ option_map (renumbered g) (value_of g (origin g k) f)
  value_is k f low = v.values k f low

  pub tested : (n : ℕ) → n < count g → IsTrue (is_visible g n) ↔ Visible g n
  tested n low = v.tested n low

  pub differ_is : kept.differ ≡ map (λ (p : ℕ × ℕ). (renumbered g p.0, renumbered g p.1)) g.differ
  differ_is = v.differ

  -- a value of the part is that of a visible node
  pub value_from_whole : (k f m : ℕ) → value_of kept k f ≡ Some m → (j : ℕ) × (value_of g (origin g k) f ≡ Some j) × (renumbered g j ≡ m) × (origin g m ≡ j)
  value_from_whole k f m e = go (option_of (renumbered g) (value_of g (origin g k) f) m (sym (value_is k f low) ∙ e))
    where
      low : k < count kept
      low = value_from kept k f m e

      go : (j : ℕ) × (value_of g (origin g k) f ≡ Some j) × (renumbered g j ≡ m) → (j : ℕ) × (value_of g (origin g k) f ≡ Some j) × (renumbered g j ≡ m) × (origin g m ≡ j)
      go (j, at, is) = (j, at, is, ap (origin g) (sym is) ∙ v.back j (Visible.value (origin g k) f j (v.from k low) at))

  pub pair_visible_of : (a b : ℕ) → Has g.differ (a, b) → Visible g a × Visible g b
  pair_visible_of a b has = (Visible.differs_first a b has, Visible.differs_second a b has)

  pub pair_from_whole : (a b : ℕ) → Has kept.differ (a, b) → (p : ℕ × ℕ) × Has g.differ p × (origin g a ≡ p.0) × (origin g b ≡ p.1)
  pair_from_whole a b has = go (has_map (λ (p : ℕ × ℕ). (renumbered g p.0, renumbered g p.1)) g.differ (a, b) (subst (λ (w : List (ℕ × ℕ)). Has w (a, b)) differ_is has))
    where
      go : (p : ℕ × ℕ) × Has g.differ p × (◌≡◌ {A = ℕ × ℕ} (a, b) (renumbered g p.0, renumbered g p.1)) → (p : ℕ × ℕ) × Has g.differ p × (origin g a ≡ p.0) × (origin g b ≡ p.1)
      go (p, in_g, e) =
          let vis = pair_visible_of p.0 p.1 in_g in
          (p, in_g, ap (origin g) (ap (λ (z : ℕ × ℕ). z.0) e) ∙ v.back p.0 vis.0, ap (origin g) (ap (λ (z : ℕ × ℕ). z.1) e) ∙ v.back p.1 vis.1)

  kept_formed : IsTrue (is_formed kept)
  kept_formed = rooted_formed (visible g) [] (visible_formed g formed) (λ n has. absurd has)

  kept_total : IsTotal h kept
  kept_total = record {
    types = λ k low. subst (λ z. z < h.types) (sym (type_is k low)) (total.types (origin g k) (v.inside k low));
    there = λ k f q low e.
        let r = total.there (origin g k) f q (v.inside k low) (ap (h.approp f) (sym (type_is k low)) ∙ e) in
        (renumbered g r.0, value_is k f low ∙ ap (option_map (renumbered g)) r.1);
    only = λ k f m e. only k f m (value_from kept k f m e) (value_inside kept kept_formed k f m e) (value_from_whole k f m e);
  }
    where
      only : (k f m : ℕ) → k < count kept → m < count kept → (j : ℕ) × (value_of g (origin g k) f ≡ Some j) × (renumbered g j ≡ m) × (origin g m ≡ j) → (q : ℕ) × (h.approp f (type_of kept k) ≡ Some q) × Above h q (type_of kept m)
      only k f m low m_low (j, at, is, from) =
          let r = total.only (origin g k) f j at in
          (r.0, ap (h.approp f) (type_is k low) ∙ r.1, subst (Above h r.0) (sym (type_is m m_low ∙ ap (type_of g) from)) r.2)

  kept_extensional : IsExtensional h kept
  kept_extensional a b in_a in_b type ext values =
      sym (v.number a in_a) ∙ ap (renumbered g) (extensional (origin g a) (origin g b) (v.inside a in_a) (v.inside b in_b) (sym (type_is a in_a) ∙ type ∙ type_is b in_b) (ap h.is_ext (sym (type_is a in_a)) ∙ ext) same) ∙ v.number b in_b
    where
      vis_value : (k f m : ℕ) → k < count kept → value_of g (origin g k) f ≡ Some m → Visible g m
      vis_value k f m low e = Visible.value (origin g k) f m (v.from k low) e

      alike : (f : ℕ) (o p : Option ℕ) → value_of g (origin g a) f ≡ o → value_of g (origin g b) f ≡ p → option_map (renumbered g) o ≡ option_map (renumbered g) p → o ≡ p
      alike f None None eo ep e = refl
      alike f None (Some m) eo ep e = absurd (none_some e)
      alike f (Some m) None eo ep e = absurd (none_some (sym e))
      alike f (Some m) (Some n) eo ep e = ap Some (sym (v.back m (vis_value a f m in_a eo)) ∙ ap (origin g) (some_one e) ∙ v.back n (vis_value b f n in_b ep))

      same : (f : ℕ) → value_of g (origin g a) f ≡ value_of g (origin g b) f
      same f = alike f (value_of g (origin g a) f) (value_of g (origin g b) f) refl refl (sym (value_is a f in_a) ∙ values f ∙ value_is b f in_b)

  kept_apart : IsApart kept
  kept_apart a b has same =
      let r = pair_from_whole a b has in
      apart r.0.0 r.0.1 r.1 (sym r.2 ∙ ap (origin g) same ∙ r.3)

  pub kept_structure : IsStructure h kept
  kept_structure = record { formed = kept_formed; total = kept_total; extensional = kept_extensional; apart = kept_apart }

  -- a morphism, kept to the visible part, is one
  pub kept_onward : (s : Structure) (to : ℕ → ℕ) → IsMorphismAside h g s to → IsMorphismAside h kept s (λ k. to (origin g k))
  kept_onward s to mor = record {
    into = λ k low. mor.into (origin g k) (v.inside k low);
    types = λ k low. subst (λ z. Above h z (type_of s (to (origin g k)))) (sym (type_is k low)) (mor.types (origin g k) (v.inside k low));
    values = λ k f m e. let r = value_from_whole k f m e in mor.values (origin g k) f r.0 r.1 ∙ ap (λ z. Some (to z)) (sym r.3);
    differs = λ a b has e. let r = pair_from_whole a b has in mor.differs r.0.0 r.0.1 r.1 (ap to (sym r.2) ∙ e ∙ ap to r.3);
  }

  -- and where the part goes, the visible nodes of all go
  pub glued : (s : Structure) (to : ℕ → ℕ) → IsMorphismAside h kept s to → Glued h g s (is_visible g) (λ n. to (renumbered g n))
  glued s to mor = record {
    closed = λ n f m low e q. (tested m (value_inside g formed n f m q)).1 (Visible.value n f m ((tested n low).0 e) q);
    into = λ n low e. mor.into (renumbered g n) (v.onto n ((tested n low).0 e));
    types = λ n low e.
        let vis = (tested n low).0 e in
        subst (λ z. Above h z (type_of s (to (renumbered g n)))) (type_is (renumbered g n) (v.onto n vis) ∙ ap (type_of g) (v.back n vis)) (mor.types (renumbered g n) (v.onto n vis));
    values = λ n f m low e q.
        let vis = (tested n low).0 e in
        mor.values (renumbered g n) f (renumbered g m) (value_is (renumbered g n) f (v.onto n vis) ∙ ap (λ z. option_map (renumbered g) (value_of g z f)) (v.back n vis) ∙ ap (option_map (renumbered g)) q);
    pairs = λ a b has.
        let low = pair_inside g formed (a, b) has in
        let vis = pair_visible_of a b has in (
          (tested a low.0).1 vis.0,
          (tested b low.1).1 vis.1,
          mor.differs (renumbered g a) (renumbered g b) (subst (λ (w : List (ℕ × ℕ)). Has w (renumbered g a, renumbered g b)) (sym differ_is) (in_map (λ (p : ℕ × ℕ). (renumbered g p.0, renumbered g p.1)) g.differ (a, b) has)),
        );
    low = λ a b has. pair_inside g formed (a, b) has;
  }
