-- What is kept, where the visible part of an answer is: a part of it.
use Rattle.std.proofs.Common.{◌≡◌, ℕ, ◌<◌, true, IsTrue, List, [], ◌∷◌, ◌++◌, map, filter, length, option_map, inl, inr, refl, sym, ap, ◌∙◌, subst, Some}
use Rattle.std.proofs.lemmas.List.{length-map}
use Rattle.ale_declared.specs.Lists.{Has}
use Rattle.ale_declared.proofs.ListLemmas.{Has-filter, filter_has}
use Rattle.ale_hierarchy.specs.Hierarchy.{Hierarchy, Above, IsLawful}
use Rattle.ale_graph.specs.Structures.{Structure, IsStructure, IsTotal, count, is_formed}
use Rattle.ale_graph.specs.Morphisms.{IsMorphismAside}
use Rattle.ale_graph.specs.Closure.{node_of}
use Rattle.ale_graph.proofs.Lists.{has_left, has_right, has_either, has_map, none_some, some_one}
use Rattle.ale_engine.proofs.Lists.{in_map}
use Rattle.ale_morphism.specs.Visible.{Visible, is_visible, renumbered, origin, visible}
use Rattle.ale_morphism.specs.VisibleLaws as seen_laws
use Rattle.ale_morphism.proofs.ReachSteps.{root_visible}
use Rattle.ale_logic.specs.Programs.{Element, Program}
use Rattle.ale_logic.specs.Words.{Environment, bound_in}
use Rattle.ale_logic.specs.States.{env_at, bound}
use Rattle.ale_logic.specs.Visits.{Answer}
use Rattle.ale_logic.specs.Parts.{Part, renamed, placed, where_rest, kept_answer, whole_of}
use Rattle.ale_logic.specs.PartLaws.{IsElementBelow, IsReattached, IsPart, IsKeepable, PartLaw}
use Rattle.ale_part_law.specs.VisibleParts.{named, rooted_whole, visible_part, visible_of}
use Rattle.ale_part_law.proofs.Attaching.{Attached}
use Rattle.ale_part_law.proofs.Gluing.{attached}
use Rattle.ale_part_law.proofs.VisiblePart as part
use Rattle.ale_part_law.proofs.VisiblePart.{placed_bound, bound_placed, bound_has, has_bound, renamed_back, named_below, below_renamed, rooted_formed}

-- elements that are renamed are there where they were
rest_is : (f : ℕ → ℕ) (es : List Element) (e : Element) (ds : List Element) → map (renamed f) es ≡ e ∷ ds → (d : Element) × (others : List Element) × (es ≡ d ∷ others)
rest_is f [] e ds q = absurd cc
rest_is f (d ∷ es) e ds q = (d, es, refl)

module _ (law : seen_laws.VisibleLaw) (h : Hierarchy) (program : Program) (lawful : IsLawful h) (root : ℕ) (a : Answer) (keepable : IsKeepable h root a) where
  -- the whole, and its graph with all that is to be kept as roots
  abbrev w : Part
  w = whole_of root a

  abbrev g : Structure
  g = rooted_whole (whole_of root a)

  abbrev renum : ℕ → ℕ
  renum = renumbered (rooted_whole (whole_of root a))

  env_low : (es : List Element) (v n : ℕ) → bound_in (where_rest es (kept_answer a).env) v ≡ Some n → n < count a.closed.graph
  env_low [] v n e = absurd (none_some e)
  env_low (d ∷ es) v n e = keepable.is.env_below v n e

  named_low : (n : ℕ) → Has (map named w.rest) (Some n) → n < count a.closed.graph
  named_low n has =
      let r = has_map named w.rest (Some n) has in
      named_below (count a.closed.graph) n r.0 (keepable.rest_below r.0 r.1) (sym r.2)

  root_low : (n : ℕ) → Has (Some w.root ∷ (w.kept.env ++ map named w.rest)) (Some n) → n < count a.closed.graph
  root_low n (inl e) = subst (λ z. z < count a.closed.graph) (sym (some_one e)) keepable.is.root_below
  root_low n (inr has) = elim (has_either w.kept.env (map named w.rest) (Some n) has) [
    | inl p ↦ let r = has_bound w.kept.env n p in env_low a.state.rest r.0 n r.1
    | inr p ↦ named_low n p
  ]

  formed : IsTrue (is_formed g)
  formed = rooted_formed a.closed.graph (Some w.root ∷ (w.kept.env ++ map named w.rest)) keepable.is.structure.formed root_low

  -- roots make no difference to totality and morphisms
  total : IsTotal h g
  total = let t = keepable.is.structure.total in record { types = t.types; there = t.there; only = t.only }

  -- what is a root is visible
  seen : (n : ℕ) → Has g.roots (Some n) → Visible g n
  seen n has = (part.tested law h lawful g formed total keepable.is.structure.extensional keepable.is.structure.apart n (root_low n has)).0 (root_visible g formed n has)

  seen_root : Visible g w.root
  seen_root = seen w.root (inl refl)

  seen_bound : (v n : ℕ) → bound_in w.kept.env v ≡ Some n → Visible g n
  seen_bound v n e = seen n (inr (has_left w.kept.env (map named w.rest) (Some n) (bound_has w.kept.env v n e)))

  seen_named : (e : Element) (n : ℕ) → Has w.rest e → named e ≡ Some n → Visible g n
  seen_named e n has q = seen n (inr (has_right w.kept.env (map named w.rest) (Some n) (subst (Has (map named w.rest)) q (in_map named w.rest e has))))

  back : (n : ℕ) → Visible g n → origin g (renum n) ≡ n
  back = part.back_of law h lawful g formed total keepable.is.structure.extensional keepable.is.structure.apart

  onto : (n : ℕ) → Visible g n → renum n < count (visible g)
  onto = part.onto_of law h lawful g formed total keepable.is.structure.extensional keepable.is.structure.apart

  number : (k : ℕ) → k < count (visible g) → renum (origin g k) ≡ k
  number = part.number_of law h lawful g formed total keepable.is.structure.extensional keepable.is.structure.apart

  inside : (k : ℕ) → k < count (visible g) → origin g k < count g
  inside = part.inside_of law h lawful g formed total keepable.is.structure.extensional keepable.is.structure.apart

  from : (k : ℕ) → k < count (visible g) → Visible g (origin g k)
  from = part.from_of law h lawful g formed total keepable.is.structure.extensional keepable.is.structure.apart

  test : (n : ℕ) → n < count g → Visible g n → is_visible g n ≡ true
  test n low vis = (part.tested law h lawful g formed total keepable.is.structure.extensional keepable.is.structure.apart n low).1 vis

  tested : (n : ℕ) → n < count g → is_visible g n ≡ true → Visible g n
  tested n low e = (part.tested law h lawful g formed total keepable.is.structure.extensional keepable.is.structure.apart n low).0 e

  -- a pair that is kept is one of the whole
  record FromWhole (n k : ℕ) : Type 0 where
    pub node : ℕ
    pub has : Has w.kept.imposed (node, k)
    pub vis : Visible g node
    pub is : n ≡ renum node

  whole_pair_low : (n k : ℕ) → Has w.kept.imposed (n, k) → n < count a.closed.graph
  whole_pair_low n k has = keepable.is.imposed_below n k has

  from_whole : (n k : ℕ) → Has (visible_part w).kept.imposed (n, k) → FromWhole n k
  from_whole n k has = go (has_map (λ (i : ℕ × ℕ). (renum i.0, i.1)) (filter (λ (i : ℕ × ℕ). is_visible g i.0) w.kept.imposed) (n, k) has)
    where
      go : (i : ℕ × ℕ) × Has (filter (λ (i : ℕ × ℕ). is_visible g i.0) w.kept.imposed) i × (◌≡◌ {A = ℕ × ℕ} (n, k) (renum i.0, i.1)) → FromWhole n k
      go (i, at, e) =
          let r = filter_has (λ (i : ℕ × ℕ). is_visible g i.0) w.kept.imposed i at in
          let second : i.1 ≡ k = sym (ap (λ (z : ℕ × ℕ). z.1) e) in
          record { node = i.0; has = subst (λ z. Has {A = ℕ × ℕ} w.kept.imposed (i.0, z)) second r.0; vis = tested i.0 (whole_pair_low i.0 i.1 r.0) r.1; is = ap (λ (z : ℕ × ℕ). z.0) e }

  -- and a pair of the whole is one of the answer
  whole_pair : (n k : ℕ) → Has w.kept.imposed (n, k) → (m : ℕ) × Has a.state.imposed (m, k) × (node_of a.closed m ≡ n)
  whole_pair n k has = go (has_map (λ (p : ℕ × ℕ). (node_of a.closed p.0, p.1)) a.state.imposed (n, k) has)
    where
      go : (p : ℕ × ℕ) × Has a.state.imposed p × (◌≡◌ {A = ℕ × ℕ} (n, k) (node_of a.closed p.0, p.1)) → (m : ℕ) × Has a.state.imposed (m, k) × (node_of a.closed m ≡ n)
      go (p, at, e) =
          let second : p.1 ≡ k = sym (ap (λ (z : ℕ × ℕ). z.1) e) in
          (p.0, subst (λ z. Has {A = ℕ × ℕ} a.state.imposed (p.0, z)) second at, sym (ap (λ (z : ℕ × ℕ). z.0) e))

  -- a variable of the whole is one of the answer
  whole_env : (es : List Element) (v n : ℕ) → bound_in (where_rest es (kept_answer a).env) v ≡ Some n → (m : ℕ) × (bound a.state.envs 0 v ≡ Some m) × (n ≡ node_of a.closed m)
  whole_env [] v n e = absurd (none_some e)
  whole_env (d ∷ es) v n e = placed_bound (node_of a.closed) (env_at a.state.envs 0) v n e

  env_is : (es : List Element) (d : Element) (ds : List Element) → es ≡ d ∷ ds → where_rest es (kept_answer a).env ≡ (kept_answer a).env
  env_is es d ds e = ap (λ z. where_rest z (kept_answer a).env) e

  -- where an element remains in the part, one does in the answer, and its environment is the answer's
  env_there : (e : Element) (es : List Element) → (visible_part w).rest ≡ e ∷ es → w.kept.env ≡ (kept_answer a).env
  env_there e es q =
      let r = rest_is renum w.rest e es q in
      let s = rest_is (node_of a.closed) a.state.rest r.0 r.1 r.2 in
      env_is a.state.rest s.0 s.1 s.2

  reattached : (s : Structure) (to : ℕ → ℕ) → IsStructure h s → IsMorphismAside h (visible_part w).kept.graph s to → IsReattached h a (visible_part w) s to
  reattached s to str mor = record {
    larger = r.larger;
    extends = r.extends;
    map = r.map_to;
    is = r.is;
    agrees = λ n low. r.agrees (origin g n) (inside n low) (test (origin g n) (inside n low) (from n low)) ∙ ap to (number n low);
    added = λ n high low. let m = r.added n high low in (m.0, m.1, m.2, λ t above. subst (Above h t) m.3 above);
  }
    where
      r : Attached h a.closed.graph s (is_visible g) (λ n. to (renum n))
      r =
          let glued = part.glued law h lawful g formed total keepable.is.structure.extensional keepable.is.structure.apart s to mor in
          attached h lawful a.closed.graph s keepable.is.structure str (is_visible g) (λ n. to (renum n))
          (record { closed = glued.closed; into = glued.into; types = glued.types; values = glued.values; pairs = glued.pairs; low = glued.low })

  pub visible_is : IsPart h program root a (visible_part (whole_of root a))
  visible_is = record {
    is = record {
      structure = part.kept_structure law h lawful g formed total keepable.is.structure.extensional keepable.is.structure.apart;
      root_below = onto w.root seen_root;
      env_below = λ v n e. let r = placed_bound renum w.kept.env v n e in subst (λ z. z < count (visible g)) (sym r.2) (onto r.0 (seen_bound v r.0 r.1));
      imposed_below = λ n k has. let r = from_whole n k has in subst (λ z. z < count (visible g)) (sym r.is) (onto r.node r.vis);
    };
    rest_below = λ e has.
        let r = has_map (renamed renum) w.rest e has in
        subst (IsElementBelow (count (visible g))) (sym r.2) (below_renamed renum (count (visible g)) r.0 (λ k q. onto k (seen_named r.0 k r.1 q)));
    onward = λ s to mor. part.kept_onward law h lawful g formed total keepable.is.structure.extensional keepable.is.structure.apart s to (record { into = mor.into; types = mor.types; values = mor.values; differs = mor.differs });
    values = λ n f v low e. (renum v, part.value_is law h lawful g formed total keepable.is.structure.extensional keepable.is.structure.apart n f low ∙ ap (λ o. option_map renum o) e);
    root_is = back w.root seen_root;
    rest = sym (renamed_back renum (origin g) w.rest (λ e n has q. back n (seen_named e n has q)));
    imposed = λ n k has.
        let r = from_whole n k has in
        let p = whole_pair r.node k r.has in
        (p.0, p.1, p.2 ∙ sym (ap (origin g) r.is ∙ back r.node r.vis));
    owes = λ owes n k c low at above.
        let there : Has {A = ℕ × ℕ} w.kept.imposed (origin g n, k) = owes (origin g n) k c (inside n low) at (subst (Above h c.of) (part.type_is law h lawful g formed total keepable.is.structure.extensional keepable.is.structure.apart n low) above) in
        subst (λ z. Has {A = ℕ × ℕ} (visible_part w).kept.imposed (z, k)) (number n low)
        (in_map (λ (i : ℕ × ℕ). (renum i.0, i.1)) (filter (λ (i : ℕ × ℕ). is_visible g i.0) w.kept.imposed) (origin g n, k)
        (Has-filter (λ (i : ℕ × ℕ). is_visible g i.0) w.kept.imposed (origin g n, k) there (test (origin g n) (inside n low) (from n low))));
    env = λ v n e.
        let r = placed_bound renum w.kept.env v n e in
        let m = whole_env a.state.rest v r.0 r.1 in
        (m.0, m.1, sym m.2 ∙ sym (ap (origin g) r.2 ∙ back r.0 (seen_bound v r.0 r.1)));
    env_whole = λ e es q v m b.
        let at : bound_in w.kept.env v ≡ Some (node_of a.closed m) = ap (λ z. bound_in z v) (env_there e es q) ∙ bound_placed (node_of a.closed) (env_at a.state.envs 0) v m b in
        (renum (node_of a.closed m), bound_placed renum w.kept.env v (node_of a.closed m) at, back (node_of a.closed m) (seen_bound v (node_of a.closed m) at));
    env_length = λ e es q. length-map w.kept.env (placed renum) ∙ ap (λ (z : Environment). length z) (env_there e es q) ∙ length-map (env_at a.state.envs 0) (placed (node_of a.closed));
    reattached = reattached;
  }

pub visible_part_law : seen_laws.VisibleLaw → (h : Hierarchy) (program : Program) → IsLawful h → PartLaw h program visible_of
visible_part_law law h program lawful root a keepable = visible_is law h program lawful root a keepable
