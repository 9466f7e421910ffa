-- What the starts of an item hold of where they go: the structures of the items, what was imposed, and that what covers
-- the elements that remain in the end covers those of the item.
use Rattle.std.proofs.Common.{◌≡◌, ℕ, ◌+◌, ◌<◌, ◌≤◌, List, [], ◌∷◌, ◌++◌, map, ◌⊎◌, inl, inr, refl, sym, ap, ◌∙◌, subst, arith, Option, Some, None}
use Rattle.std.proofs.lemmas.List.{append-nil}
use Rattle.ale_declared.specs.Lists.{Has}
use Rattle.ale_hierarchy.specs.Hierarchy.{Hierarchy}
use Rattle.ale_graph.specs.declared.fact.Fact.{Fact}
use Rattle.ale_graph.specs.declared.fact.Fact.TheVariants.{Same}
use Rattle.ale_graph.specs.Structures.{Structure, IsStructure, count, value_of}
use Rattle.ale_graph.specs.Morphisms.{IsMorphismAside}
use Rattle.ale_graph.proofs.Lists.{has_right, none_some, some_one}
use Rattle.ale_logic.specs.Derivations.{Derivable}
use Rattle.ale_logic.specs.Descriptions.{Description, HoldsAt}
use Rattle.ale_logic.specs.Programs.{Word, Element, cat, cats, derived, sem_head, member, tail, ListTypes, Program}
use Rattle.ale_logic.specs.ListNodes.{hd_of, tl_of, IsNonEmptyList, IsHd, IsTl}
use Rattle.ale_logic.specs.Spans.{Spans, Covers, ListSpans}
use Rattle.ale_logic.specs.Spans.Covers.{no_more, by_cat, by_head, by_cats, by_goal, by_member, by_tail}
use Rattle.ale_logic.specs.Spans.ListSpans.{ends, goes_on}
use Rattle.ale_logic.specs.States.{holds, on, split, State, doing, grown}
use Rattle.ale_logic.specs.Putting.{graph_facts, moved}
use Rattle.ale_logic.specs.Satisfaction.{Sense, Satisfies, HoldItems, HoldsEnd}
use Rattle.ale_logic.specs.Parts.{renamed}
use Rattle.ale_logic.specs.Lexicons.{wordless}
use Rattle.ale_logic.specs.Starts.{ChartItem, mother_at, at_node, end_of, end_items, start_item, split_at, own_start, side_by_side, root_beside, same_as, daughter_start}
use Rattle.ale_chart_law.proofs.Items.{tl_below}

-- the start of an item's own search has its facts and what was imposed in it
pub record OwnShape (x : ChartItem) (st : State) : Type 0 where
  pub facts : st.facts ≡ graph_facts 0 x.kept.graph
  pub imposed : st.imposed ≡ moved 0 x.kept.imposed
  pub far : 0 + count x.kept.graph ≤ st.next

pub own_shape : (program : Program) (x : ChartItem) (e : Element) (es : List Element) (st : State) → Has (own_start program x e es) st → OwnShape x st
own_shape program x (derived g) es st (inl p) = record { facts = ap (λ z. z.facts) p; imposed = ap (λ z. z.imposed) p; far = let n = ap (λ (z : State). z.next) p in omega arith }
own_shape program x (derived g) es st (inr p) = absurd p
own_shape program x (cats d) es st (inl p) = record { facts = ap (λ z. z.facts) p; imposed = ap (λ z. z.imposed) p; far = let n = ap (λ (z : State). z.next) p in omega arith }
own_shape program x (cats d) es st (inr p) = absurd p
own_shape program x (tail n) es st has = go (tl_of program.lists x.kept.graph n) has
  where
    go : (o : Option ℕ) → Has (split_at program x es o) st → OwnShape x st
    go None has = absurd has
    go (Some m) (inl p) = record { facts = ap (λ z. z.facts) p; imposed = ap (λ z. z.imposed) p; far = let n = ap (λ (z : State). z.next) p in omega arith }
    go (Some m) (inr p) = absurd p
own_shape program x (cat d) es st has = absurd has
own_shape program x (sem_head d) es st has = absurd has
own_shape program x (member n) es st has = absurd has

-- the start with another item has the facts of both, and what was imposed in both
pub record PairShape (x y : ChartItem) (st : State) : Type 0 where
  pub more : List Fact
  pub facts : st.facts ≡ (graph_facts 0 x.kept.graph ++ graph_facts (0 + count x.kept.graph) y.kept.graph) ++ more
  pub imposed : st.imposed ≡ moved 0 x.kept.imposed ++ moved (0 + count x.kept.graph) y.kept.imposed
  pub far : (0 + count x.kept.graph) + count y.kept.graph ≤ st.next

pub pair_shape : (program : Program) (x : ChartItem) (e : Element) (es : List Element) (y : ChartItem) (st : State) → Has (daughter_start program x e es y) st → PairShape x y st
pair_shape program x e es y st = go e
  where
    both : List Fact
    both = graph_facts 0 x.kept.graph ++ graph_facts (0 + count x.kept.graph) y.kept.graph

    described : st.facts ≡ graph_facts 0 x.kept.graph ++ graph_facts (0 + count x.kept.graph) y.kept.graph → st.imposed ≡ moved 0 x.kept.imposed ++ moved (0 + count x.kept.graph) y.kept.imposed → st.next ≡ (0 + count x.kept.graph) + count y.kept.graph → PairShape x y st
    described f i n = record { more = []; facts = f ∙ sym (append-nil (graph_facts 0 x.kept.graph ++ graph_facts (0 + count x.kept.graph) y.kept.graph)); imposed = i; far = omega arith }

    go : (d : Element) → Has (daughter_start program x d es y) st → PairShape x y st
    go (cat d) (inl p) = described (ap (λ z. z.facts) p) (ap (λ z. z.imposed) p) (ap (λ z. z.next) p)
    go (cat d) (inr p) = absurd p
    go (sem_head d) (inl p) = described (ap (λ z. z.facts) p) (ap (λ z. z.imposed) p) (ap (λ z. z.next) p)
    go (sem_head d) (inr p) = absurd p
    go (member n) has = of (hd_of program.lists x.kept.graph n) has
      where
        of : (o : Option ℕ) → Has (same_as (side_by_side program x es y) (root_beside x es y) o) st → PairShape x y st
        of None has = absurd has
        of (Some m) (inl p) = record { more = Same m (root_beside x es y) ∷ []; facts = ap (λ z. z.facts) p; imposed = ap (λ z. z.imposed) p; far = let n = ap (λ (z : State). z.next) p in omega arith }
        of (Some m) (inr p) = absurd p
    go (derived g) has = absurd has
    go (cats d) has = absurd has
    go (tail n) has = absurd has

-- a covering whose first element is a member, or a tail, taken apart
pub record MemberCovers (h : Hierarchy) (program : Program) (s : Structure) (words : List Word) (assign : ℕ → ℕ) (m : ℕ) (es : List Element) (i k : ℕ) : Type 0 where
  pub hd : ℕ
  pub place : ℕ
  pub is_hd : IsHd program s m hd
  pub spans : Spans h program s words hd i place
  pub covers : Covers h program s words assign es place k

pub record TailCovers (h : Hierarchy) (program : Program) (s : Structure) (words : List Word) (assign : ℕ → ℕ) (m : ℕ) (es : List Element) (i k : ℕ) : Type 0 where
  pub tl : ℕ
  pub place : ℕ
  pub is_tl : IsTl program s m tl
  pub spans : ListSpans h program s words tl i place
  pub covers : Covers h program s words assign es place k

module _ (h : Hierarchy) (program : Program) (s : Structure) (words : List Word) (m : ℕ) (es : List Element) where
  pub uncover_member : (assign : ℕ → ℕ) (xs : List Element) (i k : ℕ) → xs ≡ member m ∷ es → Covers h program s words assign xs i k → MemberCovers h program s words assign m es i k
  uncover_member _ _ _ _ eq (by_member assign ds n hd i j k is spans covers) =
      let node : n ≡ m = cc in
      let others : ds ≡ es = cc in
      record { hd = hd; place = j; is_hd = subst (λ z. IsHd program s z hd) node is; spans = spans; covers = subst (λ z. Covers h program s words assign z j k) others covers }
  uncover_member _ _ _ _ eq (no_more assign i) = absurd cc
  uncover_member _ _ _ _ eq (by_cat assign d ds n i j k a b c) = absurd cc
  uncover_member _ _ _ _ eq (by_head assign d ds n i j k a b c) = absurd cc
  uncover_member _ _ _ _ eq (by_cats assign d ds n i j k a b c) = absurd cc
  uncover_member _ _ _ _ eq (by_goal assign g ds i k a b) = absurd cc
  uncover_member _ _ _ _ eq (by_tail assign ds n tl i j k a b c) = absurd cc

  pub uncover_tail : (assign : ℕ → ℕ) (xs : List Element) (i k : ℕ) → xs ≡ tail m ∷ es → Covers h program s words assign xs i k → TailCovers h program s words assign m es i k
  uncover_tail _ _ _ _ eq (by_tail assign ds n tl i j k is spans covers) =
      let node : n ≡ m = cc in
      let others : ds ≡ es = cc in
      record { tl = tl; place = j; is_tl = subst (λ z. IsTl program s z tl) node is; spans = spans; covers = subst (λ z. Covers h program s words assign z j k) others covers }
  uncover_tail _ _ _ _ eq (no_more assign i) = absurd cc
  uncover_tail _ _ _ _ eq (by_cat assign d ds n i j k a b c) = absurd cc
  uncover_tail _ _ _ _ eq (by_head assign d ds n i j k a b c) = absurd cc
  uncover_tail _ _ _ _ eq (by_cats assign d ds n i j k a b c) = absurd cc
  uncover_tail _ _ _ _ eq (by_goal assign g ds i k a b) = absurd cc
  uncover_tail _ _ _ _ eq (by_member assign ds n hd i j k a b c) = absurd cc

-- a morphism takes a list's first member, and the others, to those of the image
pub hd_on : (o : Option ListTypes) (g s : Structure) (f : ℕ → ℕ) → ((n k m : ℕ) → value_of g n k ≡ Some m → value_of s (f n) k ≡ Some (f m)) → (n m : ℕ) → hd_of o g n ≡ Some m → hd_of o s (f n) ≡ Some (f m)
hd_on None g s f keeps n m e = absurd (none_some e)
hd_on (Some l) g s f keeps n m e = keeps n l.hd m e

pub tl_on : (o : Option ListTypes) (g s : Structure) (f : ℕ → ℕ) → ((n k m : ℕ) → value_of g n k ≡ Some m → value_of s (f n) k ≡ Some (f m)) → (n m : ℕ) → tl_of o g n ≡ Some m → tl_of o s (f n) ≡ Some (f m)
tl_on None g s f keeps n m e = absurd (none_some e)
tl_on (Some l) g s f keeps n m e = keeps n l.tl m e

module _ (h : Hierarchy) (program : Program) (u : Structure) (str : IsStructure h u) (z : Sense) (x : ChartItem) where
  -- what the start of a search of x with the elements `e` and then `es` says, where so many elements remain in the end
  pub record Advances (sentence : List Word) (e : Element) (es : List Element) (to : ℕ) (remain : List Element) : Type 0 where
    -- those behind the first, or the member and the tail of a list before them
    pub rests : (remain ≡ es) ⊎ ((n : ℕ) × (z.node n < count u) × IsNonEmptyList h program u (z.node n) × (remain ≡ member n ∷ tail n ∷ es))
    -- what covers them from where the search leads covers those of the item from its end
    pub covers : (k : ℕ) → Covers h program u sentence (z.var 0) (map (renamed z.node) remain) to k → Covers h program u sentence (z.var 0) (map (renamed z.node) (e ∷ es)) x.to k
    pub mother : (d : Description) → mother_at program.rules x.rule ≡ Some d → remain ≡ [] → HoldsAt h u (z.var 0) d (z.node x.root)

  ends_rest : (o : Option (ℕ × Description)) (es remain : List Element) → HoldItems (wordless h program) u z (end_items o ++ []) es remain → (remain ≡ es) × HoldsEnd (wordless h program) u z o
  ends_rest None es remain p = (p, tt)
  ends_rest (Some end) es remain p = (p.1, p.0)

  mother_holds : (es : List Element) (d : Description) → mother_at program.rules x.rule ≡ Some d → es ≡ [] → HoldsEnd (wordless h program) u z (end_of program x es) → HoldsAt h u (z.var 0) d (z.node x.root)
  mother_holds [] d number none p = go (mother_at program.rules x.rule) number p
    where
      go : (o : Option Description) → o ≡ Some d → HoldsEnd (wordless h program) u z (at_node x.root o) → HoldsAt h u (z.var 0) d (z.node x.root)
      go None q p = absurd (none_some q)
      go (Some m) q p = subst (λ y. HoldsAt h u (z.var 0) y (z.node x.root)) (some_one q) p
  mother_holds (e ∷ es) d number none p = absurd cc

  -- where an open list ended, or had a member: the list's members cover from the item's end on
  record Listed (sentence : List Word) (n : ℕ) (es : List Element) (to : ℕ) (remain : List Element) (k : ℕ) : Type 0 where
    pub place : ℕ
    pub spans : ListSpans h program u sentence (z.node n) to place
    pub covers : Covers h program u sentence (z.var 0) (map (renamed z.node) es) place k

  listed : (sentence : List Word) (n : ℕ) (es : List Element) (to : ℕ) (remain : List Element) (k : ℕ) → z.node n < count u → (o : Option (ℕ × Description)) → HoldItems (wordless h program) u z (split n o ∷ []) es remain →
      Covers h program u sentence (z.var 0) (map (renamed z.node) remain) to k → Listed sentence n es to remain k
  listed sentence n es to remain k low o (inl (empty, end, p)) covers = record {
    place = to;
    spans = ends (z.node n) to low empty;
    covers = subst (λ r. Covers h program u sentence (z.var 0) (map (renamed z.node) r) to k) p covers;
  }
  listed sentence n es to remain k low o (inr (longer, p)) covers =
      let a = uncover_member h program u sentence (z.node n) (tail (z.node n) ∷ map (renamed z.node) es) (z.var 0) (map (renamed z.node) remain) to k (ap (λ r. map (renamed z.node) r) p) covers in
      let b = uncover_tail h program u sentence (z.node n) (map (renamed z.node) es) (z.var 0) (tail (z.node n) ∷ map (renamed z.node) es) a.place k refl a.covers in
      record {
        place = b.place;
        spans = goes_on (z.node n) a.hd b.tl to a.place b.place low (record { is_list = longer; hd_is = a.is_hd; tl_is = b.is_tl }) a.spans b.spans;
        covers = b.covers;
      }

  -- which elements remain of an open list, and what holds at its end
  split_rests : (n : ℕ) (es remain : List Element) → z.node n < count u → (o : Option (ℕ × Description)) → HoldItems (wordless h program) u z (split n o ∷ []) es remain → (remain ≡ es) ⊎ ((m : ℕ) × (z.node m < count u) × IsNonEmptyList h program u (z.node m) × (remain ≡ member m ∷ tail m ∷ es))
  split_rests n es remain low o (inl (empty, end, p)) = inl p
  split_rests n es remain low o (inr (longer, p)) = inr (n, low, longer, p)

  split_mother : (n : ℕ) (es remain : List Element) → HoldItems (wordless h program) u z (split n (end_of program x es) ∷ []) es remain → (d : Description) → mother_at program.rules x.rule ≡ Some d → remain ≡ [] → HoldsAt h u (z.var 0) d (z.node x.root)
  split_mother n es remain (inl (empty, end, p)) d number none = mother_holds es d number (sym p ∙ none) end
  split_mother n es remain (inr (longer, p)) d number none = absurd (let clash : [] ≡ member n ∷ tail n ∷ es = sym none ∙ p in cc)

  pub own_advances : (sentence : List Word) (e : Element) (es remain : List Element) (st : State) → IsMorphismAside h x.kept.graph u z.node → Has (own_start program x e es) st → Satisfies (wordless h program) u z st remain → Advances sentence e es x.to remain
  own_advances sentence (derived g) es remain st mor (inl p) sat = go (subst (λ y. Satisfies (wordless h program) u z y remain) p sat).items
    where
      go : Derivable h program u (z.var 0) g × HoldItems (wordless h program) u z (end_items (end_of program x es) ++ []) es remain → Advances sentence (derived g) es x.to remain
      go (holds_g, rest) =
          let r = ends_rest (end_of program x es) es remain rest in
          record {
            rests = inl r.0;
            covers = λ k cov. by_goal (z.var 0) g (map (renamed z.node) es) x.to k holds_g (subst (λ y. Covers h program u sentence (z.var 0) (map (renamed z.node) y) x.to k) r.0 cov);
            mother = λ d number none. mother_holds es d number (sym r.0 ∙ none) r.1;
          }
  own_advances sentence (derived g) es remain st mor (inr p) sat = absurd p
  own_advances sentence (cats d) es remain st mor (inl p) sat = go (subst (λ y. Satisfies (wordless h program) u z y remain) p sat)
    where
      go : Satisfies (wordless h program) u z (doing (on (0 + count x.kept.graph) (holds 0 d)) (doing (split (0 + count x.kept.graph) (end_of program x es)) (grown 1 (start_item x es)))) remain → Advances sentence (cats d) es x.to remain
      go q =
          let low : z.node (0 + count x.kept.graph) < count u = q.fulfils.into (0 + count x.kept.graph) (omega arith) in
          record {
            rests = split_rests (0 + count x.kept.graph) es remain low (end_of program x es) q.items.1;
            covers = λ k cov.
                let l = listed sentence (0 + count x.kept.graph) es x.to remain k low (end_of program x es) q.items.1 cov in
                by_cats (z.var 0) d (map (renamed z.node) es) (z.node (0 + count x.kept.graph)) x.to l.place k q.items.0 l.spans l.covers;
            mother = split_mother (0 + count x.kept.graph) es remain q.items.1;
          }
  own_advances sentence (cats d) es remain st mor (inr p) sat = absurd p
  own_advances sentence (tail n) es remain st mor has sat = of (tl_of program.lists x.kept.graph n) refl has
    where
      of : (o : Option ℕ) → tl_of program.lists x.kept.graph n ≡ o → Has (split_at program x es o) st → Advances sentence (tail n) es x.to remain
      of None q has = absurd has
      of (Some m) q (inl p) = go (subst (λ y. Satisfies (wordless h program) u z y remain) p sat)
        where
          go : Satisfies (wordless h program) u z (doing (split m (end_of program x es)) (start_item x es)) remain → Advances sentence (tail n) es x.to remain
          go r =
              let is_tl : IsTl program u (z.node n) (z.node m) = tl_on program.lists x.kept.graph u z.node mor.values n m q in
              let low : z.node m < count u = tl_below u str.formed program.lists (z.node n) (z.node m) is_tl in
              record {
                rests = split_rests m es remain low (end_of program x es) r.items;
                covers = λ k cov.
                    let l = listed sentence m es x.to remain k low (end_of program x es) r.items cov in
                    by_tail (z.var 0) (map (renamed z.node) es) (z.node n) (z.node m) x.to l.place k is_tl l.spans l.covers;
                mother = split_mother m es remain r.items;
              }
      of (Some m) q (inr p) = absurd p
  own_advances sentence (cat d) es remain st mor has sat = absurd has
  own_advances sentence (sem_head d) es remain st mor has sat = absurd has
  own_advances sentence (member n) es remain st mor has sat = absurd has

  -- y, which is a daughter, spans its places where its root goes
  pub pair_advances : (sentence : List Word) (e : Element) (es remain : List Element) (y : ChartItem) (st : State) → IsMorphismAside h x.kept.graph u z.node → y.from ≡ x.to → Spans h program u sentence (z.node ((0 + count x.kept.graph) + y.root)) y.from y.to →
      Has (daughter_start program x e es y) st → Satisfies (wordless h program) u z st remain → Advances sentence e es y.to remain
  pair_advances sentence e es remain y st mor begins spans_y = go e
    where
      root : ℕ
      root = (0 + count x.kept.graph) + y.root

      spans : Spans h program u sentence (z.node ((0 + count x.kept.graph) + y.root)) x.to y.to
      spans = subst (λ i. Spans h program u sentence (z.node ((0 + count x.kept.graph) + y.root)) i y.to) begins spans_y

      ended : HoldItems (wordless h program) u z (end_items (end_of program x es) ++ []) es remain → (remain ≡ es) × HoldsEnd (wordless h program) u z (end_of program x es)
      ended rest = ends_rest (end_of program x es) es remain rest

      described : (d : Description) → st ≡ doing (on (root_beside x es y) (holds 0 d)) (side_by_side program x es y) → Satisfies (wordless h program) u z st remain → HoldsAt h u (z.var 0) d (z.node ((0 + count x.kept.graph) + y.root)) × HoldItems (wordless h program) u z (end_items (end_of program x es) ++ []) es remain
      described d p sat = (subst (λ w. Satisfies (wordless h program) u z w remain) p sat).items

      go : (d : Element) → Has (daughter_start program x d es y) st → Satisfies (wordless h program) u z st remain → Advances sentence d es y.to remain
      go (cat d) (inl p) sat =
          let q = described d p sat in
          let r = ended q.1 in
          record {
            rests = inl r.0;
            covers = λ k cov. by_cat (z.var 0) d (map (renamed z.node) es) (z.node ((0 + count x.kept.graph) + y.root)) x.to y.to k q.0 spans (subst (λ w. Covers h program u sentence (z.var 0) (map (renamed z.node) w) y.to k) r.0 cov);
            mother = λ m number none. mother_holds es m number (sym r.0 ∙ none) r.1;
          }
      go (cat d) (inr p) sat = absurd p
      go (sem_head d) (inl p) sat =
          let q = described d p sat in
          let r = ended q.1 in
          record {
            rests = inl r.0;
            covers = λ k cov. by_head (z.var 0) d (map (renamed z.node) es) (z.node ((0 + count x.kept.graph) + y.root)) x.to y.to k q.0 spans (subst (λ w. Covers h program u sentence (z.var 0) (map (renamed z.node) w) y.to k) r.0 cov);
            mother = λ m number none. mother_holds es m number (sym r.0 ∙ none) r.1;
          }
      go (sem_head d) (inr p) sat = absurd p
      go (member n) has sat = of (hd_of program.lists x.kept.graph n) refl has
        where
          of : (o : Option ℕ) → hd_of program.lists x.kept.graph n ≡ o → Has (same_as (side_by_side program x es y) (root_beside x es y) o) st → Advances sentence (member n) es y.to remain
          of None q has = absurd has
          of (Some m) q (inl p) =
              let w = subst (λ w. Satisfies (wordless h program) u z w remain) p sat in
              let same : z.node m ≡ z.node ((0 + count x.kept.graph) + y.root) =
              w.fulfils.holds (Same m (root_beside x es y)) (has_right (graph_facts 0 x.kept.graph ++ graph_facts (0 + count x.kept.graph) y.kept.graph) (Same m (root_beside x es y) ∷ []) (Same m (root_beside x es y)) (inl refl)) in
              let r = ended w.items in
              record {
                rests = inl r.0;
                covers = λ k cov. by_member (z.var 0) (map (renamed z.node) es) (z.node n) (z.node m) x.to y.to k (hd_on program.lists x.kept.graph u z.node mor.values n m q) (subst (λ a. Spans h program u sentence a x.to y.to) (sym same) spans)
                    (subst (λ v. Covers h program u sentence (z.var 0) (map (renamed z.node) v) y.to k) r.0 cov);
                mother = λ d number none. mother_holds es d number (sym r.0 ∙ none) r.1;
              }
          of (Some m) q (inr p) = absurd p
      go (derived g) has sat = absurd has
      go (cats d) has sat = absurd has
      go (tail n) has sat = absurd has
