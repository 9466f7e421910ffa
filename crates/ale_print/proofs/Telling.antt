-- Two structures with one text are the same up to the numbers of their nodes.
use Rattle.std.proofs.Common.{◌≡◌, ℕ, zero, suc, ◌<◌, ◌^◌, Bool, true, false, ◌||◌, eqb, ltb, Option, Some, List, [], ◌∷◌, ◌++◌, map, length, ◌⊎◌, inl, inr, refl, sym, ap, ◌∙◌, subst, arith, IsTrue}
use Rattle.std.specs.Prelude.{if◌then◌else◌, slice_get}
use Rattle.std.specs.List.{flat_map}
use Rattle.std.proofs.lemmas.Bool.{eq-eqb}
use Rattle.ale_declared.specs.Lists.{Has}
use Rattle.ale_declared.specs.Declarations.{Declared}
use Rattle.ale_declared.specs.Names.{name_of}
use Rattle.ale_hierarchy.specs.Hierarchy.{IsLawful}
use Rattle.ale_hierarchy.specs.Order.{hierarchy}
use Rattle.ale_declared.specs.Numbering.{AreDistinct}
use Rattle.ale_declared.proofs.ListLemmas.{Has-map, map_has}
use Rattle.ale_graph.specs.Structures.{Structure, IsStructure, count, type_of, is_formed}
use Rattle.ale_graph.proofs.Least.{type_inside}
use Rattle.ale_print.specs.declared.line.Place.TheVariants.{Root}
use Rattle.ale_print.specs.declared.line.Line.{Line}
use Rattle.ale_print.specs.declared.line.Stop.{Stop}
use Rattle.ale_print.specs.Pairing.{lower_first, in_order}
use Rattle.ale_print.specs.Walking.{is_met, root_stops, also_stops, lines_of}
use Rattle.ale_print.specs.Tagging.{is_met_again, is_in_pair, tag_of}
use Rattle.ale_print.specs.Texts.{root_front, pair_text, tag_pairs, answer_text}
use Rattle.ale_print.specs.Sameness.{Differs, IsSame, IsNamed, TextsTell}
use Rattle.ale_print.proofs.Ordered.{in_order_has, has_in_order}
use Rattle.ale_print.proofs.Spelled.{AreSmall, same_pairs}
use Rattle.ale_print.proofs.Tallies.{same_tag_same_node, has_tag, tag_small}
use Rattle.ale_print.proofs.Walks.{alsos, MetIn, lines_walk, again_met, also_met}
use Rattle.ale_print.proofs.Linked.{Links, Rooted, Differing, IsLinked, flipped, has_flipped, flipped_has, is_flipped, same_linked}
use Rattle.ale_print.proofs.Lockstep.{AreBare, Match, placed, bare, entries, Sides, AreSides, AreLinked, Joined}
use Rattle.ale_print.proofs.Locking.{locks}
use Rattle.ale_print.proofs.Rising.{same_features}

-- all stops of a structure
abbrev stops_of : Structure → List Stop
stops_of s = root_stops 0 s.roots ++ also_stops (in_order s.differ)

-- what is met and tagged has a tag

false_true : false ≡ true → ⊥
false_true e = absurd cc

or_right : (b c : Bool) → c ≡ true → (b || c) ≡ true
or_right true c h = refl
or_right false c h = h

or_left : (b c : Bool) → b ≡ true → (b || c) ≡ true
or_left true c h = refl
or_left false c h = absurd (false_true h)

met : (ls : List Line) (n : ℕ) → MetIn [] ls n → is_met ls n ≡ true
met ls n (inl h) = absurd (false_true h)
met ls n (inr h) = h

again_tag : (s : Structure) → IsTrue (is_formed s) → (n : ℕ) → is_met_again (lines_of s) n ≡ true → 0 < tag_of s n
again_tag s formed n h =
    has_tag s n (or_left (is_met_again (lines_of s) n) (is_in_pair s.differ n) h)
    (met (lines_of s) n (again_met s [] (stops_of s) (lines_of s) (lines_walk s formed) n h))

-- pairs

alsos_roots : (i : ℕ) (rs : List (Option ℕ)) (xs : List Stop) → alsos (root_stops i rs ++ xs) ≡ alsos xs
alsos_roots i [] xs = refl
alsos_roots i (r ∷ rs) xs = alsos_roots (suc i) rs xs

both_also : (ps : List (ℕ × ℕ)) (p : ℕ × ℕ) → Has ps p → Has (alsos (also_stops ps)) p.0 × Has (alsos (also_stops ps)) p.1
both_also [] p h = absurd h
both_also (q ∷ qs) p (inl e) = (inl (ap (λ (z : ℕ × ℕ). z.0) e), inr (inl (ap (λ (z : ℕ × ℕ). z.1) e)))
both_also (q ∷ qs) p (inr h) = let r = both_also qs p h in (inr (inr r.0), inr (inr r.1))

lower_cases : (p : ℕ × ℕ) → (lower_first p ≡ p) ⊎ (lower_first p ≡ (p.1, p.0))
lower_cases p = go (ltb p.1 p.0)
  where
    go : (b : Bool) → ((if b then (p.1, p.0) else p) ≡ p) ⊎ ((if b then (p.1, p.0) else p) ≡ (p.1, p.0))
    go true = inr refl
    go false = inl refl

pair_alsos : (s : Structure) (a b : ℕ) → Has s.differ (a, b) → Has (alsos (stops_of s)) a × Has (alsos (stops_of s)) b
pair_alsos s a b h =
    let there = in_order_has s.differ (lower_first (a, b)) (Has-map lower_first s.differ (a, b) h) in
    let r = both_also (in_order s.differ) (lower_first (a, b)) there in
    let back = sym (alsos_roots 0 s.roots (also_stops (in_order s.differ))) in
    let p : Has (alsos (stops_of s)) (lower_first (a, b)).0 = subst (λ (z : List ℕ). Has z (lower_first (a, b)).0) back r.0 in
    let q : Has (alsos (stops_of s)) (lower_first (a, b)).1 = subst (λ (z : List ℕ). Has z (lower_first (a, b)).1) back r.1 in
    go (lower_cases (a, b)) p q
  where
    go : (lower_first (a, b) ≡ (a, b)) ⊎ (lower_first (a, b) ≡ (b, a)) → Has (alsos (stops_of s)) (lower_first (a, b)).0 → Has (alsos (stops_of s)) (lower_first (a, b)).1
        → Has (alsos (stops_of s)) a × Has (alsos (stops_of s)) b
    go (inl e) p q =
        (subst (λ (z : ℕ × ℕ). Has (alsos (stops_of s)) z.0) e p, subst (λ (z : ℕ × ℕ). Has (alsos (stops_of s)) z.1) e q)
    go (inr e) p q =
        (subst (λ (z : ℕ × ℕ). Has (alsos (stops_of s)) z.1) e q, subst (λ (z : ℕ × ℕ). Has (alsos (stops_of s)) z.0) e p)

in_pair : (ps : List (ℕ × ℕ)) (a b : ℕ) → Has ps (a, b) → (is_in_pair ps a ≡ true) × (is_in_pair ps b ≡ true)
in_pair [] a b h = absurd h
in_pair (p ∷ ps) a b (inl e) = (
  or_left (eqb a p.0 || eqb a p.1) (is_in_pair ps a) (or_left (eqb a p.0) (eqb a p.1) (eq-eqb a p.0 (ap (λ (z : ℕ × ℕ). z.0) e))),
  or_left (eqb b p.0 || eqb b p.1) (is_in_pair ps b) (or_right (eqb b p.0) (eqb b p.1) (eq-eqb b p.1 (ap (λ (z : ℕ × ℕ). z.1) e))),
)
in_pair (p ∷ ps) a b (inr h) =
    let r = in_pair ps a b h in
    (or_right (eqb a p.0 || eqb a p.1) (is_in_pair ps a) r.0, or_right (eqb b p.0 || eqb b p.1) (is_in_pair ps b) r.1)

pair_tags : (s : Structure) → IsTrue (is_formed s) → (a b : ℕ) → Has s.differ (a, b) → (0 < tag_of s a) × (0 < tag_of s b)
pair_tags s formed a b h =
    let there = pair_alsos s a b h in
    let inside = in_pair s.differ a b h in
    let walk = lines_walk s formed in (
      has_tag s a (or_right (is_met_again (lines_of s) a) (is_in_pair s.differ a) inside.0) (met (lines_of s) a (also_met s [] (stops_of s) (lines_of s) walk a there.0)),
      has_tag s b (or_right (is_met_again (lines_of s) b) (is_in_pair s.differ b) inside.1) (met (lines_of s) b (also_met s [] (stops_of s) (lines_of s) walk b there.1)),
    )

abbrev tags : Structure → ℕ × ℕ → ℕ × ℕ
tags s p = (tag_of s p.0, tag_of s p.1)

lower_same : (i j k l : ℕ) → lower_first (i, j) ≡ lower_first (k, l) → ((i ≡ k) × (j ≡ l)) ⊎ ((i ≡ l) × (j ≡ k))
lower_same i j k l e = go (lower_cases (i, j)) (lower_cases (k, l))
  where
    first : {b c d f : ℕ} → ◌≡◌ {A = ℕ × ℕ} (b, c) (d, f) → b ≡ d
    first q = ap (λ (z : ℕ × ℕ). z.0) q

    second : {b c d f : ℕ} → ◌≡◌ {A = ℕ × ℕ} (b, c) (d, f) → c ≡ f
    second q = ap (λ (z : ℕ × ℕ). z.1) q

    go : (lower_first (i, j) ≡ (i, j)) ⊎ (lower_first (i, j) ≡ (j, i)) → (lower_first (k, l) ≡ (k, l)) ⊎ (lower_first (k, l) ≡ (l, k)) → ((i ≡ k) × (j ≡ l)) ⊎ ((i ≡ l) × (j ≡ k))
    go (inl a) (inl b) = let q : ◌≡◌ {A = ℕ × ℕ} (i, j) (k, l) = sym a ∙ e ∙ b in inl (first q, second q)
    go (inl a) (inr b) = let q : ◌≡◌ {A = ℕ × ℕ} (i, j) (l, k) = sym a ∙ e ∙ b in inr (first q, second q)
    go (inr a) (inl b) = let q : ◌≡◌ {A = ℕ × ℕ} (j, i) (k, l) = sym a ∙ e ∙ b in inr (second q, first q)
    go (inr a) (inr b) = let q : ◌≡◌ {A = ℕ × ℕ} (j, i) (l, k) = sym a ∙ e ∙ b in inl (second q, first q)

-- a pair with the same tags on the other side
pair_there : (s t : Structure) → tag_pairs s ≡ tag_pairs t → (a b : ℕ) → Has s.differ (a, b)
    → (p : ℕ × ℕ) × Has t.differ p × (lower_first (tag_of s a, tag_of s b) ≡ lower_first (tags t p))
pair_there s t e a b h =
    let one = Has-map (tags s) s.differ (a, b) h in
    let two = in_order_has (map (tags s) s.differ) (lower_first (tags s (a, b))) (Has-map lower_first (map (tags s) s.differ) (tags s (a, b)) one) in
    let three = has_in_order (map (tags t) t.differ) (lower_first (tags s (a, b))) (subst (λ (z : List (ℕ × ℕ)). Has z (lower_first (tags s (a, b)))) e two) in
    let four = map_has lower_first (map (tags t) t.differ) (lower_first (tags s (a, b))) three in
    let five = map_has (tags t) t.differ four.0 four.1 in
    (five.0, five.1, four.2 ∙ ap lower_first five.2)

differing_there : (s t : Structure) → IsTrue (is_formed s) → IsTrue (is_formed t) → (f : Links)
    → ((n : ℕ) → Has (alsos (stops_of s)) n → (m : ℕ) × Has f (n, m)) → ((n m : ℕ) → Has f (n, m) → tag_of s n ≡ tag_of t m)
    → tag_pairs s ≡ tag_pairs t → Differing f s t
differing_there s t formed_s formed_t f linked same e a b h = go (pair_there s t e a b h) (pair_alsos s a b h)
  where
    at : (n m c : ℕ) → Has f (n, m) → 0 < tag_of t c → tag_of s n ≡ tag_of t c → m ≡ c
    at n m c k there tag = sym (same_tag_same_node t c m there (sym tag ∙ same n m k))

    go : (p : ℕ × ℕ) × Has t.differ p × (lower_first (tag_of s a, tag_of s b) ≡ lower_first (tags t p)) → Has (alsos (stops_of s)) a × Has (alsos (stops_of s)) b
        → (c : ℕ) × (d : ℕ) × Has f (a, c) × Has f (b, d) × Differs t c d
    go r also = found (lower_same (tag_of s a) (tag_of s b) (tag_of t r.0.0) (tag_of t r.0.1) r.2)
      where
        la : (m : ℕ) × Has f (a, m)
        la = linked a also.0

        lb : (m : ℕ) × Has f (b, m)
        lb = linked b also.1

        there : (0 < tag_of t r.0.0) × (0 < tag_of t r.0.1)
        there = pair_tags t formed_t r.0.0 r.0.1 r.1

        found : ((tag_of s a ≡ tag_of t r.0.0) × (tag_of s b ≡ tag_of t r.0.1)) ⊎ ((tag_of s a ≡ tag_of t r.0.1) × (tag_of s b ≡ tag_of t r.0.0))
            → (c : ℕ) × (d : ℕ) × Has f (a, c) × Has f (b, d) × Differs t c d
        found (inl q) =
            (r.0.0, r.0.1, subst (λ z. Has f (a, z)) (at a la.0 r.0.0 la.1 there.0 q.0) la.1, subst (λ z. Has f (b, z)) (at b lb.0 r.0.1 lb.1 there.1 q.1) lb.1, inl r.1)
        found (inr q) =
            (r.0.1, r.0.0, subst (λ z. Has f (a, z)) (at a la.0 r.0.1 la.1 there.1 q.0) la.1, subst (λ z. Has f (b, z)) (at b lb.0 r.0.0 lb.1 there.0 q.1) lb.1, inr r.1)

-- how the stops of both begin

bare_also_stops : (names : List (List ℕ)) (ps : List (ℕ × ℕ)) → AreBare names (also_stops ps)
bare_also_stops names [] = tt
bare_also_stops names (p ∷ ps) = (tt, (tt, bare_also_stops names ps))

bare_roots : (i : ℕ) (rs : List (Option ℕ)) (xs : List Stop) → AreBare [] xs → AreBare [] (root_stops i rs ++ xs)
bare_roots i [] xs h = h
bare_roots i (r ∷ rs) xs h = (nothing i, bare_roots (suc i) rs xs h)
  where
    nothing : (i : ℕ) → root_front (slice_get [] i) ≡ []
    nothing zero = refl
    nothing (suc i) = refl

match_roots : (names : List (List ℕ)) (i : ℕ) (rs us : List (Option ℕ)) (xs ys : List Stop) → length rs ≡ length us → Match names xs ys
    → Match names (root_stops i rs ++ xs) (root_stops i us ++ ys)
match_roots names i [] [] xs ys e m = m
match_roots names i [] (u ∷ us) xs ys e m = absurd (omega arith)
match_roots names i (r ∷ rs) [] xs ys e m = absurd (omega arith)
match_roots names i (r ∷ rs) (u ∷ us) xs ys e m =
    placed (record { place = Root i; node = r }) (record { place = Root i; node = u }) (root_stops (suc i) rs ++ xs) (root_stops (suc i) us ++ ys) refl tt
    (match_roots names (suc i) rs us xs ys (omega arith) m)

match_stops : (names : List (List ℕ)) (s t : Structure) → IsNamed names s → IsNamed names t → Match names (stops_of s) (stops_of t)
match_stops names s t (inl a) (inl b) =
    match_roots names 0 s.roots t.roots (also_stops (in_order s.differ)) (also_stops (in_order t.differ)) (sym a ∙ b)
    (bare (also_stops (in_order s.differ)) (also_stops (in_order t.differ)) (bare_also_stops names (in_order s.differ)) (bare_also_stops names (in_order t.differ)))
match_stops names s t (inr e) b = nameless names s t e
  where
    nameless : (names : List (List ℕ)) (s t : Structure) → names ≡ [] → Match names (stops_of s) (stops_of t)
    nameless names s t e =
        subst (λ (z : List (List ℕ)). Match z (stops_of s) (stops_of t)) (sym e)
        (bare (stops_of s) (stops_of t)
        (bare_roots 0 s.roots (also_stops (in_order s.differ)) (bare_also_stops [] (in_order s.differ)))
        (bare_roots 0 t.roots (also_stops (in_order t.differ)) (bare_also_stops [] (in_order t.differ))))
match_stops names s t (inl a) (inr e) =
    subst (λ (z : List (List ℕ)). Match z (stops_of s) (stops_of t)) (sym e)
    (bare (stops_of s) (stops_of t)
    (bare_roots 0 s.roots (also_stops (in_order s.differ)) (bare_also_stops [] (in_order s.differ)))
    (bare_roots 0 t.roots (also_stops (in_order t.differ)) (bare_also_stops [] (in_order t.differ))))

entries_roots : (i : ℕ) (rs : List (Option ℕ)) (ps : List (ℕ × ℕ)) → entries (root_stops i rs ++ also_stops ps) ≡ rs
entries_roots i [] [] = refl
entries_roots i [] (p ∷ ps) = entries_roots i [] ps
entries_roots i (r ∷ rs) ps = ap (λ (z : List (Option ℕ)). r ∷ z) (entries_roots (suc i) rs ps)

-- names tell types apart

named_there : (names : List (List ℕ)) (i : ℕ) → i < length names → slice_get names i ≡ Some (name_of names i)
named_there [] i low = absurd (omega arith)
named_there (x ∷ xs) zero low = refl
named_there (x ∷ xs) (suc i) low = named_there xs i (omega arith)

same_type : (d : Declared) (s t : Structure) → IsLawful (hierarchy d) → AreDistinct d.types → IsStructure (hierarchy d) s → IsStructure (hierarchy d) t
    → (n m : ℕ) → name_of d.types (type_of s n) ≡ name_of d.types (type_of t m) → type_of s n ≡ type_of t m
unfolding hierarchy
same_type d s t law distinct str_s str_t n m e =
    let ls : type_of s n < length d.types = type_inside (hierarchy d) s law str_s.total n in
    let lt : type_of t m < length d.types = type_inside (hierarchy d) t law str_t.total m in
    distinct (type_of s n) (type_of t m) (name_of d.types (type_of s n)) (named_there d.types (type_of s n) ls)
    (named_there d.types (type_of t m) lt ∙ ap Some (sym e))

small_tag : (s : Structure) → count s < 2 ^ 64 → (n : ℕ) → tag_of s n < 10 ^ 64
small_tag s low n = let a = tag_small s n in omega arith

small_pairs : (s : Structure) → count s < 2 ^ 64 → AreSmall (tag_pairs s)
small_pairs s low p h =
    let one = map_has lower_first (map (tags s) s.differ) p (has_in_order (map (tags s) s.differ) p h) in
    let two = map_has (tags s) s.differ one.0 one.1 in
    go two.0 (one.2 ∙ ap lower_first two.2)
  where
    go : (q : ℕ × ℕ) → p ≡ lower_first (tags s q) → (p.0 < 10 ^ 64) × (p.1 < 10 ^ 64)
    go q e = either (lower_cases (tags s q))
      where
        either : (lower_first (tags s q) ≡ tags s q) ⊎ (lower_first (tags s q) ≡ ((tags s q).1, (tags s q).0)) → (p.0 < 10 ^ 64) × (p.1 < 10 ^ 64)
        either (inl f) = subst (λ (z : ℕ × ℕ). (z.0 < 10 ^ 64) × (z.1 < 10 ^ 64)) (sym (e ∙ f)) (small_tag s low q.0, small_tag s low q.1)
        either (inr f) = subst (λ (z : ℕ × ℕ). (z.0 < 10 ^ 64) × (z.1 < 10 ^ 64)) (sym (e ∙ f)) (small_tag s low q.1, small_tag s low q.0)

-- the law

concluded : (a : Sides) → IsTrue (is_formed a.s) → IsTrue (is_formed a.t) → a.tag_s ≡ tag_of a.s → a.tag_t ≡ tag_of a.t
    → tag_pairs a.s ≡ tag_pairs a.t → (rs rt : List ℕ) → Joined a [] (stops_of a.s) (stops_of a.t) rs rt → IsSame a.s a.t
concluded a formed_s formed_t es et pairs rs rt r = same_linked r.f a.s a.t linked (is_flipped r.f a.s a.t r.linked.other back linked)
  where
    same_tags : (n m : ℕ) → Has r.f (n, m) → tag_of a.s n ≡ tag_of a.t m
    same_tags n m h = ap (λ (z : ℕ → ℕ). z n) (sym es) ∙ r.linked.tags n m h ∙ ap (λ (z : ℕ → ℕ). z m) et

    linked : IsLinked r.f a.s a.t
    linked = record {
      one = r.linked.one;
      types = r.linked.types;
      values = λ n m h. elim (r.new n m h) [ inl k ↦ absurd k | inr v ↦ v ];
      roots = subst (λ (z : List (Option ℕ)). Rooted r.f z a.t.roots) (entries_roots 0 a.s.roots (in_order a.s.differ))
          (subst (λ (z : List (Option ℕ)). Rooted r.f (entries (stops_of a.s)) z) (entries_roots 0 a.t.roots (in_order a.t.differ)) r.entered);
      differing = differing_there a.s a.t formed_s formed_t r.f r.left same_tags pairs;
    }

    back : Differing (flipped r.f) a.t a.s
    back = differing_there a.t a.s formed_t formed_s (flipped r.f) (λ m h. let k = r.right m h in (k.0, flipped_has r.f m k.0 k.1))
        (λ m n h. sym (same_tags n m (has_flipped r.f m n h))) (sym pairs)

pub texts_tell : TextsTell
unfolding answer_text
texts_tell d names s t law distinct str_s str_t named_s named_t low_s low_t e =
    let a : Sides = record { d = d; names = names; s = s; t = t; tag_s = tag_of s; tag_t = tag_of t } in
    let sides : AreSides a = record {
      small_s = small_tag s low_s;
      small_t = small_tag t low_t;
      one_s = λ n m there same. same_tag_same_node s n m there same;
      one_t = λ n m there same. same_tag_same_node t n m there same;
      types = λ n m same. same_type d s t law distinct str_s str_t n m same;
      features = λ n m ln lm same. same_features (hierarchy d) s t str_s str_t n m ln lm same;
    } in
    let none : AreLinked a [] = record { one = λ n m k h g. absurd h; other = λ n m k h g. absurd h; tags = λ n m h. absurd h; types = λ n m h. absurd h } in
    let r = locks a sides (tag_pairs s) (tag_pairs t) (small_pairs s low_s) (small_pairs t low_t) [] (stops_of s) (lines_of s) (lines_walk s str_s.formed)
    [] (stops_of t) (lines_of t) (lines_walk t str_t.formed) [] refl refl none (match_stops names s t named_s named_t) (again_tag s str_s.formed) e in
    let pairs = same_pairs (tag_pairs s) (tag_pairs t) (small_pairs s low_s) (small_pairs t low_t) r.rest in
    concluded a str_s.formed str_t.formed refl refl pairs (flat_map pair_text (tag_pairs s)) (flat_map pair_text (tag_pairs t)) r
