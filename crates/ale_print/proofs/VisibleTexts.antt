-- A structure and its visible part have one text.
use Rattle.std.proofs.Common.{◌≡◌, ℕ, suc, Bool, true, false, ◌||◌, eqb, Option, Some, None, List, [], ◌∷◌, ◌++◌, map, get_or, codes, ◌⊎◌, inl, inr, refl, sym, ap, ◌∙◌, subst, IsTrue}
use Rattle.std.specs.Prelude.{if◌then◌else◌}
use Rattle.std.specs.List.{flat_map}
use Rattle.ale_declared.specs.Lists.{Has}
use Rattle.ale_declared.specs.Declarations.{Declared}
use Rattle.ale_declared.specs.Names.{name_of}
use Rattle.ale_graph.specs.declared.node.Node.{Node}
use Rattle.ale_graph.specs.Structures.{Structure, count, node_at, type_of, is_formed}
use Rattle.ale_morphism.specs.Visible.{Visible, root, value, some, renumbered, origin, visible_node, visible}
use Rattle.ale_morphism.proofs.MorphismSteps.{entry_value}
use Rattle.ale_morphism.proofs.ReachSteps.{node_parts, visible_formed}
use Rattle.ale_morphism.proofs.VisibleLaws.{visible_reached, is_part, node_is}
use Rattle.ale_print.specs.declared.line.Shown.{Shown}
use Rattle.ale_print.specs.declared.line.Shown.TheVariants.{Unbound, First, Again}
use Rattle.ale_print.specs.declared.line.Line.{Line}
use Rattle.ale_print.specs.Pairing.{in_order}
use Rattle.ale_print.specs.Walking.{lines_of}
use Rattle.ale_print.specs.Naming.{printed_name}
use Rattle.ale_print.specs.Tagging.{shows_again, is_met_again, is_in_pair, is_tagged, first_met, met_in_order, number_from, tag_in, tag_of}
use Rattle.ale_print.specs.Texts.{front, tag_text, type_front, shown_text, line_text, pair_text, tag_pairs, answer_text}
use Rattle.ale_print.specs.Sameness.{VisibleTexts}
use Rattle.ale_print.proofs.Taken.{Takes, eqb_to, AreSeen, shown_to, line_to, pair_to, ShownSeen, LinesSeen, pairs_seen, lines_to}

abbrev tags : Structure → ℕ × ℕ → ℕ × ℕ
tags s p = (tag_of s p.0, tag_of s p.1)

module _ (s t : Structure) (to : ℕ → ℕ) (takes : Takes s t to) where
  -- tags

  again_shown : (x : Shown) (n : ℕ) → ShownSeen s t to takes x → Visible s n → shows_again (to n) (shown_to s t to takes x) ≡ shows_again n x
  again_shown Unbound n u v = refl
  again_shown (First m) n u v = refl
  again_shown (Again m) n u v = eqb_to s t to takes n m v u

  again_to : (ls : List Line) → LinesSeen s t to takes ls → (n : ℕ) → Visible s n → is_met_again (map (line_to s t to takes) ls) (to n) ≡ is_met_again ls n
  again_to [] seen n v = refl
  again_to (l ∷ ls) seen n v =
      let first = again_shown l.shown n seen.0 v in
      let rest = again_to ls seen.1 n v in
      λ i. first i || rest i

  in_pair_to : (ps : List (ℕ × ℕ)) → ((p : ℕ × ℕ) → Has ps p → Visible s p.0 × Visible s p.1) → (n : ℕ) → Visible s n → is_in_pair (map (pair_to s t to takes) ps) (to n) ≡ is_in_pair ps n
  in_pair_to [] seen n v = refl
  in_pair_to (p ∷ ps) seen n v =
      let u = seen p (inl refl) in
      let first = eqb_to s t to takes n p.0 v u.0 in
      let second = eqb_to s t to takes n p.1 v u.1 in
      let rest = in_pair_to ps (λ q h. seen q (inr h)) n v in
      λ i. (first i || second i) || rest i

  met_to : (test_too test : ℕ → Bool) → ((n : ℕ) → Visible s n → test_too (to n) ≡ test n) → (ls : List Line) → LinesSeen s t to takes ls
      → (met_in_order test_too (map (line_to s t to takes) ls) ≡ map to (met_in_order test ls)) × AreSeen s t to takes (met_in_order test ls)
  met_to test_too test same [] seen = (refl, λ n h. absurd h)
  met_to test_too test same (l ∷ ls) seen = go l.shown seen.0 (met_to test_too test same ls seen.1)
    where
      go : (x : Shown) → ShownSeen s t to takes x → (met_in_order test_too (map (line_to s t to takes) ls) ≡ map to (met_in_order test ls)) × AreSeen s t to takes (met_in_order test ls)
          → (first_met test_too (shown_to s t to takes x) (met_in_order test_too (map (line_to s t to takes) ls)) ≡ map to (first_met test x (met_in_order test ls)))
          × AreSeen s t to takes (first_met test x (met_in_order test ls))
      go Unbound u ih = ih
      go (Again m) u ih = ih
      go (First m) u ih = (tested ∙ split (test m), kept (test m))
        where
          tested : (if test_too (to m) then to m ∷ met_in_order test_too (map (line_to s t to takes) ls) else met_in_order test_too (map (line_to s t to takes) ls))
              ≡ (if test m then to m ∷ map to (met_in_order test ls) else map to (met_in_order test ls))
          tested = let one = same m u in λ i. if one i then to m ∷ ih.0 i else ih.0 i

          split : (b : Bool) → (if b then to m ∷ map to (met_in_order test ls) else map to (met_in_order test ls)) ≡ map to (if b then m ∷ met_in_order test ls else met_in_order test ls)
          split true = refl
          split false = refl

          kept : (b : Bool) → AreSeen s t to takes (if b then m ∷ met_in_order test ls else met_in_order test ls)
          kept true n (inl e) = subst (Visible s) (sym e) u
          kept true n (inr h) = ih.1 n h
          kept false n h = ih.1 n h

  number_to : (k : ℕ) (ns : List ℕ) → AreSeen s t to takes ns → (n : ℕ) → Visible s n → number_from k (map to ns) (to n) ≡ number_from k ns n
  number_to k [] seen n v = refl
  number_to k (m ∷ ms) seen n v =
      let first = eqb_to s t to takes n m v (seen m (inl refl)) in
      let rest = number_to (suc k) ms (λ j h. seen j (inr h)) n v in
      λ i. if first i then k else rest i

  -- lines and pairs

  module _ (formed_s : IsTrue (is_formed s)) (formed_t : IsTrue (is_formed t)) (rooted : (m : ℕ) → Has s.roots (Some m) → Visible s m) where
    lines_are : lines_of t ≡ map (line_to s t to takes) (lines_of s)
    lines_are = (lines_to s t to takes formed_s formed_t rooted).0

    seen : LinesSeen s t to takes (lines_of s)
    seen = (lines_to s t to takes formed_s formed_t rooted).1

    tagged_to : (n : ℕ) → Visible s n → is_tagged (lines_of t) t.differ (to n) ≡ is_tagged (lines_of s) s.differ n
    tagged_to n v =
        let first = ap (λ (z : List Line). is_met_again z (to n)) lines_are ∙ again_to (lines_of s) seen n v in
        let second = ap (λ (z : List (ℕ × ℕ)). is_in_pair z (to n)) takes.differ ∙ in_pair_to s.differ (pairs_seen s t to takes) n v in
        λ i. first i || second i

    tag_to : (n : ℕ) → Visible s n → tag_of t (to n) ≡ tag_of s n
    tag_to n v =
        let met = met_to (is_tagged (lines_of t) t.differ) (is_tagged (lines_of s) s.differ) tagged_to (lines_of s) seen in
        ap (λ (z : List Line). number_from 1 (met_in_order (is_tagged (lines_of t) t.differ) z) (to n)) lines_are
        ∙ ap (λ (z : List ℕ). number_from 1 z (to n)) met.0
        ∙ number_to 1 (met_in_order (is_tagged (lines_of s) s.differ) (lines_of s)) met.1 n v

    shown_is : (d : Declared) (x : Shown) → ShownSeen s t to takes x → shown_text d (type_of t) (tag_of t) (shown_to s t to takes x) ≡ shown_text d (type_of s) (tag_of s) x
    shown_is d Unbound u = refl
    shown_is d (First n) u =
        let tag = tag_to n u in
        let type = takes.types n u in
        λ i. type_front (tag i) ++ printed_name (name_of d.types (type i))
    shown_is d (Again n) u = ap tag_text (tag_to n u)

    lines_text : (d : Declared) (names : List (List ℕ)) (ls : List Line) → LinesSeen s t to takes ls
        → flat_map (line_text d names (type_of t) (tag_of t)) (map (line_to s t to takes) ls) ≡ flat_map (line_text d names (type_of s) (tag_of s)) ls
    lines_text d names [] u = refl
    lines_text d names (l ∷ ls) u =
        let first = shown_is d l.shown u.0 in
        let rest = lines_text d names ls u.1 in
        λ i. (front d names l.place ++ (first i ++ codes "\n")) ++ rest i

    tags_to : (ps : List (ℕ × ℕ)) → ((p : ℕ × ℕ) → Has ps p → Visible s p.0 × Visible s p.1)
        → map (tags t) (map (pair_to s t to takes) ps) ≡ map (tags s) ps
    tags_to [] u = refl
    tags_to (p ∷ ps) u =
        let v = u p (inl refl) in
        let first = tag_to p.0 v.0 in
        let second = tag_to p.1 v.1 in
        let rest = tags_to ps (λ q h. u q (inr h)) in
        λ i. (first i, second i) ∷ rest i

    pub same_text : (d : Declared) (names : List (List ℕ)) → answer_text d names t ≡ answer_text d names s
    unfolding answer_text
    same_text d names =
        let lines = ap (flat_map (line_text d names (type_of t) (tag_of t))) lines_are ∙ lines_text d names (lines_of s) seen in
        let pairs : tag_pairs t ≡ tag_pairs s =
        ap (λ (z : List (ℕ × ℕ)). in_order (map (tags t) z)) takes.differ ∙ ap in_order (tags_to s.differ (pairs_seen s t to takes)) in
        λ i. lines i ++ flat_map pair_text (pairs i)

-- what is visible, in the visible part

has_root : (s : Structure) (m : ℕ) → Has s.roots (Some m) → Visible s m
has_root s m h = let r = at s.roots h in root r.0 m r.1
  where
    at : (rs : List (Option ℕ)) → Has rs (Some m) → (i : ℕ) × (get_or rs i None ≡ Some m)
    at [] h = absurd h
    at (r ∷ rs) (inl e) = (0, sym e)
    at (r ∷ rs) (inr h) = let k = at rs h in (suc k.0, k.1)

part_taken : (s : Structure) → IsTrue (is_formed s) → Takes s (visible s) (renumbered s)
part_taken s formed =
    let part = is_part s formed in
    record {
      into = part.onto;
      order = λ a b va vb l. part.order a b va l;
      types = λ n v. part.types (renumbered s n) (part.onto n v) ∙ ap (type_of s) (part.back n v);
      values = λ n v. ap (λ (x : Node). x.values) (node_is s formed (renumbered s n) (part.onto n v)) ∙ ap (λ (m : ℕ). map (λ (w : ℕ × ℕ). (w.0, renumbered s w.1)) (node_at s m).values) (part.back n v);
      inside = λ n v w h. value n w.0 w.1 v (entry_value (node_at s n).values w (node_parts s formed n (visible_reached s formed n v).0).1 h);
      roots = part.roots;
      differ = part.differ;
    }

pub visible_texts : VisibleTexts
visible_texts d names s formed =
    sym (same_text s (visible s) (renumbered s) (part_taken s formed) formed (visible_formed s formed) (has_root s) d names)
