-- The text of all lines, with the tags that were found.
use Rattle.std.proofs.Common.{◌≡◌, ℕ, ◌<◌, Bool, true, false, ◌&&◌, ltb, codes, List, [], ◌∷◌, ◌++◌, map, length, get_or, Some, eqb, cond, inl, inr, refl, sym, ap, ◌∙◌}
use Rattle.std.specs.List.{flat_map}
use Rattle.std.proofs.lemmas.Bool.{and_parts, and_from, eq-eqb, ltb-true, lt-ltb}
use Rattle.ale_declared.specs.Lists.{Has, every}
use Rattle.ale_declared.specs.Declarations.{Declared}
use Rattle.ale_hierarchy.specs.Hierarchy.{IsLawful}
use Rattle.ale_hierarchy.specs.Order.{hierarchy}
use Rattle.ale_graph.specs.Structures.{Structure, IsStructure, count, node_at, value_in, type_of}
use Rattle.ale_graph.proofs.Lists.{every_from}
use Rattle.ale_print.specs.declared.line.Shown.{Shown}
use Rattle.ale_print.specs.declared.line.Shown.TheVariants.{Unbound, First, Again}
use Rattle.ale_print.specs.declared.line.Line.{Line}
use Rattle.ale_print.specs.Walking.{lines_of}
use Rattle.ale_print.specs.Tagging.{tag_of}
use Rattle.ale_print.specs.Texts.{front, tag_text, shown_text, line_text, pair_text, tag_pairs, answer_text}
use Rattle.std.specs.Prelude.{encode_utf8_all}
use Rattle.ale_print.proofs.Appended.{both}
use Rattle.ale_print.specs.Steps.{is_shown_below, is_place_in, are_in, IsOf}

-- a structure of the signature has its types and features

found_by : (vs : List (ℕ × ℕ)) (v : ℕ × ℕ) → Has vs v → (m : ℕ) × (value_in vs v.0 ≡ Some m)
found_by [] v h = absurd h
found_by (w ∷ ws) v (inl e) = (w.1, ap (λ b. cond b (Some w.1) (value_in ws v.0)) (eq-eqb w.0 v.0 (ap (λ (z : ℕ × ℕ). z.0) (sym e))))
found_by (w ∷ ws) v (inr h) = go (found_by ws v h) (eqb w.0 v.0)
  where
    go : (m : ℕ) × (value_in ws v.0 ≡ Some m) → (b : Bool) → (m : ℕ) × (cond b (Some w.1) (value_in ws v.0) ≡ Some m)
    go r true = (w.1, refl)
    go r false = r

pub is_of : (d : Declared) (s : Structure) → IsLawful (hierarchy d) → IsStructure (hierarchy d) s → IsOf (length d.types) (length d.features) s
unfolding hierarchy
is_of d s law str = record {
  of_types = str.total.types;
  by_features = λ n.
      every_from (λ (v : ℕ × ℕ). ltb v.0 (length d.features)) (node_at s n).values
      (λ v h.
      let f = found_by (node_at s n).values v h in
      let r = str.total.only n v.0 f.0 f.1 in
      lt-ltb v.0 (length d.features) (law.approp_inside v.0 (type_of s n) r.0 r.1).0);
}

-- lines within the structure have the same text where tags are the same within it

shown_same : (d : Declared) (type f g : ℕ → ℕ) (size : ℕ) → ((n : ℕ) → n < size → f n ≡ g n) → (x : Shown) → is_shown_below size x ≡ true
    → shown_text d type f x ≡ shown_text d type g x
shown_same d type f g size h Unbound low = refl
shown_same d type f g size h (First n) low = ap (λ k. shown_text d type (λ m. k) (First n)) (h n (ltb-true n size low))
shown_same d type f g size h (Again n) low = ap tag_text (h n (ltb-true n size low))

lines_same : (d : Declared) (names : List (List ℕ)) (type f g : ℕ → ℕ) (size features : ℕ) → ((n : ℕ) → n < size → f n ≡ g n) → (ls : List Line)
    → are_in size features ls ≡ true → flat_map (line_text d names type f) ls ≡ flat_map (line_text d names type g) ls
lines_same d names type f g size features h [] below = refl
lines_same d names type f g size features h (l ∷ ls) below =
    let both = and_parts (is_shown_below size l.shown && is_place_in features l.place) (are_in size features ls) below in
    let low = (and_parts (is_shown_below size l.shown) (is_place_in features l.place) both.0).0 in
    ap (λ (z : List ℕ). (front d names l.place ++ (z ++ codes "\n")) ++ flat_map (line_text d names type f) ls) (shown_same d type f g size h l.shown low)
    ∙ ap (λ (z : List ℕ). line_text d names type g l ++ z) (lines_same d names type f g size features h ls both.1)

pub shown_below : (size features : ℕ) (ls : List Line) → are_in size features ls ≡ true → every (λ l. is_shown_below size l.shown) ls ≡ true
shown_below size features [] h = refl
shown_below size features (l ∷ ls) h =
    let both = and_parts (is_shown_below size l.shown && is_place_in features l.place) (are_in size features ls) h in
    and_from (is_shown_below size l.shown) (every (λ (l : Line). is_shown_below size l.shown) ls)
    (and_parts (is_shown_below size l.shown) (is_place_in features l.place) both.0).0 (shown_below size features ls both.1)

abbrev pub both_by : (ℕ → ℕ) → ℕ × ℕ → ℕ × ℕ
both_by f p = (f p.0, f p.1)

pub pairs_same : (f g : ℕ → ℕ) (n : ℕ) → ((m : ℕ) → m < n → f m ≡ g m) → (ps : List (ℕ × ℕ)) → every (λ p. ltb p.0 n && ltb p.1 n) ps ≡ true
    → map (both_by f) ps ≡ map (both_by g) ps
pairs_same f g n h [] below = refl
pairs_same f g n h (p ∷ ps) below =
    let both = and_parts (ltb p.0 n && ltb p.1 n) (every (λ (p : ℕ × ℕ). ltb p.0 n && ltb p.1 n) ps) below in
    let one = and_parts (ltb p.0 n) (ltb p.1 n) both.0 in
    let first = h p.0 (ltb-true p.0 n one.0) in
    let second = h p.1 (ltb-true p.1 n one.1) in
    λ i. (first i, second i) ∷ pairs_same f g n h ps both.1 i

-- the whole text

pub whole_text : (d : Declared) (names : List (List ℕ)) (s : Structure) (tags : List ℕ) (lines : List Line) → lines ≡ lines_of s
    → ((n : ℕ) → n < count s → get_or tags n 0 ≡ tag_of s n) → are_in (count s) (length d.features) (lines_of s) ≡ true
    → flat_map (line_text d names (type_of s) (λ n. get_or tags n 0)) lines ++ flat_map pair_text (tag_pairs s) ≡ answer_text d names s
unfolding answer_text
whole_text d names s tags lines e h below =
    ap (λ (z : List Line). flat_map (line_text d names (type_of s) (λ n. get_or tags n 0)) z ++ flat_map pair_text (tag_pairs s)) e
    ∙ ap (λ (z : List ℕ). z ++ flat_map pair_text (tag_pairs s))
    (lines_same d names (type_of s) (λ n. get_or tags n 0) (tag_of s) (count s) (length d.features) h (lines_of s) below)

-- the lines and then the pairs, as they are written
pub written : (d : Declared) (names : List (List ℕ)) (s : Structure) (tags : List ℕ) (lines : List Line) (pairs : List (ℕ × ℕ)) (old one two : List ℕ)
    → lines ≡ lines_of s → ((n : ℕ) → n < count s → get_or tags n 0 ≡ tag_of s n) → are_in (count s) (length d.features) (lines_of s) ≡ true → pairs ≡ tag_pairs s
    → one ≡ old ++ encode_utf8_all (flat_map (line_text d names (type_of s) (λ n. get_or tags n 0)) lines)
    → two ≡ one ++ encode_utf8_all (flat_map pair_text pairs)
    → two ≡ old ++ encode_utf8_all (answer_text d names s)
written d names s tags lines pairs old one two e h below f first second =
    both old one two (flat_map (line_text d names (type_of s) (λ n. get_or tags n 0)) lines) (flat_map pair_text pairs) first second
    ∙ ap (λ (z : List (ℕ × ℕ)). old ++ encode_utf8_all (flat_map (line_text d names (type_of s) (λ n. get_or tags n 0)) lines ++ flat_map pair_text z)) f
    ∙ ap (λ (z : List ℕ). old ++ encode_utf8_all z) (whole_text d names s tags lines e h below)
