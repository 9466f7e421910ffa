-- One stop of the walk, as it changes what is known of the walk so far.
use Rattle.std.proofs.Common.{◌≡◌, ℕ, zero, suc, ◌+◌, ◌<◌, ◌≤◌, Bool, true, false, ◌&&◌, ◌||◌, eqb, ltb, leb, Option, Some, None, List, [], ◌∷◌, ◌++◌, map, length, get_or, set, replicate, length-append, refl, sym, ap, ◌∙◌, subst, arith, IsTrue}
use Rattle.std.specs.Prelude.{if◌then◌else◌}
use Rattle.std.proofs.lemmas.List.{get_or-set_same, get_or-set_other, length-set, length-map}
use Rattle.std.proofs.lemmas.Bool.{and_parts, and_from, eq-eqb, eqb-true, ltb-true, leb-true, le-leb}
use Rattle.ale_declared.specs.Lists.{every}
use Rattle.ale_graph.specs.declared.node.Node.{Node}
use Rattle.ale_graph.specs.Structures.{Structure, count, node_at, is_root, is_node, is_rising, is_formed}
use Rattle.ale_morphism.specs.Visible.{some}
use Rattle.ale_graph.proofs.Lists.{every_has}
use Rattle.ale_graph.proofs.Structures.{get_has}
use Rattle.ale_print.specs.declared.line.Place.{Place}
use Rattle.ale_print.specs.declared.line.Place.TheVariants.{Root, Value, Also}
use Rattle.ale_print.specs.declared.line.Shown.{Shown}
use Rattle.ale_print.specs.declared.line.Shown.TheVariants.{Unbound, First, Again}
use Rattle.ale_print.specs.declared.line.Line.{Line}
use Rattle.ale_print.specs.declared.line.Stop.{Stop}
use Rattle.ale_print.specs.Walking.{shows_first, is_met, level_below, stop_below, stops_below, line_of, met_again, root_stops, also_stop, also_stops, walk, lines_of}
use Rattle.ale_print.specs.Pairing.{lower_first, in_order}
use Rattle.ale_print.proofs.Ordered.{every_in_order}
use Rattle.ale_print.specs.Steps.{turned, unmet, owed, to_come, are_near, IsUnderway}

-- the walk at a stop

pub walk_unbound : (s : Structure) (left : ℕ) (lines : List Line) (p : Place) (xs : List Stop)
    → walk s left lines (record { place = p; node = None } ∷ xs) ≡ walk s left (lines ++ line_of p Unbound ∷ []) xs
walk_unbound s zero lines p xs = refl
walk_unbound s (suc left) lines p xs = refl

pub walk_again : (s : Structure) (left : ℕ) (lines : List Line) (p : Place) (n : ℕ) (xs : List Stop) → is_met lines n ≡ true
    → walk s left lines (record { place = p; node = Some n } ∷ xs) ≡ walk s left (met_again lines p n) xs
walk_again s zero lines p n xs h =
    ap (λ b. if b then walk s zero (met_again lines p n) xs else lines ++ line_of p (First n) ∷ []) h
walk_again s (suc left) lines p n xs h =
    ap (λ b. if b then walk s (suc left) (met_again lines p n) xs else walk s left (lines ++ line_of p (First n) ∷ []) (stops_below s p n ++ xs)) h

pub walk_first : (s : Structure) (left : ℕ) (lines : List Line) (p : Place) (n : ℕ) (xs : List Stop) → is_met lines n ≡ false
    → walk s (suc left) lines (record { place = p; node = Some n } ∷ xs) ≡ walk s left (lines ++ line_of p (First n) ∷ []) (stops_below s p n ++ xs)
walk_first s left lines p n xs h =
    ap (λ b. if b then walk s (suc left) (met_again lines p n) xs else walk s left (lines ++ line_of p (First n) ∷ []) (stops_below s p n ++ xs)) h

-- what is met

some-push : {A : Type 0} (test : A → Bool) (xs : List A) (y : A) → some test (xs ++ y ∷ []) ≡ (some test xs || test y)
some-push test [] y = go (test y)
  where
    go : (b : Bool) → (b || false) ≡ (false || b)
    go true = refl
    go false = refl
some-push test (x ∷ xs) y = go (test x) (some-push test xs y)
  where
    go : (b : Bool) → some test (xs ++ y ∷ []) ≡ (some test xs || test y) → (b || some test (xs ++ y ∷ [])) ≡ ((b || some test xs) || test y)
    go true ih = refl
    go false ih = ih

or_false : (b : Bool) → (b || false) ≡ b
or_false true = refl
or_false false = refl

or_true : (b : Bool) → (b || true) ≡ true
or_true true = refl
or_true false = refl

pub is_met-push : (lines : List Line) (p : Place) (x : Shown) (n : ℕ) → is_met (lines ++ line_of p x ∷ []) n ≡ (is_met lines n || shows_first n x)
is_met-push lines p x n = some-push (λ l. shows_first n l.shown) lines (line_of p x)

met_unbound : (lines : List Line) (p : Place) (n : ℕ) → is_met (lines ++ line_of p Unbound ∷ []) n ≡ is_met lines n
met_unbound lines p n = is_met-push lines p Unbound n ∙ or_false (is_met lines n)

pub met_again-is : (lines : List Line) (p : Place) (m n : ℕ) → is_met (met_again lines p m) n ≡ is_met lines n
met_again-is lines (Root i) m n = is_met-push lines (Root i) (Again m) n ∙ or_false (is_met lines n)
met_again-is lines (Value level f) m n = is_met-push lines (Value level f) (Again m) n ∙ or_false (is_met lines n)
met_again-is lines Also m n = refl

absurd_bool : false ≡ true → ⊥
absurd_bool e = absurd cc

agrees_first : (met : List Bool) (lines : List Line) (p : Place) (m : ℕ) → m < length met
    → ((n : ℕ) → get_or met n false ≡ is_met lines n)
    → (n : ℕ) → get_or (set met m true) n false ≡ is_met (lines ++ line_of p (First m) ∷ []) n
agrees_first met lines p m low h n = go (eqb n m) refl
  where
    go : (b : Bool) → eqb n m ≡ b → get_or (set met m true) n false ≡ is_met (lines ++ line_of p (First m) ∷ []) n
    go true e =
        ap (λ z. get_or (set met m true) z false) (eqb-true n m e) ∙ get_or-set_same met m true false low
        ∙ sym (is_met-push lines p (First m) n ∙ ap (λ b. is_met lines n || b) e ∙ or_true (is_met lines n))
    go false e =
        get_or-set_other met m n true false (λ same. absurd_bool (sym e ∙ eq-eqb n m same)) ∙ h n
        ∙ sym (is_met-push lines p (First m) n ∙ ap (λ b. is_met lines n || b) e ∙ or_false (is_met lines n))

-- how many are not met, and what they owe

pub unmet_set : (met : List Bool) (n : ℕ) → n < length met → get_or met n false ≡ false → unmet met ≡ suc (unmet (set met n true))
unmet_set [] n low h = absurd (omega arith)
unmet_set (true ∷ ms) zero low h = cc
unmet_set (false ∷ ms) zero low h = refl
unmet_set (true ∷ ms) (suc n) low h = unmet_set ms n (omega arith) h
unmet_set (false ∷ ms) (suc n) low h = ap suc (unmet_set ms n (omega arith) h)

owed_set : (nodes : List Node) (met : List Bool) (n : ℕ) (d : Node) → n < length met → n < length nodes → get_or met n false ≡ false
    → owed nodes met ≡ length (get_or nodes n d).values + owed nodes (set met n true)
owed_set [] met n d low below h = absurd (omega arith)
owed_set (x ∷ xs) [] n d low below h = absurd (omega arith)
owed_set (x ∷ xs) (true ∷ ms) zero d low below h = cc
owed_set (x ∷ xs) (false ∷ ms) zero d low below h = omega arith
owed_set (x ∷ xs) (m ∷ ms) (suc n) d low below h =
    let ih = owed_set xs ms n d (omega arith) (omega arith) h in omega arith

-- how deep and within which nodes stops are

near_more : (n a b : ℕ) (xs : List Stop) → a ≤ b → are_near n a xs ≡ true → are_near n b xs ≡ true
near_more n a b [] le h = refl
near_more n a b (x ∷ xs) le h =
    let here = and_parts (is_root n x.node && leb (level_below x.place) (a + 1)) (are_near n a xs) h in
    let both = and_parts (is_root n x.node) (leb (level_below x.place) (a + 1)) here.0 in
    let low = leb-true (level_below x.place) (a + 1) both.1 in
    and_from (is_root n x.node && leb (level_below x.place) (b + 1)) (are_near n b xs)
    (and_from (is_root n x.node) (leb (level_below x.place) (b + 1)) both.0 (le-leb (level_below x.place) (b + 1) (omega arith)))
    (near_more n a b xs le here.1)

near-append : (n a : ℕ) (xs ys : List Stop) → are_near n a xs ≡ true → are_near n a ys ≡ true → are_near n a (xs ++ ys) ≡ true
near-append n a [] ys h k = k
near-append n a (x ∷ xs) ys h k =
    let here = and_parts (is_root n x.node && leb (level_below x.place) (a + 1)) (are_near n a xs) h in
    and_from (is_root n x.node && leb (level_below x.place) (a + 1)) (are_near n a (xs ++ ys)) here.0 (near-append n a xs ys here.1 k)

near_below : (n a level : ℕ) (vs : List (ℕ × ℕ)) → level ≤ a → every (λ v. ltb v.1 n) vs ≡ true → are_near n a (map (stop_below level) vs) ≡ true
near_below n a level [] le h = refl
near_below n a level (v ∷ vs) le h =
    let here = and_parts (ltb v.1 n) (every (λ v. ltb v.1 n) vs) h in
    and_from (ltb v.1 n && leb (level + 1) (a + 1)) (are_near n a (map (stop_below level) vs))
    (and_from (ltb v.1 n) (leb (level + 1) (a + 1)) here.0 (le-leb (level + 1) (a + 1) (omega arith)))
    (near_below n a level vs le here.1)

pub values_below : (s : Structure) → IsTrue (is_formed s) → (n : ℕ) → n < count s → every (λ v. ltb v.1 (count s)) (node_at s n).values ≡ true
values_below s formed n low =
    let nodes : every (is_node (count s)) s.nodes ≡ true = (and_parts (every (is_node (count s)) s.nodes) _ formed).0 in
    let node : is_node (count s) (node_at s n) ≡ true = every_has (is_node (count s)) s.nodes (node_at s n) nodes (get_has s.nodes n (record { of = 0; values = [] }) low) in
    (and_parts (every (λ (v : ℕ × ℕ). ltb v.1 (count s)) (node_at s n).values) (is_rising (node_at s n).values) node).0

-- the stops

pub first_near : (s : Structure) (met : List Bool) (lines : List Line) (x : Stop) (xs : List Stop)
    → IsUnderway s met lines (x ∷ xs) → (level_below x.place ≤ length lines + 1) × (is_root (count s) x.node ≡ true) × (are_near (count s) (length lines) xs ≡ true)
first_near s met lines x xs u =
    let here = and_parts (is_root (count s) x.node && leb (level_below x.place) (length lines + 1)) (are_near (count s) (length lines) xs) u.near in
    let both = and_parts (is_root (count s) x.node) (leb (level_below x.place) (length lines + 1)) here.0 in
    (leb-true (level_below x.place) (length lines + 1) both.1, both.0, here.1)

pub in_range : (s : Structure) (met : List Bool) (lines : List Line) (p : Place) (n : ℕ) (xs : List Stop)
    → IsUnderway s met lines (record { place = p; node = Some n } ∷ xs) → n < count s
in_range s met lines p n xs u = ltb-true n (count s) (first_near s met lines (record { place = p; node = Some n }) xs u).1

pub unbound_stop : (s : Structure) (met : List Bool) (lines : List Line) (p : Place) (xs : List Stop)
    → IsUnderway s met lines (record { place = p; node = None } ∷ xs)
    → IsUnderway s met (lines ++ line_of p Unbound ∷ []) xs
unbound_stop s met lines p xs u =
    let len = length-append lines (line_of p Unbound ∷ []) in
    record {
      agrees = λ n. u.agrees n ∙ sym (met_unbound lines p n);
      size = u.size;
      near = near_more (count s) (length lines) (length (lines ++ line_of p Unbound ∷ [])) xs (omega arith) (first_near s met lines (record { place = p; node = None }) xs u).2;
      rest = sym (walk_unbound s (unmet met) lines p xs) ∙ u.rest;
    }

longer : (lines : List Line) (p : Place) (n : ℕ) → length lines ≤ length (met_again lines p n)
longer lines (Root i) n = let len = length-append lines (line_of (Root i) (Again n) ∷ []) in omega arith
longer lines (Value level f) n = let len = length-append lines (line_of (Value level f) (Again n) ∷ []) in omega arith
longer lines Also n = omega arith

pub again_stop : (s : Structure) (met : List Bool) (lines : List Line) (p : Place) (n : ℕ) (xs : List Stop)
    → get_or met n false ≡ true
    → IsUnderway s met lines (record { place = p; node = Some n } ∷ xs)
    → IsUnderway s met (met_again lines p n) xs
again_stop s met lines p n xs h u =
    record {
      agrees = λ m. u.agrees m ∙ sym (met_again-is lines p n m);
      size = u.size;
      near = near_more (count s) (length lines) (length (met_again lines p n)) xs (longer lines p n) (first_near s met lines (record { place = p; node = Some n }) xs u).2;
      rest = sym (walk_again s (unmet met) lines p n xs (sym (u.agrees n) ∙ h)) ∙ u.rest;
    }

pub first_stop : (s : Structure) (met : List Bool) (lines : List Line) (p : Place) (n : ℕ) (xs : List Stop)
    → IsTrue (is_formed s) → get_or met n false ≡ false
    → IsUnderway s met lines (record { place = p; node = Some n } ∷ xs)
    → IsUnderway s (set met n true) (lines ++ line_of p (First n) ∷ []) (stops_below s p n ++ xs)
first_stop s met lines p n xs formed h u =
    let len = length-append lines (line_of p (First n) ∷ []) in
    let near = first_near s met lines (record { place = p; node = Some n }) xs u in
    let low = in_range s met lines p n xs u in
    let fits : n < length met = subst (λ z. n < z) (sym u.size) low in
    let lines_then = lines ++ line_of p (First n) ∷ [] in
    record {
      agrees = agrees_first met lines p n fits u.agrees;
      size = length-set met n true ∙ u.size;
      near = near-append (count s) (length lines_then) (stops_below s p n) xs
          (near_below (count s) (length lines_then) (level_below p) (node_at s n).values (omega arith) (values_below s formed n low))
          (near_more (count s) (length lines) (length lines_then) xs (omega arith) near.2);
      rest =
          sym (walk_first s (unmet (set met n true)) lines p n xs (sym (u.agrees n) ∙ h))
          ∙ ap (λ k. walk s k lines (record { place = p; node = Some n } ∷ xs)) (sym (unmet_set met n fits h))
          ∙ u.rest;
    }

pub fewer_first : (s : Structure) (met : List Bool) (lines : List Line) (p : Place) (n : ℕ) (xs : List Stop) (x : Stop)
    → get_or met n false ≡ false
    → IsUnderway s met lines (record { place = p; node = Some n } ∷ xs)
    → to_come s (set met n true) (stops_below s p n ++ xs) < to_come s met (x ∷ xs)
fewer_first s met lines p n xs x h u =
    let low = in_range s met lines p n xs u in
    let fits : n < length met = subst (λ z. n < z) (sym u.size) low in
    let len = length-append (stops_below s p n) xs in
    let same : length (stops_below s p n) ≡ length (node_at s n).values = length-map (node_at s n).values (stop_below (level_below p)) in
    let owes = owed_set s.nodes met n (record { of = 0; values = [] }) fits low h in
    omega arith

-- a stack

pub turned_push : {A : Type 0} (xs : List A) (x : A) (rest : List A) → turned (xs ++ x ∷ []) rest ≡ x ∷ turned xs rest
turned_push [] x rest = refl
turned_push (y ∷ xs) x rest = turned_push xs x (y ∷ rest)

-- the same where what was changed has names of its own
pub first_underway : (s : Structure) (met flagged : List Bool) (lines longer_lines : List Line) (p : Place) (n : ℕ) (xs stack : List Stop)
    → IsTrue (is_formed s) → get_or met n false ≡ false
    → flagged ≡ set met n true → longer_lines ≡ lines ++ line_of p (First n) ∷ [] → stack ≡ stops_below s p n ++ xs
    → IsUnderway s met lines (record { place = p; node = Some n } ∷ xs)
    → IsUnderway s flagged longer_lines stack × (to_come s flagged stack < to_come s met (record { place = p; node = Some n } ∷ xs))
first_underway s met flagged lines longer_lines p n xs stack formed h e f g u = (
  subst (λ (z : List Bool). IsUnderway s z longer_lines stack) (sym e)
      (subst (λ (z : List Line). IsUnderway s (set met n true) z stack) (sym f)
      (subst (λ (z : List Stop). IsUnderway s (set met n true) (lines ++ line_of p (First n) ∷ []) z) (sym g)
      (first_stop s met lines p n xs formed h u))),
  subst (λ (z : List Bool). to_come s z stack < to_come s met (record { place = p; node = Some n } ∷ xs)) (sym e)
      (subst (λ (z : List Stop). to_come s (set met n true) z < to_come s met (record { place = p; node = Some n } ∷ xs)) (sym g)
      (fewer_first s met lines p n xs (record { place = p; node = Some n }) h u)),
)

-- how the walk begins

pub none_flagged : (n i : ℕ) → get_or (replicate n false) i false ≡ false
none_flagged zero i = refl
none_flagged (suc n) zero = refl
none_flagged (suc n) (suc i) = none_flagged n i

all_unmet : (n : ℕ) → unmet (replicate n false) ≡ n
all_unmet zero = refl
all_unmet (suc n) = ap suc (all_unmet n)

pub length_replicate : {A : Type 0} (n : ℕ) (x : A) → length (replicate n x) ≡ n
length_replicate zero x = refl
length_replicate (suc n) x = ap suc (length_replicate n x)

near_roots : (n i : ℕ) (rs : List (Option ℕ)) → every (is_root n) rs ≡ true → are_near n 0 (root_stops i rs) ≡ true
near_roots n i [] h = refl
near_roots n i (r ∷ rs) h =
    let both = and_parts (is_root n r) (every (is_root n) rs) h in
    and_from (is_root n r && true) (are_near n 0 (root_stops (suc i) rs)) (and_from (is_root n r) true both.0 refl) (near_roots n (suc i) rs both.1)

near_also : (n : ℕ) (ps : List (ℕ × ℕ)) → every (λ p. ltb p.0 n && ltb p.1 n) ps ≡ true → are_near n 0 (also_stops ps) ≡ true
near_also n [] h = refl
near_also n (p ∷ ps) h =
    let both = and_parts (ltb p.0 n && ltb p.1 n) (every (λ p. ltb p.0 n && ltb p.1 n) ps) h in
    let one = and_parts (ltb p.0 n) (ltb p.1 n) both.0 in
    and_from (ltb p.0 n && true) (are_near n 0 (also_stop p.1 ∷ also_stops ps)) (and_from (ltb p.0 n) true one.0 refl)
    (and_from (ltb p.1 n && true) (are_near n 0 (also_stops ps)) (and_from (ltb p.1 n) true one.1 refl) (near_also n ps both.1))

pub turned_below : (n : ℕ) (p : ℕ × ℕ) → (ltb p.0 n && ltb p.1 n) ≡ true → (ltb (lower_first p).0 n && ltb (lower_first p).1 n) ≡ true
turned_below n p h = go (ltb p.1 p.0)
  where
    go : (b : Bool) → (ltb (if b then (p.1, p.0) else p).0 n && ltb (if b then (p.1, p.0) else p).1 n) ≡ true
    go true = let both = and_parts (ltb p.0 n) (ltb p.1 n) h in and_from (ltb p.1 n) (ltb p.0 n) both.1 both.0
    go false = h

pub pairs_below : (s : Structure) → IsTrue (is_formed s) → every (λ p. ltb p.0 (count s) && ltb p.1 (count s)) s.differ ≡ true
pairs_below s formed =
    let rest = (and_parts (every (is_node (count s)) s.nodes) (every (λ (p : ℕ × ℕ). ltb p.0 (count s) && ltb p.1 (count s)) s.differ && every (is_root (count s)) s.roots) formed).1 in
    (and_parts (every (λ (p : ℕ × ℕ). ltb p.0 (count s) && ltb p.1 (count s)) s.differ) (every (is_root (count s)) s.roots) rest).0

pub roots_below : (s : Structure) → IsTrue (is_formed s) → every (is_root (count s)) s.roots ≡ true
roots_below s formed =
    let rest = (and_parts (every (is_node (count s)) s.nodes) (every (λ (p : ℕ × ℕ). ltb p.0 (count s) && ltb p.1 (count s)) s.differ && every (is_root (count s)) s.roots) formed).1 in
    (and_parts (every (λ (p : ℕ × ℕ). ltb p.0 (count s) && ltb p.1 (count s)) s.differ) (every (is_root (count s)) s.roots) rest).1

pub begun : (s : Structure) (n : ℕ) → n ≡ count s → IsTrue (is_formed s)
    → IsUnderway s (replicate n false) [] (root_stops 0 s.roots ++ also_stops (in_order s.differ))
unfolding lines_of
begun s n e formed =
    record {
      agrees = λ i. none_flagged n i;
      size = length_replicate n false ∙ e;
      near = near-append (count s) 0 (root_stops 0 s.roots) (also_stops (in_order s.differ))
          (near_roots (count s) 0 s.roots (roots_below s formed))
          (near_also (count s) (in_order s.differ)
          (every_in_order (λ p. ltb p.0 (count s) && ltb p.1 (count s)) s.differ (turned_below (count s)) (pairs_below s formed)));
      rest = ap (λ k. walk s k [] (root_stops 0 s.roots ++ also_stops (in_order s.differ))) (all_unmet n ∙ e);
    }

pub begun_with : (s : Structure) (n : ℕ) (met : List Bool) (lines : List Line) (stack : List Stop) → n ≡ count s → IsTrue (is_formed s)
    → met ≡ replicate n false → lines ≡ [] → stack ≡ root_stops 0 s.roots ++ also_stops (in_order s.differ) → IsUnderway s met lines stack
begun_with s n met lines stack e formed f g h =
    subst (λ (z : List Bool). IsUnderway s z lines stack) (sym f)
    (subst (λ (z : List Line). IsUnderway s (replicate n false) z stack) (sym g)
    (subst (λ (z : List Stop). IsUnderway s (replicate n false) [] z) (sym h) (begun s n e formed)))

-- the values that were pushed are those of the node
pub pushed : (s : Structure) (p : Place) (n : ℕ) (xs : List Stop) (level : ℕ) (values : List (ℕ × ℕ)) → level ≡ level_below p → values ≡ (node_at s n).values
    → map (stop_below level) values ++ xs ≡ stops_below s p n ++ xs
pushed s p n xs level values e f =
    ap (λ k. map (stop_below k) values ++ xs) e ∙ ap (λ (z : List (ℕ × ℕ)). map (stop_below (level_below p)) z ++ xs) f
